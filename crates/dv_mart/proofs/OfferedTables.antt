-- What an offered word can name: a feed, a hub or a path of the mapping, a feed that has an effectivity table, or a table.
use Rattle.dv_mart.proofs.Vocabulary.{Bool, Bridge, Contains, Effect, Feed, IsOffered, List, Mapping, None, Option, Path, Period, Pit, Some, Table, TableId, What, [], arith, behind, bridge_word, bytes_eq, codes, cond, driver_feed_place, false, feed_place, feed_word, first_of, found_member}
use Rattle.dv_mart.proofs.Vocabulary.{has_driver, hub_place, hub_word, if_driver, if◌then◌else◌, length, nat_lt, nat_tests, option_and_then, option_map, path_place, path_word, period_word, pit_word, position_or_len, refl, slice_get, subst, table_name, table_named, table_word, tables, true, ℕ}
use Rattle.dv_mart.proofs.Vocabulary.{◌<◌, ◌∷◌, ◌≡◌}
use Rattle.dv_mart.proofs.DrivenFeeds.{has_effect}
use Rattle.dv_mart.specs.declared.whats.What.TheVariants.{Hub}

abbrev pub CanBe : Mapping → What → Type 0
CanBe mapping (Feed feed) = feed < length mapping.feeds
CanBe mapping (Hub hub) = hub < length mapping.hubs
CanBe mapping (Pit hub) = hub < length mapping.hubs
CanBe mapping (Period feed) = Contains (tables mapping) (Effect feed)
CanBe mapping (Table table) = Contains (tables mapping) table
CanBe mapping (Path path) = path < length mapping.paths
CanBe mapping (Bridge path) = path < length mapping.paths

found_under : (n i count : ℕ) → cond (nat_lt n count) (Some n) None ≡ Some i → i < count
found_under n i count e = by (nat_lt n count) refl e
  where
    by : (b : Bool) → nat_lt n count ≡ b → cond b (Some n) None ≡ Some i → i < count
    by true under is =
        let got : Some n ≡ Some i = is in
        let same : n ≡ i = cc in
        grind (arith, nat_tests, under, same)
    by false under is = let no : None ≡ Some i = is in cc

feed_named : (mapping : Mapping) (rest : Option (List ℕ)) (what : What) → option_map (λ feed. Feed feed) (option_and_then (feed_place mapping) rest) ≡ Some what → CanBe mapping what
feed_named mapping None what e = let no : None ≡ Some what = e in cc
feed_named mapping (Some name) what e = by (feed_place mapping name) refl e
  where
    by : (place : Option ℕ) → feed_place mapping name ≡ place → option_map (λ feed. Feed feed) place ≡ Some what → CanBe mapping what
    by None at is = let no : None ≡ Some what = is in cc
    by (Some feed) at is =
        let got : Some (Feed feed) ≡ Some what = is in
        let same : Feed feed ≡ what = cc in
        subst (CanBe mapping) same (found_under (position_or_len (λ feed. bytes_eq feed.name name) mapping.feeds) feed (length mapping.feeds) at)

-- a feed with a driver
period_named : (mapping : Mapping) (rest : Option (List ℕ)) (what : What) → option_map (λ feed. Period feed) (option_and_then (driver_feed_place mapping) rest) ≡ Some what → CanBe mapping what
period_named mapping None what e = let no : None ≡ Some what = e in cc
period_named mapping (Some name) what e = by (feed_place mapping name) e
  where
    driven : (feed : ℕ) (b : Bool) → has_driver (slice_get mapping.feeds feed) ≡ b → option_map (λ feed. Period feed) (if b then Some feed else None) ≡ Some what → CanBe mapping what
    driven feed true some is =
        let got : Some (Period feed) ≡ Some what = is in
        let same : Period feed ≡ what = cc in
        subst (CanBe mapping) same (has_effect mapping feed some)
    driven feed false some is = let no : None ≡ Some what = is in cc

    by : (place : Option ℕ) → option_map (λ feed. Period feed) (option_and_then (if_driver mapping) place) ≡ Some what → CanBe mapping what
    by None is = let no : None ≡ Some what = is in cc
    by (Some feed) is = driven feed (has_driver (slice_get mapping.feeds feed)) refl is

-- the raw table with a name is one of the mapping
pub named_among : (mapping : Mapping) (name : List ℕ) (table : TableId) → table_named mapping name ≡ Some table → Contains (tables mapping) table
named_among mapping name table found = (found_member (λ table. bytes_eq (table_name mapping table) name) (tables mapping) table found).0

table_found : (mapping : Mapping) (rest : Option (List ℕ)) (what : What) → option_map (λ table. Table table) (option_and_then (table_named mapping) rest) ≡ Some what → CanBe mapping what
table_found mapping None what e = let no : None ≡ Some what = e in cc
table_found mapping (Some name) what e = by (table_named mapping name) refl e
  where
    by : (found : Option TableId) → table_named mapping name ≡ found → option_map (λ table. Table table) found ≡ Some what → CanBe mapping what
    by None at is = let no : None ≡ Some what = is in cc
    by (Some table) at is =
        let got : Some (Table table) ≡ Some what = is in
        let same : Table table ≡ what = cc in
        subst (CanBe mapping) same (named_among mapping name table at)

-- a hub, as its mart or as its point-in-time table
hub_named : (mapping : Mapping) (make : ℕ → What) → ((hub : ℕ) → hub < length mapping.hubs → CanBe mapping (make hub)) → (rest : Option (List ℕ)) (what : What)
    → option_map make (option_and_then (hub_place mapping) rest) ≡ Some what → CanBe mapping what
hub_named mapping make fits None what e = let no : None ≡ Some what = e in cc
hub_named mapping make fits (Some name) what e = by (hub_place mapping name) refl e
  where
    by : (place : Option ℕ) → hub_place mapping name ≡ place → option_map make place ≡ Some what → CanBe mapping what
    by None at is = let no : None ≡ Some what = is in cc
    by (Some hub) at is =
        let got : Some (make hub) ≡ Some what = is in
        let same : make hub ≡ what = cc in
        subst (CanBe mapping) same (fits hub (found_under (position_or_len (λ hub. bytes_eq hub.name name) mapping.hubs) hub (length mapping.hubs) at))

-- a path, as its mart or as its bridge table
path_named : (mapping : Mapping) (make : ℕ → What) → ((path : ℕ) → path < length mapping.paths → CanBe mapping (make path)) → (rest : Option (List ℕ)) (what : What)
    → option_map make (option_and_then (path_place mapping) rest) ≡ Some what → CanBe mapping what
path_named mapping make fits None what e = let no : None ≡ Some what = e in cc
path_named mapping make fits (Some name) what e = by (path_place mapping name) refl e
  where
    by : (place : Option ℕ) → path_place mapping name ≡ place → option_map make place ≡ Some what → CanBe mapping what
    by None at is = let no : None ≡ Some what = is in cc
    by (Some path) at is =
        let got : Some (make path) ≡ Some what = is in
        let same : make path ≡ what = cc in
        subst (CanBe mapping) same (fits path (found_under (position_or_len (λ path. bytes_eq path.name name) mapping.paths) path (length mapping.paths) at))

-- the first word that names something
either : (mapping : Mapping) (first : Option What) (rest : List (Option What)) (what : What) → (first ≡ Some what → CanBe mapping what) → (first_of rest ≡ Some what → CanBe mapping what)
    → first_of (first ∷ rest) ≡ Some what → CanBe mapping what
either mapping None rest what this others e = others e
either mapping (Some named) rest what this others e = this e

nothing : (mapping : Mapping) (what : What) → first_of [] ≡ Some what → CanBe mapping what
nothing mapping what e = let no : None ≡ Some what = e in cc

pub can_be : (mapping : Mapping) (what : What) → IsOffered mapping what → CanBe mapping what
can_be mapping what offered =
    either mapping (feed_word mapping word) (hub_word mapping word ∷ path_word mapping word ∷ period_word mapping word ∷ table_word mapping word ∷ pit_word mapping word ∷ bridge_word mapping word ∷ []) what (feed_named mapping (behind (codes "feed:") word) what) (
    either mapping (hub_word mapping word) (path_word mapping word ∷ period_word mapping word ∷ table_word mapping word ∷ pit_word mapping word ∷ bridge_word mapping word ∷ []) what (hub_named mapping (λ hub. Hub hub) (λ hub fits. fits) (behind (codes "hub:") word) what) (
    either mapping (path_word mapping word) (period_word mapping word ∷ table_word mapping word ∷ pit_word mapping word ∷ bridge_word mapping word ∷ []) what (path_named mapping (λ path. Path path) (λ path fits. fits) (behind (codes "path:") word) what) (
    either mapping (period_word mapping word) (table_word mapping word ∷ pit_word mapping word ∷ bridge_word mapping word ∷ []) what (period_named mapping (behind (codes "period:") word) what) (
    either mapping (table_word mapping word) (pit_word mapping word ∷ bridge_word mapping word ∷ []) what (table_found mapping (behind (codes "table:") word) what) (
    either mapping (pit_word mapping word) (bridge_word mapping word ∷ []) what (hub_named mapping (λ hub. Pit hub) (λ hub fits. fits) (behind (codes "pit:") word) what) (
    either mapping (bridge_word mapping word) [] what (path_named mapping (λ path. Bridge path) (λ path fits. fits) (behind (codes "bridge:") word) what)
    (nothing mapping what)))))))
    offered.offered
  where
    word : List ℕ
    word = offered.word
