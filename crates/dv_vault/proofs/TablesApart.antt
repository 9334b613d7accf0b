-- No raw table stands twice among the tables of a mapping.
use Rattle.dv_vault.proofs.Vocabulary.{Bool, FeedDef, IsVaultOf, List, Mapping, TableId, TableRows, [], all_pass, all_pass_both, and_from, and_parts, ap, are_apart, arith, effect_tables, false, false≢true, feed_tables, is_hub, is_link, length, list_all, list_all-map, list_any, list_any-append}
use Rattle.dv_vault.proofs.Vocabulary.{list_any-map, map, nat_lt, nat_tests, none_pass, not, not-true, passes_at, range_with_len, refl, same_answer, same_table, sat_tables, suc, sym, table_eq, tables, true, zero, ℕ, ◌&&◌, ◌++◌, ◌+◌, ◌<◌, ◌==◌, ◌||◌, ◌∙◌, ◌∷◌, ◌≡◌}
use Rattle.dv_catalog.specs.declared.tables.TableId.TheVariants as ids

-- no two tables are one
abbrev are_distinct : List TableId → Bool
are_distinct [] = true
are_distinct (id ∷ ids) = not (list_any (λ other. table_eq other id) ids) && are_distinct ids

-- ---- two parts that a test tells apart

-- a table that fails the test is none of those that pass it
none_is : (test : TableId → Bool) (id : TableId) (all : List TableId) → test id ≡ false → list_all test all ≡ true → list_any (λ other. table_eq other id) all ≡ false
none_is test id all fails pass = none_pass (λ other. table_eq other id) all (λ other has.
    same_answer _ false (λ t. sym fails ∙ ap test (sym (same_table other id t)) ∙ passes_at test all other pass has) (λ no. absurd (false≢true no)))

distinct_both : (test : TableId → Bool) (first second : List TableId) → are_distinct first ≡ true → are_distinct second ≡ true → list_all (λ id. not (test id)) first ≡ true → list_all test second ≡ true
    → are_distinct (first ++ second) ≡ true
distinct_both test [] second apart others fail pass = others
distinct_both test (id ∷ first) second apart others fail pass =
    let (alone, rest) = and_parts (not (list_any (λ other. table_eq other id) first)) (are_distinct first) apart in
    let (here, behind) = and_parts (not (test id)) (list_all (λ id. not (test id)) first) fail in
    let none : list_any (λ other. table_eq other id) (first ++ second) ≡ false =
    list_any-append (λ other. table_eq other id) first second
    ∙ (λ i. not-true (list_any (λ other. table_eq other id) first) alone i || none_is test id second (not-true (test id) here) pass i) in
    and_from _ _ (ap not none) (distinct_both test first second rest others behind pass)

-- ---- hubs and links

-- a test that a kind of table passes
pub all_numbers : (kind : ℕ → TableId) (test : TableId → Bool) → ((n : ℕ) → test (kind n) ≡ true) → (places : List ℕ) → list_all test (map kind places) ≡ true
all_numbers kind test each places = list_all-map test kind places ∙ all_pass (λ n. test (kind n)) places (λ n has. each n)

module _ (kind : ℕ → TableId) (told : (m n : ℕ) → table_eq (kind m) (kind n) ≡ (m == n)) where
  none_later : (n start count : ℕ) → n < start → list_any (λ other. table_eq other (kind n)) (map kind (range_with_len start count)) ≡ false
  none_later n start zero less = refl
  none_later n start (suc count) less =
      let isnt : (start == n) ≡ false = grind (arith, nat_tests, less) in
      rw (told start n, isnt) (none_later n (start + 1) count (omega (arith, less)))

  numbers_distinct : (start count : ℕ) → are_distinct (map kind (range_with_len start count)) ≡ true
  numbers_distinct start zero = refl
  numbers_distinct start (suc count) = and_from _ _ (ap not (none_later start (start + 1) count (omega arith))) (numbers_distinct (start + 1) count)

-- ---- feeds

-- a table of a feed
abbrev of_feeds : TableId → Bool
of_feeds id = not (is_hub id) && not (is_link id)

-- a table of a feed behind this one
abbrev is_behind : ℕ → TableId → Bool
is_behind n (ids.Hub m) = false
is_behind n (ids.Link m) = false
is_behind n (ids.Sat m) = nat_lt n m
is_behind n (ids.Multi m) = nat_lt n m
is_behind n (ids.Status m) = nat_lt n m
is_behind n (ids.Effect m) = nat_lt n m

-- the tables of one feed
abbrev tables_of : ℕ → List (List ℕ) → List (List ℕ) → List ℕ → List TableId
tables_of n sub attrs driver = sat_tables n sub attrs ++ ids.Status n ∷ effect_tables n driver

-- a test that each of the four kinds passes
all_of : (test : TableId → Bool) (n : ℕ) → test (ids.Sat n) ≡ true → test (ids.Multi n) ≡ true → test (ids.Status n) ≡ true → test (ids.Effect n) ≡ true
    → (sub attrs : List (List ℕ)) (driver : List ℕ) → list_all test (tables_of n sub attrs driver) ≡ true
all_of test n sat multi status effect sub attrs driver = all_pass_both test (sat_tables n sub attrs) (ids.Status n ∷ effect_tables n driver) (sats sub attrs) (and_from _ _ status (effects driver))
  where
    sats : (sub attrs : List (List ℕ)) → list_all test (sat_tables n sub attrs) ≡ true
    sats sub [] = refl
    sats [] (a ∷ attrs) = and_from _ _ sat refl
    sats (s ∷ sub) (a ∷ attrs) = and_from _ _ multi refl

    effects : (driver : List ℕ) → list_all test (effect_tables n driver) ≡ true
    effects [] = refl
    effects (d ∷ driver) = and_from _ _ effect refl

one_feed : (n : ℕ) (sub attrs : List (List ℕ)) (driver : List ℕ) → are_distinct (tables_of n sub attrs driver) ≡ true
one_feed n sub [] [] = refl
one_feed n sub [] (d ∷ driver) = refl
one_feed n [] (a ∷ attrs) [] = refl
one_feed n [] (a ∷ attrs) (d ∷ driver) = refl
one_feed n (s ∷ sub) (a ∷ attrs) [] = refl
one_feed n (s ∷ sub) (a ∷ attrs) (d ∷ driver) = refl

feeds_behind : (n start : ℕ) (feeds : List FeedDef) → n < start → list_all (is_behind n) (feed_tables start feeds) ≡ true
feeds_behind n start [] less = refl
feeds_behind n start (feed ∷ feeds) less =
    let behind : nat_lt n start ≡ true = grind (arith, nat_tests, less) in
    all_pass_both (is_behind n) (tables_of start feed.sub feed.attrs feed.driver) (feed_tables (start + 1) feeds)
    (all_of (is_behind n) start behind behind behind behind feed.sub feed.attrs feed.driver) (feeds_behind n (start + 1) feeds (omega (arith, less)))

not_itself : (n : ℕ) → not (nat_lt n n) ≡ true
not_itself n = ap not (same n)
  where
    same : (n : ℕ) → nat_lt n n ≡ false
    same n = grind (arith, nat_tests)

feeds_distinct : (n : ℕ) (feeds : List FeedDef) → are_distinct (feed_tables n feeds) ≡ true
feeds_distinct n [] = refl
feeds_distinct n (feed ∷ feeds) =
    distinct_both (is_behind n) (tables_of n feed.sub feed.attrs feed.driver) (feed_tables (n + 1) feeds)
    (one_feed n feed.sub feed.attrs feed.driver) (feeds_distinct (n + 1) feeds)
    (all_of (λ id. not (is_behind n id)) n (not_itself n) (not_itself n) (not_itself n) (not_itself n) feed.sub feed.attrs feed.driver)
    (feeds_behind n (n + 1) feeds (omega arith))

are_of_feeds : (n : ℕ) (feeds : List FeedDef) → list_all of_feeds (feed_tables n feeds) ≡ true
are_of_feeds n [] = refl
are_of_feeds n (feed ∷ feeds) =
    all_pass_both of_feeds (tables_of n feed.sub feed.attrs feed.driver) (feed_tables (n + 1) feeds)
    (all_of of_feeds n refl refl refl refl feed.sub feed.attrs feed.driver) (are_of_feeds (n + 1) feeds)

-- ---- all tables

tables_distinct : (mapping : Mapping) → are_distinct (tables mapping) ≡ true
tables_distinct mapping =
    let hubs : List TableId = map (λ n. ids.Hub n) (range_with_len 0 (length mapping.hubs)) in
    let links : List TableId = map (λ n. ids.Link n) (range_with_len 0 (length mapping.links)) in
    distinct_both of_feeds (hubs ++ links) (feed_tables 0 mapping.feeds)
    (distinct_both is_link hubs links
    (numbers_distinct (λ n. ids.Hub n) (λ m n. refl) 0 (length mapping.hubs))
    (numbers_distinct (λ n. ids.Link n) (λ m n. refl) 0 (length mapping.links))
    (all_numbers (λ n. ids.Hub n) (λ id. not (is_link id)) (λ n. refl) (range_with_len 0 (length mapping.hubs)))
    (all_numbers (λ n. ids.Link n) is_link (λ n. refl) (range_with_len 0 (length mapping.links))))
    (feeds_distinct 0 mapping.feeds)
    (all_pass_both (λ id. not (of_feeds id)) hubs links
    (all_numbers (λ n. ids.Hub n) (λ id. not (of_feeds id)) (λ n. refl) (range_with_len 0 (length mapping.hubs)))
    (all_numbers (λ n. ids.Link n) (λ id. not (of_feeds id)) (λ n. refl) (range_with_len 0 (length mapping.links))))
    (are_of_feeds 0 mapping.feeds)

by_tables : (entries : List TableRows) → are_apart entries ≡ are_distinct (map (λ entry. entry.table) entries)
by_tables [] = refl
by_tables (entry ∷ entries) =
    let here = sym (list_any-map (λ other. table_eq other entry.table) (λ (entry : TableRows). entry.table) entries) in
    λ i. not (here i) && by_tables entries i

-- the tables of a vault are apart
pub vault_apart : (mapping : Mapping) (entries : List TableRows) → IsVaultOf mapping entries → are_apart entries ≡ true
vault_apart mapping entries are = by_tables entries ∙ ap are_distinct are ∙ tables_distinct mapping
