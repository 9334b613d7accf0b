-- The places of tables in table order, and how many tables of each kind stand before a place.
use Rattle.dv_restore.proofs.Vocabulary.{AreCounted, Contains-get_or, Effect, FeedDef, Gathered, HasPut, HubId, IsPut, LinkId, List, Mapping, Multi, Sat, Status, Table, TableId, TableRows, [], all_pass_both, and_parts, ap, are_apart, arith, cases_lt, effect_tables, entry_of, false}
use Rattle.dv_restore.proofs.Vocabulary.{false_from_ne_true, false≢true, feed_tables, get_or, get_or-append_right, get_or-map-range_with_len, get_or_append_left, inl, inr, is_of_feed, item_in, length, length-append, length-map-range_with_len, list_all, list_any, map, map-append, no_rows}
use Rattle.dv_restore.proofs.Vocabulary.{none_passes, not, not-true, passes_at, range_with_len, refl, rules, same_table, sat_tables, subst, sym, table_eq, table_eq-itself, tables, true, vault_apart, ℕ, ◌++◌, ◌+◌, ◌-◌, ◌<◌, ◌∙◌, ◌∷◌, ◌≡◌, ◌≤◌}
use Rattle.dv_restore.proofs.GatheredEntries.{IsNext}
use Rattle.dv_vault.specs.declared.tables.Table.TheVariants as table

-- ---- the kind of a table by its place

-- which table stands at a place
abbrev pub IsPlaced : Mapping → ℕ → TableId → Type 0
IsPlaced mapping i (HubId n) = (i < length mapping.hubs) × (n ≡ i)
IsPlaced mapping i (LinkId n) = (length mapping.hubs ≤ i) × (i < length mapping.hubs + length mapping.links) × (n + length mapping.hubs ≡ i)
IsPlaced mapping i (Sat n) = length mapping.hubs + length mapping.links ≤ i
IsPlaced mapping i (Multi n) = length mapping.hubs + length mapping.links ≤ i
IsPlaced mapping i (Status n) = length mapping.hubs + length mapping.links ≤ i
IsPlaced mapping i (Effect n) = length mapping.hubs + length mapping.links ≤ i

sats_of_feed : (n : ℕ) (sub attrs : List (List ℕ)) → list_all is_of_feed (sat_tables n sub attrs) ≡ true
sats_of_feed n sub [] = refl
sats_of_feed n [] (a ∷ attrs) = refl
sats_of_feed n (s ∷ sub) (a ∷ attrs) = refl

effects_of_feed : (n : ℕ) (driver : List ℕ) → list_all is_of_feed (effect_tables n driver) ≡ true
effects_of_feed n [] = refl
effects_of_feed n (d ∷ driver) = refl

are_of_feeds : (n : ℕ) (feeds : List FeedDef) → list_all is_of_feed (feed_tables n feeds) ≡ true
are_of_feeds n [] = refl
are_of_feeds n (feed ∷ feeds) =
    all_pass_both is_of_feed (sat_tables n feed.sub feed.attrs ++ Status n ∷ effect_tables n feed.driver) (feed_tables (n + 1) feeds)
    (all_pass_both is_of_feed (sat_tables n feed.sub feed.attrs) (Status n ∷ effect_tables n feed.driver) (sats_of_feed n feed.sub feed.attrs) (effects_of_feed n feed.driver))
    (are_of_feeds (n + 1) feeds)

feed_placed : (mapping : Mapping) (i : ℕ) (id : TableId) → is_of_feed id ≡ true → length mapping.hubs + length mapping.links ≤ i → IsPlaced mapping i id
feed_placed mapping i id of le = search rules

pub placed : (mapping : Mapping) (i : ℕ) (id : TableId) → i < length (tables mapping) → get_or (tables mapping) i id ≡ id → IsPlaced mapping i id
placed mapping i id within here =
    let hubs = map (λ n. HubId n) (range_with_len 0 (length mapping.hubs)) in
    let links = map (λ n. LinkId n) (range_with_len 0 (length mapping.links)) in
    let feeds = feed_tables 0 mapping.feeds in
    let hubs_long : length hubs ≡ length mapping.hubs = length-map-range_with_len (λ n. HubId n) 0 (length mapping.hubs) in
    let links_long : length links ≡ length mapping.links = length-map-range_with_len (λ n. LinkId n) 0 (length mapping.links) in
    let both_long : length (hubs ++ links) ≡ length mapping.hubs + length mapping.links = omega (arith, length-append hubs links) in
    elim (cases_lt i (length mapping.hubs)) [
      | inl hub ↦
          let is : get_or (hubs ++ links ++ feeds) i id ≡ HubId i =
          get_or_append_left (hubs ++ links) feeds id i (omega arith) ∙ get_or_append_left hubs links id i (omega arith) ∙ get_or-map-range_with_len (λ n. HubId n) 0 (length mapping.hubs) i i id hub (omega arith) in
          subst (IsPlaced mapping i) (sym is ∙ here) (hub, refl)
      | inr behind ↦ elim (cases_lt i (length mapping.hubs + length mapping.links)) [
        | inl link ↦
            let is : get_or (hubs ++ links ++ feeds) i id ≡ LinkId (i - length mapping.hubs) =
            get_or_append_left (hubs ++ links) feeds id i (omega arith) ∙ get_or-append_right hubs links (length mapping.hubs) i id hubs_long behind
            ∙ get_or-map-range_with_len (λ n. LinkId n) 0 (length mapping.links) (i - length mapping.hubs) (i - length mapping.hubs) id (omega arith) (omega arith) in
            let number : i - length mapping.hubs + length mapping.hubs ≡ i = omega arith in
            subst (IsPlaced mapping i) (sym is ∙ here) (behind, link, number)
        | inr last ↦
            let place = i - (length mapping.hubs + length mapping.links) in
            let is : get_or feeds place id ≡ id = sym (get_or-append_right (hubs ++ links) feeds (length mapping.hubs + length mapping.links) i id both_long last) ∙ here in
            let under : place < length feeds = omega (arith, length-append (hubs ++ links) feeds) in
            feed_placed mapping i id (ap is_of_feed (sym is) ∙ passes_at is_of_feed feeds (get_or feeds place id) (are_of_feeds 0 mapping.feeds) (Contains-get_or feeds place id under)) last
      ]
    ]

-- ---- how many tables of each kind are gathered

module _ (mapping : Mapping) (i : ℕ) (gathered : Gathered) (counted : AreCounted mapping gathered i) where
  pub next_of : (id : TableId) → IsPlaced mapping i id → IsNext gathered id
  next_of (HubId n) (under, is) = (omega (arith, counted.hubs), omega (arith, counted.links), omega (arith, counted.feeds))
  next_of (LinkId n) (behind, under, is) = (omega (arith, counted.links), omega (arith, counted.feeds))
  next_of (Sat n) le = tt
  next_of (Multi n) le = tt
  next_of (Status n) le = tt
  next_of (Effect n) le = tt

  module _ (weight : ℕ) (new : Gathered) where
    feed_counted : (next : Table) → HasPut gathered [] [] (next ∷ []) weight new → length mapping.hubs + length mapping.links ≤ i → AreCounted mapping new (i + 1)
    feed_counted next put le = record {
      hubs = omega (arith, counted.hubs, ap length put.hubs_are, length-append gathered.hubs.items []);
      links = omega (arith, counted.links, ap length put.links_are, length-append gathered.links.items []);
      feeds = omega (arith, counted.feeds, ap length put.feeds_are, length-append gathered.feeds.items (next ∷ []));
    }

    pub counted_put : (next : Table) → IsPut gathered next weight new → IsPlaced mapping i (entry_of next).table → AreCounted mapping new (i + 1)
    counted_put (table.Hub hub rows) put (under, is) = record {
      hubs = omega (arith, counted.hubs, ap length put.hubs_are, length-append gathered.hubs.items (rows ∷ []));
      links = omega (arith, counted.links, ap length put.links_are, length-append gathered.links.items []);
      feeds = omega (arith, counted.feeds, ap length put.feeds_are, length-append gathered.feeds.items []);
    }
    counted_put (table.Link link rows) put (behind, under, is) = record {
      hubs = omega (arith, counted.hubs, ap length put.hubs_are, length-append gathered.hubs.items []);
      links = omega (arith, counted.links, ap length put.links_are, length-append gathered.links.items (rows ∷ []));
      feeds = omega (arith, counted.feeds, ap length put.feeds_are, length-append gathered.feeds.items []);
    }
    counted_put (table.Sat feed rows) put le = feed_counted (table.Sat feed rows) put le
    counted_put (table.Multi feed rows) put le = feed_counted (table.Multi feed rows) put le
    counted_put (table.Status feed rows) put le = feed_counted (table.Status feed rows) put le
    counted_put (table.Effect feed rows) put le = feed_counted (table.Effect feed rows) put le

-- ---- tables that stand once

apart_behind : (entries : List TableRows) (entry : TableRows) (rest : List TableRows) → are_apart (entries ++ entry ∷ rest) ≡ true → list_any (λ other. table_eq other.table entry.table) entries ≡ false
apart_behind [] entry rest apart = refl
apart_behind (first ∷ entries) entry rest apart =
    let (alone, later) = and_parts (not (list_any (λ other. table_eq other.table first.table) (entries ++ entry ∷ rest))) (are_apart (entries ++ entry ∷ rest)) apart in
    let none : list_any (λ other. table_eq other.table first.table) (entries ++ entry ∷ rest) ≡ false = not-true (list_any (λ other. table_eq other.table first.table) (entries ++ entry ∷ rest)) alone in
    let other : table_eq entry.table first.table ≡ false = none_passes (λ (other : TableRows). table_eq other.table first.table) (entries ++ entry ∷ rest) entry none (item_in entries entry rest) in
    let here : table_eq first.table entry.table ≡ false = false_from_ne_true (table_eq first.table entry.table) (λ same.
    false≢true (sym other ∙ ap (λ x. table_eq x first.table) (sym (same_table first.table entry.table same)) ∙ table_eq-itself first.table)) in
    rw here (apart_behind entries entry rest later)

abbrev without_rows : TableId → TableRows
without_rows id = record { table = id; rows = no_rows id }

tables_back : (all : List TableId) → map (λ entry. entry.table) (map without_rows all) ≡ all
tables_back [] = refl
tables_back (id ∷ all) = ap (λ l. id ∷ l) (tables_back all)

-- a table of a mapping is none of those before it
pub none_before : (mapping : Mapping) (entries : List TableRows) (id : TableId) (rest : List TableId) → map (λ entry. entry.table) entries ++ id ∷ rest ≡ tables mapping → list_any (λ other. table_eq other.table id) entries ≡ false
none_before mapping entries id rest are =
    apart_behind entries (without_rows id) (map without_rows rest)
    (vault_apart mapping (entries ++ map without_rows (id ∷ rest))
    (map-append (λ (entry : TableRows). entry.table) entries (map without_rows (id ∷ rest)) ∙ ap (λ l. map (λ (entry : TableRows). entry.table) entries ++ l) (tables_back (id ∷ rest)) ∙ are))
