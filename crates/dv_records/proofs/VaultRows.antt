-- The rows of a table in the vault, and which tables a mapping has.
use Rattle.dv_records.proofs.Vocabulary.{Backwards, Bool, Contains, Contains-append_left, Contains-append_right, Contains-cons_cases, Contains-cons_here, Contains-cons_there, Contains-map, Contains-nil, Contains-range, Effect, FeedDef, Hashes, HoldsTable, List, Mapping, Multi, None, Sat, Some}
use Rattle.dv_records.proofs.Vocabulary.{Status, TableId, Window, [], ap, appended, arith, backwards, effect_batch, effect_rows, effect_rows_in, effect_tables, false, false≢true, feed_batch, feed_tables, hub_batch, hub_rows, hub_rows_in, length, link_batch, link_rows, link_rows_in, map}
use Rattle.dv_records.proofs.Vocabulary.{multi_batch, multi_rows, multi_rows_in, no_rows, range_with_len, refl, reverse, rows_in, rules, sat_batch, sat_rows, sat_rows_in, sat_tables, slice_get, source, status_batch, status_rows, status_rows_in, subst, suc, table_after, table_entry, table_eq}
use Rattle.dv_records.proofs.Vocabulary.{tables, true, vault, zero, ℕ, ◌++◌, ◌+◌, ◌<◌, ◌==◌, ◌∷◌, ◌≡◌}
use Rattle.dv_catalog.specs.declared.tables.TableId.TheVariants.{Hub, Link}
use Rattle.dv_records.proofs.WellFormedTables.{same_table, table_eq-itself}

-- ---- entries

module _ (mapping : Mapping) (hashes : Hashes) (after : Backwards) where
  -- the rows of a table among entries of tables after windows
  pub rows_in-entries : (all : List TableId) (table : TableId) → Contains all table → rows_in table (map (table_entry mapping hashes after) all) ≡ table_after mapping hashes after table
  rows_in-entries [] table has = Contains-nil table has
  rows_in-entries (first ∷ all) table has = search (rules, Contains-cons_cases, same_table, false≢true, table_eq-itself, rows_in-entries all table)

  -- one that isn't among them has none
  none_in-entries : (all : List TableId) (table : TableId) → (Contains all table → ⊥) → rows_in table (map (table_entry mapping hashes after) all) ≡ no_rows table
  none_in-entries [] table out = refl
  none_in-entries (first ∷ all) table out = by (table_eq first table) refl (none_in-entries all table)
    where
      by : (b : Bool) → table_eq first table ≡ b → ((Contains all table → ⊥) → rows_in table (map (table_entry mapping hashes after) all) ≡ no_rows table)
          → rows_in table (map (table_entry mapping hashes after) (first ∷ all)) ≡ no_rows table
      by true t later = absurd (out (subst (Contains (first ∷ all)) (same_table first table t) (Contains-cons_here first all)))
      by false t later = rw t (later (λ has. out (Contains-cons_there first all table has)))

pub vault_holds : (mapping : Mapping) (hashes : Hashes) (sealed : List Window) (table : TableId) → HoldsTable mapping hashes sealed table
vault_holds mapping hashes sealed table = search (rules, rows_in-entries, none_in-entries)

-- ---- the tables of a mapping

module _ (mapping : Mapping) where
  pub has_hub : (hub : ℕ) → hub < length mapping.hubs → Contains (tables mapping) (Hub hub)
  has_hub hub under =
      Contains-append_left (map (λ n. Hub n) (range_with_len 0 (length mapping.hubs)) ++ map (λ n. Link n) (range_with_len 0 (length mapping.links))) (feed_tables 0 mapping.feeds) (Hub hub)
      (Contains-append_left (map (λ n. Hub n) (range_with_len 0 (length mapping.hubs))) (map (λ n. Link n) (range_with_len 0 (length mapping.links))) (Hub hub)
      (Contains-map (λ n. Hub n) (range_with_len 0 (length mapping.hubs)) hub (Contains-range (length mapping.hubs) hub under)))

  pub has_link : (link : ℕ) → link < length mapping.links → Contains (tables mapping) (Link link)
  has_link link under =
      Contains-append_left (map (λ n. Hub n) (range_with_len 0 (length mapping.hubs)) ++ map (λ n. Link n) (range_with_len 0 (length mapping.links))) (feed_tables 0 mapping.feeds) (Link link)
      (Contains-append_right (map (λ n. Hub n) (range_with_len 0 (length mapping.hubs))) (map (λ n. Link n) (range_with_len 0 (length mapping.links))) (Link link)
      (Contains-map (λ n. Link n) (range_with_len 0 (length mapping.links)) link (Contains-range (length mapping.links) link under)))

-- the tables of one feed
abbrev tables_of : FeedDef → ℕ → List TableId
tables_of definition n = sat_tables n definition.sub definition.attrs ++ Status n ∷ effect_tables n definition.driver

-- they are among those of the feeds
of_feed : (n i : ℕ) (feeds : List FeedDef) (definition : FeedDef) (table : TableId) → slice_get feeds i ≡ Some definition → Contains (tables_of definition (n + i)) table → Contains (feed_tables n feeds) table
of_feed n i [] definition table got has = let no : None ≡ Some definition = got in cc
of_feed n zero (feed ∷ feeds) definition table got has = search (rules, Contains-append_left)
of_feed n (suc i) (feed ∷ feeds) definition table got has =
    let place : n + suc i ≡ (n + 1) + i = omega arith in
    Contains-append_right (tables_of feed n) (feed_tables (n + 1) feeds) table
    (of_feed (n + 1) i feeds definition table got (subst (λ k. Contains (tables_of definition k) table) place has))

sat_there : (feed : ℕ) (sub attrs : List (List ℕ)) → sub ≡ [] → (length attrs == 0) ≡ false → Contains (sat_tables feed sub attrs) (Sat feed)
sat_there feed sub [] none some = let no : true ≡ false = some in cc
sat_there feed [] (a ∷ attrs) none some = Contains-cons_here (Sat feed) []
sat_there feed (s ∷ sub) (a ∷ attrs) none some = cc

multi_there : (feed : ℕ) (sub attrs : List (List ℕ)) → (length sub == 0) ≡ false → (length attrs == 0) ≡ false → Contains (sat_tables feed sub attrs) (Multi feed)
multi_there feed sub [] some_sub some = let no : true ≡ false = some in cc
multi_there feed [] (a ∷ attrs) some_sub some = let no : true ≡ false = some_sub in cc
multi_there feed (s ∷ sub) (a ∷ attrs) some_sub some = Contains-cons_here (Multi feed) []

module _ (mapping : Mapping) (feed : ℕ) (definition : FeedDef) (at : slice_get mapping.feeds feed ≡ Some definition) where
  has_table : (table : TableId) → Contains (tables_of definition feed) table → Contains (tables mapping) table
  has_table table has =
      Contains-append_right (map (λ n. Hub n) (range_with_len 0 (length mapping.hubs)) ++ map (λ n. Link n) (range_with_len 0 (length mapping.links))) (feed_tables 0 mapping.feeds) table
      (of_feed 0 feed mapping.feeds definition table at (subst (λ k. Contains (tables_of definition k) table) same has))
    where
      same : feed ≡ 0 + feed
      same = omega arith

  pub has_status : Contains (tables mapping) (Status feed)
  has_status =
      has_table (Status feed)
      (Contains-append_right (sat_tables feed definition.sub definition.attrs) (Status feed ∷ effect_tables feed definition.driver) (Status feed) (Contains-cons_here (Status feed) (effect_tables feed definition.driver)))

  pub has_sat : definition.sub ≡ [] → (length definition.attrs == 0) ≡ false → Contains (tables mapping) (Sat feed)
  has_sat none some =
      has_table (Sat feed)
      (Contains-append_left (sat_tables feed definition.sub definition.attrs) (Status feed ∷ effect_tables feed definition.driver) (Sat feed) (sat_there feed definition.sub definition.attrs none some))

  pub has_multi : (length definition.sub == 0) ≡ false → (length definition.attrs == 0) ≡ false → Contains (tables mapping) (Multi feed)
  has_multi some_sub some =
      has_table (Multi feed)
      (Contains-append_left (sat_tables feed definition.sub definition.attrs) (Status feed ∷ effect_tables feed definition.driver) (Multi feed) (multi_there feed definition.sub definition.attrs some_sub some))

-- ---- the rows of each kind

module _ (mapping : Mapping) (hashes : Hashes) (sealed : List Window) where
  pub vault_hub : (hub : ℕ) → hub < length mapping.hubs → hub_rows_in hub (vault mapping hashes sealed) ≡ appended (hub_batch mapping hashes hub) (reverse sealed)
  vault_hub hub under = ap hub_rows (rows_in-entries mapping hashes (backwards sealed) (tables mapping) (Hub hub) (has_hub mapping hub under))

  pub vault_link : (link : ℕ) → link < length mapping.links → link_rows_in link (vault mapping hashes sealed) ≡ appended (link_batch mapping hashes link) (reverse sealed)
  vault_link link under = ap link_rows (rows_in-entries mapping hashes (backwards sealed) (tables mapping) (Link link) (has_link mapping link under))

  pub vault_effect : (feed : ℕ) → Contains (tables mapping) (Effect feed) → effect_rows_in feed (vault mapping hashes sealed) ≡ appended (feed_batch feed (effect_batch hashes (source mapping feed))) (reverse sealed)
  vault_effect feed has = ap effect_rows (rows_in-entries mapping hashes (backwards sealed) (tables mapping) (Effect feed) has)

  module _ (feed : ℕ) (definition : FeedDef) (at : slice_get mapping.feeds feed ≡ Some definition) where
    pub vault_status : status_rows_in feed (vault mapping hashes sealed) ≡ appended (feed_batch feed (status_batch hashes (source mapping feed))) (reverse sealed)
    vault_status = ap status_rows (rows_in-entries mapping hashes (backwards sealed) (tables mapping) (Status feed) (has_status mapping feed definition at))

    pub vault_sat : definition.sub ≡ [] → (length definition.attrs == 0) ≡ false → sat_rows_in feed (vault mapping hashes sealed) ≡ appended (feed_batch feed (sat_batch hashes (source mapping feed))) (reverse sealed)
    vault_sat none some = ap sat_rows (rows_in-entries mapping hashes (backwards sealed) (tables mapping) (Sat feed) (has_sat mapping feed definition at none some))

    pub vault_multi : (length definition.sub == 0) ≡ false → (length definition.attrs == 0) ≡ false → multi_rows_in feed (vault mapping hashes sealed) ≡ appended (feed_batch feed (multi_batch hashes (source mapping feed))) (reverse sealed)
    vault_multi some_sub some = ap multi_rows (rows_in-entries mapping hashes (backwards sealed) (tables mapping) (Multi feed) (has_multi mapping feed definition at some_sub some))
