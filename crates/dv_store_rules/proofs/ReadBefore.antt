-- What is read of a store before a table: the rows of the tables before it, and what these weigh.
use Rattle.dv_store_rules.proofs.Vocabulary.{Bool, Contains, Contains-cons_cases, Contains-cons_here, Contains-cons_there, Contains-nil, Hashes, Hub, HubRow, HubTable, Key, Link, LinkRow, LinkTable, List, Mapping, Parent, Store, TableId, TableRows, Window, [], ap, appended, arith, backwards}
use Rattle.dv_store_rules.proofs.Vocabulary.{bytes_eq, bytes_eq-Decides, false, false≢true, has_hub, has_link, hub_apart, hub_batch, hub_has, hub_rows, hub_rows_in, inl, inr, is_known, known_before, length, link_apart, link_batch, link_has, link_rows, link_rows_in, list_any, map, map-append}
use Rattle.dv_store_rules.proofs.Vocabulary.{most_weight, offers_apart, refl, reverse, reverse_member, rows_in, rows_weight, same_table, some_passes_at, stored_entries, subst, sum_by, sum_by-append, sum_by-cons, sym, table_after, table_entry, table_eq, table_eq-itself, tables, tables_weight}
use Rattle.dv_store_rules.proofs.Vocabulary.{true, vault_weight, ℕ, ◌++◌, ◌+◌, ◌<◌, ◌∙◌, ◌∷◌, ◌≡◌, ◌≤◌}
use Rattle.dv_store_rules.proofs.{Around.HaveHubs, Around.HaveLinks, FewerWindows.known_more, Reached.Holds, Reached.IsEarlier, Reached.earlier_in, Splits.item_in}

-- the rows of a table that was read before are those of the store
read_before : (store : Store) (before : List TableId) (id : TableId) → Contains before id → rows_in id (stored_entries store before) ≡ rows_in id store.tables
read_before store [] id has = Contains-nil id has
read_before store (first ∷ before) id has = by (table_eq first id) refl (read_before store before id)
  where
    by : (b : Bool) → table_eq first id ≡ b → (Contains before id → rows_in id (stored_entries store before) ≡ rows_in id store.tables) → rows_in id (stored_entries store (first ∷ before)) ≡ rows_in id store.tables
    by true e later = rw e (ap (λ table. rows_in table store.tables) (same_table first id e))
    by false e later =
        rw e (elim (Contains-cons_cases first before id has) [
          | inl same ↦ absurd (false≢true (sym e ∙ subst (λ table. table_eq first table ≡ true) same (table_eq-itself first)))
          | inr rest ↦ later rest
        ])

module _ (mapping : Mapping) (hashes : Hashes) (store : Store) (windows : List Window) (holds : Holds mapping hashes store windows) where
  -- tables of the mapping weigh no more in the store than in the vault of all windows
  no_heavier : (ids : List TableId) → ((id : TableId) → Contains ids id → Contains (tables mapping) id) → tables_weight (stored_entries store ids) ≤ tables_weight (map (table_entry mapping hashes (backwards windows)) ids)
  no_heavier [] within = omega arith
  no_heavier (id ∷ ids) within =
      let stored = sum_by-cons (λ (entry : TableRows). rows_weight entry.rows) (record { table = id; rows = rows_in id store.tables }) (stored_entries store ids) in
      let whole = sum_by-cons (λ (entry : TableRows). rows_weight entry.rows) (table_entry mapping hashes (backwards windows) id) (map (table_entry mapping hashes (backwards windows)) ids) in
      let held = ap rows_weight (holds.rows id (within id (Contains-cons_here id ids))) in
      let first = holds.lighter id in
      let later = no_heavier ids (λ other has. within other (Contains-cons_there id ids other has)) in
      omega (arith, stored, whole, held, first, later)

  -- so the tables before one, and the rows of the one, weigh no more than a vault may
  pub light_with : vault_weight mapping hashes windows ≤ most_weight → (before : List TableId) (id : TableId) (after : List TableId) → tables mapping ≡ before ++ id ∷ after
      → tables_weight (stored_entries store before) + rows_weight (table_after mapping hashes (backwards (holds.reach id)) id) ≤ most_weight
  light_with light before id after e =
      let weigh = λ (entry : TableRows). rows_weight entry.rows in
      let entry_of : TableId → TableRows = λ id. record { table = id; rows = rows_in id store.tables } in
      let all = no_heavier (tables mapping) (λ id has. has) in
      let parted : stored_entries store (tables mapping) ≡ stored_entries store before ++ stored_entries store (id ∷ after) = ap (stored_entries store) e ∙ map-append entry_of before (id ∷ after) in
      let sums = ap (sum_by weigh) parted ∙ sum_by-append weigh (stored_entries store before) (stored_entries store (id ∷ after)) in
      let first = sum_by-cons weigh (entry_of id) (stored_entries store after) in
      let held = ap rows_weight (holds.rows id (subst (λ l. Contains l id) (sym e) (item_in before id after))) in
      omega (arith, light, all, sums, first, held)

  -- ---- parents

  module _ (width : ℕ) (before : List TableId) (id : TableId) (after : List TableId) (e : tables mapping ≡ before ++ id ∷ after) where
    -- what windows of the table bring, those of an earlier one bring
    brought_before : (other : TableId) → IsEarlier mapping other id → (parent : Parent) (refs : List Key) → is_known mapping parent (reverse (holds.reach id)) refs ≡ true → is_known mapping parent (reverse (holds.reach other)) refs ≡ true
    brought_before other is parent refs =
        known_more mapping parent (reverse (holds.reach id)) (reverse (holds.reach other))
        (λ window has. (reverse_member (holds.reach other) window).1 (holds.earlier id other is window ((reverse_member (holds.reach id) window).0 has))) refs

    -- a hub that stands before has a row for each key that they bring
    pub hubs_before : ((hub : ℕ) → hub < length mapping.hubs → IsEarlier mapping (HubTable hub) id) → HaveHubs (known_before mapping hashes width store before) (holds.reach id)
    hubs_before earlier hub under key brought =
        let is = earlier hub under in
        let reached = holds.reach (HubTable hub) in
        let stored : hub_rows_in hub (stored_entries store before) ≡ appended (hub_batch mapping hashes hub) (reverse reached) =
        ap hub_rows (read_before store before (HubTable hub) (earlier_in mapping (HubTable hub) id is before after e) ∙ holds.rows (HubTable hub) (has_hub mapping hub under)) in
        let apart = offers_apart mapping hashes reached (Hub hub) (hub_apart mapping hashes reached (holds.valid (HubTable hub)) hub under) in
        let (row, has, of_key, digest) = hub_has mapping hub hashes (reverse reached) apart key (brought_before (HubTable hub) is (Hub hub) (key ∷ []) brought) in
        subst (λ rows. list_any (λ (row : HubRow). bytes_eq row.digest (hashes.hash (key ∷ []))) rows ≡ true) (sym stored)
        (some_passes_at (λ (row : HubRow). bytes_eq row.digest (hashes.hash (key ∷ []))) (appended (hub_batch mapping hashes hub) (reverse reached)) row has ((bytes_eq-Decides row.digest (hashes.hash (key ∷ []))).1 digest))

    -- and a link one for each list
    pub links_before : ((link : ℕ) → link < length mapping.links → IsEarlier mapping (LinkTable link) id) → HaveLinks (known_before mapping hashes width store before) (holds.reach id)
    links_before earlier link under refs brought =
        let is = earlier link under in
        let reached = holds.reach (LinkTable link) in
        let stored : link_rows_in link (stored_entries store before) ≡ appended (link_batch mapping hashes link) (reverse reached) =
        ap link_rows (read_before store before (LinkTable link) (earlier_in mapping (LinkTable link) id is before after e) ∙ holds.rows (LinkTable link) (has_link mapping link under)) in
        let apart = offers_apart mapping hashes reached (Link link) (link_apart mapping hashes reached (holds.valid (LinkTable link)) link under) in
        let (row, has, digest, hubs) = link_has mapping link hashes (reverse reached) apart refs (brought_before (LinkTable link) is (Link link) refs brought) in
        subst (λ rows. list_any (λ (row : LinkRow). bytes_eq row.digest (hashes.hash refs)) rows ≡ true) (sym stored)
        (some_passes_at (λ (row : LinkRow). bytes_eq row.digest (hashes.hash refs)) (appended (link_batch mapping hashes link) (reverse reached)) row has ((bytes_eq-Decides row.digest (hashes.hash refs)).1 digest))
