-- Raw tables that are read one after the other: what one table more tells, and the first damage that is found.
use Rattle.dv_restore.proofs.Vocabulary.{AreInForm, AreRead, Damage, HasHeads, IsRawDamage, Known, List, None, Option, Some, Store, TableId, TableRows, Told, [], ap, append-nil, append_assoc, damage_at, damage_in, first_along, flaw_in, inl, inr, known_before, map-append, no_split, none_along}
use Rattle.dv_restore.proofs.Vocabulary.{option_map, or_none, refl, rows_in, split_append, stored_entries, sym, table_name, tables, ◌++◌, ◌∙◌, ◌∷◌, ◌≡◌}

-- ---- one table more

module _ (first : Known) (told : Option Store) where
  module _ (ids : List TableId) (entries : List TableRows) (read : AreRead first told ids entries) (id : TableId) (entry : TableRows) (is : entry.table ≡ id) where
    more_in_form : flaw_in (record first { tables = entries }) id entry.rows ≡ None → AreInForm first (entries ++ entry ∷ [])
    more_in_form clear before other behind e =
        elim (split_append entries (entry ∷ []) before other behind e) [
          | inl (rest, here) ↦ read.in_form before other rest here
          | inr (rest, here, last) ↦ by rest here last
        ]
      where
        by : (rest : List TableRows) → before ≡ entries ++ rest → entry ∷ [] ≡ rest ++ other ∷ behind → flaw_in (record first { tables = before }) other.table other.rows ≡ None
        by [] here last =
            let same : entry ≡ other = cc in
            let all : before ≡ entries = here ∙ append-nil entries in
            (λ i. flaw_in (record first { tables = all i }) (sym same i).table (sym same i).rows) ∙ ap (λ t. flaw_in (record first { tables = entries }) t entry.rows) is ∙ clear
        by (next ∷ rest) here last = let none : [] ≡ rest ++ other ∷ behind = cc in absurd (no_split rest other behind none)

    -- the tables with one more behind them
    pub more_read : flaw_in (record first { tables = entries }) id entry.rows ≡ None → Told told (λ s. entry.rows ≡ rows_in id s.tables) → AreRead first told (ids ++ id ∷ []) (entries ++ entry ∷ [])
    more_read clear stored = record {
      ids_are = map-append (λ (e : TableRows). e.table) entries (entry ∷ []) ∙ (λ i. read.ids_are i ++ is i ∷ []);
      in_form = more_in_form clear;
      stored = λ s e.
          (λ i. read.stored s e i ++ record { table = is i; rows = stored s e i } ∷ [])
          ∙ sym (map-append (λ (id : TableId). record { table = id; rows = rows_in id s.tables }) ids (id ∷ []));
    }

-- ---- the first damage

-- an answer behind items that have none is the first
found_behind : {X R : Type 0} (test : List X → X → Option R) (before xs : List X) (x : X) (after : List X) (r : R) → first_along test before xs ≡ None → test (before ++ xs) x ≡ Some r → first_along test before (xs ++ x ∷ after) ≡ Some r
found_behind test before [] x after r none found = let here : test before x ≡ Some r = rw append-nil at found in rw here refl
found_behind test before (y ∷ xs) x after r none found =
    let (here, rest) = or_none (test before y) (first_along test (before ++ y ∷ []) xs) none in
    rw here (found_behind test (before ++ y ∷ []) xs x after r rest (rw append_assoc found))

module _ (first : Known) (told : Option Store) where
  -- what is read of a store before a table is what is known
  same_known : (s : Store) → HasHeads first.heads s → (before : List TableId) → known_before first.mapping first.hashes first.width s before ≡ record first { tables = stored_entries s before }
  same_known s heads before = ap (λ heads. record { mapping = first.mapping; hashes = first.hashes; width = first.width; heads = heads; tables = stored_entries s before }) heads

  -- tables in form have no damage
  pub read_undamaged : (ids : List TableId) (entries : List TableRows) → AreRead first told ids entries → Told told (λ s. HasHeads first.heads s → first_along (damage_in first.mapping first.hashes first.width s) [] ids ≡ None)
  read_undamaged ids entries read s is heads =
      none_along (damage_in first.mapping first.hashes first.width s) ids [] (λ before id after e.
      let parts : entries ≡ stored_entries s before ++ record { table = id; rows = rows_in id s.tables } ∷ stored_entries s after =
      read.stored s is ∙ ap (stored_entries s) e ∙ map-append (λ (id : TableId). record { table = id; rows = rows_in id s.tables }) before (id ∷ after) in
      ap (option_map (damage_at (table_name first.mapping id)))
      (ap (λ known. flaw_in known id (rows_in id s.tables)) (same_known s heads before) ∙ read.in_form (stored_entries s before) (record { table = id; rows = rows_in id s.tables }) (stored_entries s after) parts))

  -- the damage of the table behind them is the first
  pub read_damaged : (before : List TableId) (entries : List TableRows) → AreRead first told before entries → (id : TableId) (after : List TableId) → tables first.mapping ≡ before ++ id ∷ after → (damage : Damage)
      → Told told (λ s. option_map (damage_at (table_name first.mapping id)) (flaw_in (record first { tables = entries }) id (rows_in id s.tables)) ≡ Some damage) → IsRawDamage first told damage
  read_damaged before entries read id after e damage found s is heads =
      let known : known_before first.mapping first.hashes first.width s before ≡ record first { tables = entries } = same_known s heads before ∙ (λ i. record first { tables = sym (read.stored s is) i }) in
      let here : damage_in first.mapping first.hashes first.width s before id ≡ Some damage =
      ap (λ known. option_map (damage_at (table_name first.mapping id)) (flaw_in known id (rows_in id s.tables))) known ∙ found s is in
      ap (first_along (damage_in first.mapping first.hashes first.width s) []) e
      ∙ found_behind (damage_in first.mapping first.hashes first.width s) [] before id after damage (read_undamaged before entries read s is heads) here
