-- An office and a store with a window, whole or in part: the states that they stand for then.
use Rattle.dv_window.proofs.Vocabulary.{Begun, Bool, HasRows, HasSealed, HasTables, Hashes, Held, IsBegunBehind, IsLeftOf, IsMappedBy, IsOpen, KeepsOthers, List, Mapping, None, Option, RawVault, Rows, Some, Stands, StandsFor, State, Store, TableRows, TablesStand, TookWindow, Window, WindowHead}
use Rattle.dv_window.proofs.Vocabulary.{[], all_windows, and_from, and_parts, ap, append-nil, are_dates_valid, are_windows_valid, backwards, drop, entries_with, has_all, head_of, heads_of_state, held_with, is_valid, is_valid_state, last_load, late_after, left_behind, length, map, map-append}
use Rattle.dv_window.proofs.Vocabulary.{map-id, map-map, opened, opened_in, partial, raw_with, same_tables, sealed_after, sealed_with, snapshot, subst, sym, table_entry, tables, tables_there, tables_whole, take, take-append-drop, taken_first, taken_partly, true, vault, whole_in, with_newest, ℕ}
use Rattle.dv_window.proofs.Vocabulary.{◌++◌, ◌∙◌, ◌∷◌, ◌≡◌, ◌≤◌}
use Rattle.dv_window.proofs.StoredDates.{dates_still_valid, stored_heads_stay, stored_stay}

-- a window that is begun may be taken behind the sealed ones
pub record CanAdd (hashes : Hashes) (sealed : List Window) (raw : RawVault) (window : Window) (begun : Begun) : Type 0 where
  pub valid : are_windows_valid raw.mapping hashes (sealed ++ window ∷ []) ≡ true
  pub late : late_after (last_load sealed) window.load ≡ None
  pub behind : IsBegunBehind raw.mapping hashes sealed window begun

-- the tables of a vault are those of the mapping
vault_ids : (mapping : Mapping) (hashes : Hashes) (sealed : List Window) → map (λ (entry : TableRows). entry.table) (vault mapping hashes sealed) ≡ tables mapping
vault_ids mapping hashes sealed = map-map (λ (entry : TableRows). entry.table) (table_entry mapping hashes (backwards sealed)) (tables mapping) ∙ map-id (tables mapping)

partial_ids : (mapping : Mapping) (hashes : Hashes) (sealed : List Window) (window : Window) (k : ℕ) → map (λ (entry : TableRows). entry.table) (partial mapping hashes sealed window k) ≡ tables mapping
partial_ids mapping hashes sealed window k =
    map-append (λ (entry : TableRows). entry.table) (map (table_entry mapping hashes (with_newest window (backwards sealed))) (take k (tables mapping))) (map (table_entry mapping hashes (backwards sealed)) (drop k (tables mapping)))
    ∙ (λ i.
    (map-map (λ (entry : TableRows). entry.table) (table_entry mapping hashes (with_newest window (backwards sealed))) (take k (tables mapping)) ∙ map-id (take k (tables mapping))) i
    ++ (map-map (λ (entry : TableRows). entry.table) (table_entry mapping hashes (backwards sealed)) (drop k (tables mapping)) ∙ map-id (drop k (tables mapping))) i)
    ∙ take-append-drop k (tables mapping)

-- a store that stands for windows has rows in the tables of the mapping, and no others
stood : (mapping : Mapping) (hashes : Hashes) (sealed : List Window) (begun : Option Window) (store : Store) → TablesStand mapping hashes sealed begun store
    → (entries : List TableRows) × HasTables store entries × (map (λ (entry : TableRows). entry.table) entries ≡ tables mapping)
stood mapping hashes sealed None store stand = (_, stand, vault_ids mapping hashes sealed)
stood mapping hashes sealed (Some window) store (k, within, stand) = (_, stand, partial_ids mapping hashes sealed window k)

module _ (hashes : Hashes) (state : State) (held : Held) (stands : StandsFor hashes state held) (valid_mapping : is_valid held.vault.mapping ≡ true) (window : Window) (begun : Begun)
    (can : CanAdd hashes state.sealed held.vault window begun) where
  abbrev raw : RawVault
  raw = held.vault

  grown : HasSealed hashes (state.sealed ++ window ∷ []) (raw_with begun raw)
  grown = sealed_after hashes state.sealed raw stands.sealed_are window begun can.behind can.valid

  windows_valid : are_windows_valid raw.mapping hashes (state.sealed ++ window ∷ []) ≡ true
  windows_valid = grown.valid

  dates_valid : are_dates_valid raw.mapping hashes state ≡ true
  dates_valid = (and_parts (are_windows_valid raw.mapping hashes (all_windows state)) (are_dates_valid raw.mapping hashes state) stands.valid).1

  -- the stored snapshots stay what they are
  snapshots_stay : map (snapshot raw.mapping hashes (state.sealed ++ window ∷ [])) state.dates ≡ map (snapshot raw.mapping hashes state.sealed) state.dates
  snapshots_stay = stored_stay raw.mapping hashes state window can.late dates_valid

  heads_stay : heads_of_state raw.mapping hashes (sealed_with window state) ≡ heads_of_state raw.mapping hashes state
  heads_stay = stored_heads_stay raw.mapping hashes state window can.late dates_valid

  sealed_valid : is_valid_state raw.mapping hashes (sealed_with window state) ≡ true
  sealed_valid =
      and_from _ _ (ap (are_windows_valid raw.mapping hashes) (append-nil (state.sealed ++ window ∷ [])) ∙ windows_valid) (dates_still_valid raw.mapping hashes state window can.late dates_valid)

  opened_valid : is_valid_state raw.mapping hashes (opened window state) ≡ true
  opened_valid = and_from _ _ windows_valid dates_valid

  -- the office with the window sealed
  pub sealed_stands_for : StandsFor hashes (sealed_with window state) (held_with begun held)
  sealed_stands_for = record { valid = sealed_valid; sealed_are = grown; begun_is = tt; snapshots_are = stands.snapshots_are ∙ sym heads_stay }

  -- and with what is left of it
  pub opened_stands_for : (left : Begun) → IsLeftOf begun left → (stale : Bool) → StandsFor hashes (opened window state) (record held { begun = Some left; stale = stale })
  opened_stands_for left of stale = record {
    valid = opened_valid;
    sealed_are = stands.sealed_are;
    begun_is = left_behind hashes state.sealed raw stands.sealed_are window begun can.behind left of;
    snapshots_are = stands.snapshots_are;
  }

  module _ (was : Store) (before : Stands raw.mapping hashes state was) where
    -- the rows of a store that has taken batches, in all tables
    all_rows : (batches : List Rows) (now : Store) → HasRows now (entries_with raw.tables batches) → KeepsOthers (entries_with raw.tables batches) was now → HasTables now (entries_with raw.tables batches)
    all_rows batches now rows others =
        let (entries, has, ids) = stood raw.mapping hashes state.sealed state.begun was before.tables_stand in
        has_all entries (entries_with raw.tables batches)
        (same_tables raw.tables batches ∙ ap (map (λ (entry : TableRows). entry.table)) stands.sealed_are.tables_are ∙ vault_ids raw.mapping hashes state.sealed ∙ sym ids) was now has rows others

    pub sealed_stands : (now : Store) → TookWindow begun.window (tables_whole raw.tables begun.parts.items) was now → Stands raw.mapping hashes (sealed_with window state) now
    sealed_stands now took = record {
      valid = sealed_valid;
      mapped = subst (IsMappedBy raw.mapping) (ap (λ (s : Store). s.mapping) (sym took.beside)) before.mapped;
      windows = took.windows_are
          ∙ ap (λ (heads : List WindowHead). heads ++ head_of begun.window ∷ []) before.windows
          ∙ ap (λ (w : Window). map head_of state.sealed ++ head_of w ∷ []) can.behind.window_is
          ∙ sym (map-append head_of state.sealed (window ∷ []));
      stage = took.stage_is;
      tables_stand = subst (HasTables now) grown.tables_are (all_rows (whole_in begun.parts.items) now took.tables_are took.others);
      snapshots = ap (λ (s : Store). s.snapshots) took.beside ∙ before.snapshots ∙ sym snapshots_stay;
    }

    pub open_stands : (now : Store) (k : ℕ) → k ≤ length begun.parts.items → IsOpen begun.window (tables_there raw.tables (taken_first k begun.parts.items)) was now → Stands raw.mapping hashes (opened window state) now
    open_stands now k within is_open =
        let (far, less, is) = taken_partly hashes state.sealed raw stands.sealed_are window begun can.behind k within in
        record {
          valid = opened_valid;
          mapped = subst (IsMappedBy raw.mapping) (ap (λ (s : Store). s.mapping) (sym is_open.beside)) before.mapped;
          windows = is_open.windows_are ∙ before.windows;
          stage = is_open.stage_is ∙ ap Some can.behind.window_is;
          tables_stand = (far, less, subst (HasTables now) is (all_rows (opened_in (taken_first k begun.parts.items)) now is_open.tables_are is_open.others));
          snapshots = ap (λ (s : Store). s.snapshots) is_open.beside ∙ before.snapshots;
        }

    -- the same of what is left
    pub left_stands : (now : Store) (left : Begun) → IsLeftOf begun left → IsOpen left.window (tables_there raw.tables left.parts.items) was now → Stands raw.mapping hashes (opened window state) now
    left_stands now left of is_open =
        open_stands now of.taken of.within
        (subst (λ parts. IsOpen begun.window (tables_there raw.tables parts) was now) of.parts_are (subst (λ w. IsOpen w (tables_there raw.tables left.parts.items) was now) of.window_is is_open))
