-- A store that stands for a state of the warehouse: what is restored of it is of that state, and it is in form.
use Rattle.dv_restore.proofs.Vocabulary.{All, AllBefore, ArePartsOf, Backwards, Begun, BreaksRule, Contains, Damage, DigestFunction, Fits, HasNoClash, HasPlace, HasSealed, HasTables, Hashes, IfSome, IsBegunAs, IsBegunBehind, IsBegunOf, IsInForm, IsNotRead, IsOfState, IsOpenBehind, IsReadAs}
use Rattle.dv_restore.proofs.Vocabulary.{KeepsF15, List, Mapping, MayGoOn, None, Ok, Option, RawVault, Rows, Snap, SnapHead, Some, Stands, State, Store, TableId, TableRows, TablesStand, Window, [], added_to, all_windows, and_parts, ap, append-nil, are_dates_valid, are_windows_valid, arith}
use Rattle.dv_restore.proofs.Vocabulary.{at_whole, backwards, compared_in, drop, entries_with, false, fewer_valid, full_at, hashes_of, head_of, heads_of_state, hub_names, inl, inr, is_valid, is_valid_state, is_window, item_in, last_in, last_load, late_after, length, length-append, length-map}
use Rattle.dv_restore.proofs.Vocabulary.{load_order, loaded_batches, map, map-append, map-map, map_member, most_weight, most_windows, nat_le, nat_lt, nat_tests, newest_first, opened_in, option_to_list, partial, parts_at, parts_of_valid, passes_at, read_mapping, read_valid, refl, rest_in, reverse}
use Rattle.dv_restore.proofs.Vocabulary.{reverse-append, reverse_member, row_count, rows_there, rows_weight, same_Some, same_parts, sealed_entry, sealed_of, snapshot, snapshot_heads, stored_entries, stored_vault, subst, sum_by, sym, table_entry, tables, tables_there, tables_weight, take}
use Rattle.dv_restore.proofs.Vocabulary.{take-append-drop, true, undamaged_if_valid, vault, vault_weight, vault_with, weight_with, whole_in, window_batches, with_newest, ℕ, ◌++◌, ◌+◌, ◌<◌, ◌∙◌, ◌∷◌, ◌≡◌, ◌≤◌}
use Rattle.dv_restore.proofs.{AllApart.partly_apart, HeldBatches.partly_added, LoadedRows.rows_left, OpenParts.all_counted, OpenParts.partly_opened, OpenParts.partly_weighs, StoredTables.read_partial, StoredTables.read_vault, Reopening.all_sealed}

-- ---- the vault of the sealed windows

module _ (mapping : Mapping) (hashes : Hashes) (sealed : List Window) (window : Window) (valid : are_windows_valid mapping hashes (sealed ++ window ∷ []) ≡ true) where
  -- the windows before the last one are earlier
  all_earlier : AllBefore (λ (other : Window). other.load) window.load (reverse sealed)
  all_earlier =
      let order = newest_first (λ (other : Window). other.load) (sealed ++ window ∷ []) (load_order mapping hashes (sealed ++ window ∷ []) valid) in
      (rw reverse-append at order).0

  abbrev newer : Backwards
  newer = with_newest window (backwards sealed)

  -- the rows of tables without those of the window
  without_newest : (ids : List TableId) → map (sealed_entry (Some window)) (map (table_entry mapping hashes newer) ids) ≡ map (table_entry mapping hashes (backwards sealed)) ids
  without_newest ids =
      map-map (sealed_entry (Some window)) (table_entry mapping hashes newer) ids
      ∙ (λ i. map (λ id. record { table = id; rows = (rows_left mapping hashes (backwards sealed) window all_earlier id).with_batch i }) ids)

  all_older : (ids : List TableId) → map (sealed_entry (Some window)) (map (table_entry mapping hashes (backwards sealed)) ids) ≡ map (table_entry mapping hashes (backwards sealed)) ids
  all_older ids =
      map-map (sealed_entry (Some window)) (table_entry mapping hashes (backwards sealed)) ids
      ∙ (λ i. map (λ id. record { table = id; rows = (rows_left mapping hashes (backwards sealed) window all_earlier id).before i }) ids)

  without_window : (k : ℕ) → map (sealed_entry (Some window)) (partial mapping hashes sealed window k) ≡ vault mapping hashes sealed
  without_window k =
      let first = without_newest (take k (tables mapping)) in
      let rest = all_older (drop k (tables mapping)) in
      map-append (sealed_entry (Some window)) (map (table_entry mapping hashes newer) (take k (tables mapping))) (map (table_entry mapping hashes (backwards sealed)) (drop k (tables mapping)))
      ∙ (λ i. first i ++ rest i)
      ∙ sym (map-append (table_entry mapping hashes (backwards sealed)) (take k (tables mapping)) (drop k (tables mapping)))
      ∙ ap (map (table_entry mapping hashes (backwards sealed))) (take-append-drop k (tables mapping))

module _ (mapping : Mapping) (hashes : Hashes) (store : Store) (sealed : List Window) (windows : store.windows ≡ map head_of sealed) where
  sealed_there : (begun : Option Window) → store.stage ≡ begun → are_windows_valid mapping hashes (sealed ++ option_to_list begun) ≡ true → TablesStand mapping hashes sealed begun store → HasSealed hashes sealed (sealed_of mapping store)
  sealed_there None stage valid stand = record {
    valid = rw append-nil at valid;
    tables_are = (λ i. map (sealed_entry (stage i)) (read_vault mapping hashes store sealed stand i)) ∙ all_sealed (vault mapping hashes sealed);
    heads_are = windows;
  }
  sealed_there (Some window) stage valid (k, within, stand) = record {
    valid = fewer_valid mapping hashes sealed window valid;
    tables_are = (λ i. map (sealed_entry (stage i)) (read_partial mapping hashes store sealed window k stand i)) ∙ without_window mapping hashes sealed window valid k;
    heads_are = windows;
  }

-- ---- the open window

-- a load date is not late behind earlier ones
not_late : (sealed : List Window) (load : ℕ) → AllBefore (λ (window : Window). window.load) load (reverse sealed) → late_after (last_load sealed) load ≡ None
not_late sealed load early = by (last_load sealed) refl
  where
    earlier : (n : ℕ) → Contains (map (λ (window : Window). window.load) sealed) n → n < load
    earlier n has =
        let (window, member, same) = map_member (λ (window : Window). window.load) sealed n has in
        subst (λ n. n < load) same (early window ((reverse_member sealed window).1 member))

    later : (last : ℕ) → last < load → nat_le load last ≡ false
    later last less = grind (arith, nat_tests)

    by : (last : Option ℕ) → last_load sealed ≡ last → late_after last load ≡ None
    by None e = refl
    by (Some last) e = rw (later last (earlier last (last_in (map (λ (window : Window). window.load) sealed) last e))) refl

-- a vault that keeps its limits is not full
not_full : (weight windows : ℕ) → weight ≤ most_weight → windows + 1 ≤ most_windows → full_at weight windows ≡ None
not_full weight windows light few =
    let no_more : nat_lt most_weight weight ≡ false = grind (arith, nat_tests, light) in
    let no_most : nat_le most_windows windows ≡ false = grind (arith, nat_tests, few) in
    rw (no_more, no_most) refl

module _ (mapping : Mapping) (hashes : Hashes) (store : Store) (sealed : List Window) (window : Window) (valid_mapping : is_valid mapping ≡ true) (has : HasSealed hashes sealed (sealed_of mapping store)) (valid : are_windows_valid mapping hashes (sealed ++ window ∷ []) ≡ true) where
  abbrev raw : RawVault
  raw = sealed_of mapping store

  whole : is_window mapping window ≡ true
  whole = passes_at (is_window mapping) (sealed ++ window ∷ []) window (parts_of_valid mapping hashes (sealed ++ window ∷ []) valid).whole (item_in sealed window [])

  late : late_after (last_load sealed) window.load ≡ None
  late = not_late sealed window.load (all_earlier mapping hashes sealed window valid)

  -- with the rows of the window that are there it has a place
  module _ (k : ℕ) (stand : HasTables store (partial mapping hashes sealed window k)) where
    read : stored_entries store (tables mapping) ≡ partial mapping hashes sealed window k
    read = read_partial mapping hashes store sealed window k stand

    lacking : map (added_to mapping hashes window) (partial mapping hashes sealed window k) ≡ rest_in (parts_at k (window_batches mapping hashes sealed window))
    lacking =
        partly_added mapping hashes sealed window valid_mapping has.valid valid whole late (parts_of_valid mapping hashes (sealed ++ window ∷ []) valid).apart k

    pub has_place : HasPlace hashes (stored_vault mapping store) window
    has_place =
        let parts = parts_of_valid mapping hashes (sealed ++ window ∷ []) valid in
        let counts = length-append sealed (window ∷ []) in
        let weight : weight_with hashes (stored_vault mapping store) window ≡ vault_weight mapping hashes (sealed ++ window ∷ []) =
        ap (λ (entries : List TableRows). tables_weight entries + sum_by rows_weight (map (added_to mapping hashes window) entries)) read
        ∙ ap (λ (rest : List Rows). tables_weight (partial mapping hashes sealed window k) + sum_by rows_weight rest) lacking
        ∙ partly_weighs mapping hashes sealed window k in
        record {
          apart = subst (λ (entries : List TableRows). All (λ entry. HasNoClash (compared_in mapping hashes (hub_names mapping entries) window entry)) entries) (sym read)
              (partly_apart mapping hashes sealed window valid_mapping valid k);
          room = ap (λ weight. full_at weight (length store.windows)) weight
              ∙ ap (full_at (vault_weight mapping hashes (sealed ++ window ∷ []))) (ap length has.heads_are ∙ length-map sealed head_of)
              ∙ not_full (vault_weight mapping hashes (sealed ++ window ∷ [])) (length sealed) parts.light (omega (arith, counts, parts.few));
        }

    -- and what is begun of it is the window behind the sealed ones
    pub begun_behind : k ≤ length (tables mapping) → (vault : RawVault) → vault ≡ raw → (begun : Begun) → IsBegunOf hashes vault window begun → Fits vault begun → rows_there vault (Some begun) ≡ stored_entries store (tables mapping)
        → IsBegunBehind vault.mapping hashes sealed window begun
    begun_behind within vault is begun of fits there =
        subst (λ (v : RawVault). IsBegunBehind v.mapping hashes sealed window begun) (sym is)
        (behind_it within begun (subst (λ (v : RawVault). IsBegunOf hashes v window begun) is of) (subst (λ (v : RawVault). Fits v begun) is fits) (ap (λ (v : RawVault). rows_there v (Some begun)) (sym is) ∙ there))
      where
        behind_it : k ≤ length (tables mapping) → (begun : Begun) → IsBegunOf hashes raw window begun → Fits raw begun → rows_there raw (Some begun) ≡ stored_entries store (tables mapping) → IsBegunBehind mapping hashes sealed window begun
        behind_it within begun of fits there =
            let batches = window_batches mapping hashes sealed window in
            let partly : tables_there raw.tables begun.parts.items ≡ partial mapping hashes sealed window k = there ∙ read in
            let opened : opened_in begun.parts.items ≡ opened_in (parts_at k batches) =
            partly_opened mapping hashes sealed window k begun.parts.items (subst (λ tables. ArePartsOf tables begun.parts.items) has.tables_are fits.parts) (ap (λ tables. tables_there tables begun.parts.items) (sym has.tables_are) ∙ partly) in
            let rest : rest_in begun.parts.items ≡ rest_in (parts_at k batches) = of.rest_is ∙ ap (map (added_to mapping hashes window)) partly ∙ lacking in
            let parts : begun.parts.items ≡ parts_at k batches = same_parts begun.parts.items (parts_at k batches) opened rest in
            record {
              window_is = of.window_is;
              there = k;
              within = within;
              parts_are = parts;
              rows_are = of.rows_are ∙ (λ i. sum_by row_count (opened i) + sum_by row_count (rest i)) ∙ all_counted k batches ∙ loaded_batches mapping hashes sealed window;
              weight_is = fits.weight ∙ ap tables_weight
                  ((λ i. entries_with (has.tables_are i) ((ap whole_in parts ∙ at_whole k batches) i)) ∙ vault_with mapping hashes sealed window);
            }

-- ---- a store that stands for a state

windows_valid : (mapping : Mapping) (hashes : Hashes) (state : State) → is_valid_state mapping hashes state ≡ true → are_windows_valid mapping hashes (all_windows state) ≡ true
windows_valid mapping hashes state valid = (and_parts (are_windows_valid mapping hashes (all_windows state)) (are_dates_valid mapping hashes state) valid).0

module _ (mapping : Mapping) (hashes : Hashes) (state : State) (store : Store) (stands : Stands mapping hashes state store) where
  -- without the rows of the open window it has the vault of the sealed ones
  pub has_sealed : HasSealed hashes state.sealed (sealed_of mapping store)
  has_sealed = sealed_there mapping hashes store state.sealed stands.windows state.begun stands.stage (windows_valid mapping hashes state stands.valid) stands.tables_stand

  -- its mapping is valid
  pub valid_mapping : is_valid mapping ≡ true
  valid_mapping = read_valid stands.mapped.text mapping stands.mapped.reads

  all_valid : (begun : Option Window) → state.begun ≡ begun → are_windows_valid mapping hashes (state.sealed ++ option_to_list begun) ≡ true
  all_valid begun e = subst (λ (begun : Option Window). are_windows_valid mapping hashes (state.sealed ++ option_to_list begun) ≡ true) e (windows_valid mapping hashes state stands.valid)

  goes_on : (begun : Option Window) → state.begun ≡ begun → MayGoOn hashes (stored_vault mapping store) begun
  goes_on None e = tt
  goes_on (Some window) e =
      let (k, within, stand) = subst (λ (begun : Option Window). TablesStand mapping hashes state.sealed begun store) e stands.tables_stand in
      has_place mapping hashes store state.sealed window valid_mapping has_sealed (all_valid (Some window) e) k stand

  pub keeps_f15 : KeepsF15 hashes mapping store
  keeps_f15 = goes_on store.stage (sym stands.stage)

  -- what is restored of it is of the state
  pub of_state : (raw : RawVault) → raw ≡ sealed_of mapping store → (begun : Option Begun) → IsBegunAs hashes raw store.stage begun → IfSome begun (Fits raw) → stored_entries store (tables mapping) ≡ rows_there raw begun
      → (snapshots : List SnapHead) → snapshots ≡ snapshot_heads store → IsOfState hashes state raw begun snapshots
  of_state raw is begun begun_as fits there snapshots are = record {
    valid = ap (λ (raw : RawVault). is_valid_state raw.mapping hashes state) is ∙ stands.valid;
    sealed_are = subst (HasSealed hashes state.sealed) (sym is) has_sealed;
    begun_is = by state.begun refl begun (subst (λ (stage : Option Window). IsBegunAs hashes raw stage begun) stands.stage begun_as) fits there;
    snapshots_are = are
        ∙ ap (map (λ (snap : Snap). snap.head)) stands.snapshots
        ∙ map-map (λ (snap : Snap). snap.head) (snapshot mapping hashes state.sealed) state.dates
        ∙ ap (λ (raw : RawVault). heads_of_state raw.mapping hashes state) (sym is);
  }
    where
      by : (staged : Option Window) → state.begun ≡ staged → (begun : Option Begun) → IsBegunAs hashes raw staged begun → IfSome begun (Fits raw) → stored_entries store (tables mapping) ≡ rows_there raw begun
          → IsOpenBehind raw.mapping hashes state.sealed staged begun
      by None e None told_as fits there = tt
      by None e (Some begun) told_as fits there = told_as
      by (Some window) e None told_as fits there = told_as
      by (Some window) e (Some begun) told_as fits there =
          let (k, within, stand) = subst (λ (begun : Option Window). TablesStand mapping hashes state.sealed begun store) e stands.tables_stand in
          begun_behind mapping hashes store state.sealed window valid_mapping has_sealed (all_valid (Some window) e) k stand within raw is begun told_as fits (sym there)

-- ---- no damage

-- two mappings that the stored text is read as are one
pub same_mapping : (a b : Mapping) (store : Store) → IsReadAs a store → IsReadAs b store → a ≡ b
same_mapping a b store of_a of_b =
    let texts : Some of_a.text ≡ Some of_b.text = sym of_a.stored_is ∙ of_b.stored_is in
    let text : of_a.text ≡ of_b.text = same_Some of_a.text of_b.text texts in
    let both : Ok a ≡ Ok b = sym of_a.reads ∙ ap read_mapping text ∙ of_b.reads in
    cc

-- nor is its mapping not read
pub never_unread : (mapping : Mapping) (hashes : Hashes) (state : State) (store : Store) → Stands mapping hashes state store → (damage : Damage) → IsNotRead store damage → ⊥
never_unread mapping hashes state store stands damage unread =
    let here = stands.mapped in
    let text : here.text ≡ unread.text = same_Some here.text unread.text (sym here.stored_is ∙ unread.stored_is) in
    unread.refused mapping (ap read_mapping (sym text) ∙ here.reads)

module _ (mapping : Mapping) (function : DigestFunction) (state : State) (store : Store) (stands : Stands mapping (hashes_of function) state store) where
  -- it is in form
  pub in_form : IsInForm (hashes_of function) function.width mapping store
  in_form = record {
    undamaged = undamaged_if_valid mapping function (valid_mapping mapping (hashes_of function) state store stands) state store stands;
    goes_on = keeps_f15 mapping (hashes_of function) state store stands;
  }

  -- so none of the rules behind that of the mapping is broken
  pub none_broken : (damage : Damage) → BreaksRule (hashes_of function) function.width mapping store damage → ⊥
  none_broken damage (inl broken) =
      let none : None ≡ Some damage = sym in_form.undamaged ∙ broken in
      cc
  none_broken damage (inr broken) = broken.stops in_form.goes_on
