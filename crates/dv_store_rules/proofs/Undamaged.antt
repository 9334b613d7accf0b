-- A store that stands for a state of the warehouse has no damage where its mapping is valid.
use Rattle.dv_store_rules.proofs.Vocabulary.{Contains, Contains-append_left, Contains-map, DigestFunction, Effect, Hashes, HubTable, Known, LinkTable, List, Mapping, Multi, None, Option, Sat, Snap, Some, Stands, State, Status, Store, TableId, TablesStand, Window, [], all_windows, and_parts, ap}
use Rattle.dv_store_rules.proofs.Vocabulary.{append-nil, are_dates_valid, are_windows_valid, backwards, codes, damage_at, damage_in, first_of, flaw_in, form_damage, hashes_of, head_damage, head_flaw, head_of, if_broken, is_stage, is_valid, is_window, known_before, map, map-append}
use Rattle.dv_store_rules.proofs.Vocabulary.{map-map, most_weight, option_map, option_to_list, passes_at, raw_damage, refl, rows_weight, snapshot, snapshot_damage, snapshot_flaw, snapshot_heads, stage_damage, stage_damage_by, stored_entries, subst, sym, table_after, table_name, tables}
use Rattle.dv_store_rules.proofs.Vocabulary.{tables_weight, true, ℕ, ◌++◌, ◌+◌, ◌∙◌, ◌∷◌, ◌≡◌, ◌≤◌}
use Rattle.dv_store_rules.proofs.{Around.Around, Around.HaveParents, EarlierTables.hub_earlier, EarlierTables.link_earlier, FewerWindows.fewer_valid, FewerWindows.parts_of_valid, Flawless.none_along, Reached.Holds, Reached.partial_holds, Reached.vault_holds_all, ReadBefore.hubs_before}
use Rattle.dv_store_rules.proofs.{ReadBefore.light_with, ReadBefore.links_before, SoundEffects.sound_effect, SoundHeads.sound_heads, SoundHeads.sound_stage, SoundHubs.sound_hub, SoundLinks.sound_link, SoundMultis.sound_multi, SoundSats.sound_sat, SoundSnapshots.sound_snapshots}
use Rattle.dv_store_rules.proofs.{SoundStatuses.sound_status, Splits.item_in, Widths.AreOfWidth, Widths.of_width}

module _ (mapping : Mapping) (hashes : Hashes) (width : ℕ) (store : Store) (windows : List Window) (mapping_valid : is_valid mapping ≡ true) (wide : AreOfWidth hashes width) (valid : are_windows_valid mapping hashes windows ≡ true)
    (holds : Holds mapping hashes store windows) (headed : (window : Window) → Contains windows window → Contains (store.windows ++ map head_of (option_to_list store.stage)) (head_of window)) where
  module _ (before : List TableId) (id : TableId) (after : List TableId) (e : tables mapping ≡ before ++ id ∷ after) where
    abbrev known : Known
    known = known_before mapping hashes width store before

    around : Around known (holds.reach id)
    around = record { mapping_valid = mapping_valid; wide = wide; valid = holds.valid id; headed = λ window has. headed window (holds.within id window has) }

    light : tables_weight (stored_entries store before) + rows_weight (table_after mapping hashes (backwards (holds.reach id)) id) ≤ most_weight
    light = light_with mapping hashes store windows holds (parts_of_valid mapping hashes windows valid).light before id after e

    parents : ((n : ℕ) → HubTable n ≡ id → ⊥) → ((n : ℕ) → LinkTable n ≡ id → ⊥) → HaveParents known (holds.reach id)
    parents no_hub no_link = record {
      hubs = hubs_before mapping hashes store windows holds width before id after e (hub_earlier mapping id no_hub);
      links = links_before mapping hashes store windows holds width before id after e (link_earlier mapping id no_hub no_link);
    }

  -- no row of a table breaks a rule where the table is that after some of the windows
  sound_table : (before : List TableId) (id : TableId) (after : List TableId) → tables mapping ≡ before ++ id ∷ after → flaw_in (known_before mapping hashes width store before) id (table_after mapping hashes (backwards (holds.reach id)) id) ≡ None
  sound_table before (HubTable hub) after e = sound_hub (known before (HubTable hub) after e) hub (holds.reach (HubTable hub)) (around before (HubTable hub) after e) (light before (HubTable hub) after e)
  sound_table before (LinkTable link) after e =
      sound_link (known before (LinkTable link) after e) link (holds.reach (LinkTable link)) (around before (LinkTable link) after e)
      (hubs_before mapping hashes store windows holds width before (LinkTable link) after e (hub_earlier mapping (LinkTable link) (λ n no. cc))) (light before (LinkTable link) after e)
  sound_table before (Sat feed) after e =
      sound_sat (known before (Sat feed) after e) feed (holds.reach (Sat feed)) (around before (Sat feed) after e) (parents before (Sat feed) after e (λ n no. cc) (λ n no. cc)) (light before (Sat feed) after e)
  sound_table before (Multi feed) after e =
      sound_multi (known before (Multi feed) after e) feed (holds.reach (Multi feed)) (around before (Multi feed) after e) (parents before (Multi feed) after e (λ n no. cc) (λ n no. cc)) (light before (Multi feed) after e)
  sound_table before (Status feed) after e =
      sound_status (known before (Status feed) after e) feed (holds.reach (Status feed)) (around before (Status feed) after e) (parents before (Status feed) after e (λ n no. cc) (λ n no. cc)) (light before (Status feed) after e)
  sound_table before (Effect feed) after e =
      sound_effect (known before (Effect feed) after e) feed (holds.reach (Effect feed)) (around before (Effect feed) after e) (parents before (Effect feed) after e (λ n no. cc) (λ n no. cc)) (light before (Effect feed) after e)

  -- so no raw table has damage
  sound_tables : raw_damage mapping hashes width store ≡ None
  sound_tables =
      none_along (damage_in mapping hashes width store) (tables mapping) [] (λ before id after e.
      let held = holds.rows id (subst (λ l. Contains l id) (sym e) (item_in before id after)) in
      ap (option_map (damage_at (table_name mapping id))) (ap (flaw_in (known_before mapping hashes width store before) id) held ∙ sound_table before id after e))

-- ---- sealed windows, the open one, raw tables, and snapshots

none_of_four : {R : Type 0} (a b c d : Option R) → a ≡ None → b ≡ None → c ≡ None → d ≡ None → first_of (a ∷ b ∷ c ∷ d ∷ []) ≡ None
none_of_four a b c d no_a no_b no_c no_d = rw (no_a, no_b, no_c, no_d) refl

-- no snapshot of a state has damage
no_snapshot : (mapping : Mapping) (hashes : Hashes) (state : State) (store : Store) → are_dates_valid mapping hashes state ≡ true → store.windows ≡ map head_of state.sealed → store.snapshots ≡ map (snapshot mapping hashes state.sealed) state.dates → snapshot_damage store ≡ None
no_snapshot mapping hashes state store valid windows snapshots =
    let heads : snapshot_heads store ≡ map (λ date. (snapshot mapping hashes state.sealed date).head) state.dates =
    ap (map (λ (snap : Snap). snap.head)) snapshots ∙ map-map (λ (snap : Snap). snap.head) (snapshot mapping hashes state.sealed) state.dates in
    (λ i. option_map (damage_at (codes "snapshots")) (snapshot_flaw (windows i) (heads i)))
    ∙ ap (option_map (damage_at (codes "snapshots"))) (sound_snapshots mapping hashes state valid)

module _ (mapping : Mapping) (hashes : Hashes) (width : ℕ) (mapping_valid : is_valid mapping ≡ true) (wide : AreOfWidth hashes width) (store : Store) (sealed : List Window) (windows : store.windows ≡ map head_of sealed) (no_snap : snapshot_damage store ≡ None) where
  -- no sealed window has damage
  sound_sealed : are_windows_valid mapping hashes sealed ≡ true → head_damage mapping store ≡ None
  sound_sealed valid =
      let parts = parts_of_valid mapping hashes sealed valid in
      ap (λ heads. option_map (damage_at (codes "windows")) (head_flaw mapping heads)) windows ∙ ap (option_map (damage_at (codes "windows"))) (sound_heads mapping sealed parts.ordered parts.whole parts.few)

  -- the heads that are known are those of all windows
  all_headed : (begun : Option Window) → store.stage ≡ begun → (window : Window) → Contains (sealed ++ option_to_list begun) window → Contains (store.windows ++ map head_of (option_to_list store.stage)) (head_of window)
  all_headed begun stage window has =
      let heads : store.windows ++ map head_of (option_to_list store.stage) ≡ map head_of (sealed ++ option_to_list begun) = (λ i. windows i ++ map head_of (option_to_list (stage i))) ∙ sym (map-append head_of sealed (option_to_list begun)) in
      subst (λ heads. Contains heads (head_of window)) (sym heads) (Contains-map head_of (sealed ++ option_to_list begun) window has)

  sound_store : (begun : Option Window) → store.stage ≡ begun → are_windows_valid mapping hashes (sealed ++ option_to_list begun) ≡ true → TablesStand mapping hashes sealed begun store → form_damage mapping hashes width store ≡ None
  sound_store None stage valid stand =
      let sealed_valid : are_windows_valid mapping hashes sealed ≡ true = rw append-nil at valid in
      let holds = vault_holds_all mapping hashes store sealed sealed_valid stand in
      let not_staged : stage_damage mapping store ≡ None = λ i. stage_damage_by (λ window. if_broken 3 (is_stage mapping store.windows window)) (stage i) in
      none_of_four (head_damage mapping store) (stage_damage mapping store) (raw_damage mapping hashes width store) (snapshot_damage store) (sound_sealed sealed_valid) not_staged
      (sound_tables mapping hashes width store sealed mapping_valid wide sealed_valid holds (λ window has. all_headed None stage window (Contains-append_left sealed [] window has))) no_snap
  sound_store (Some window) stage valid (k, within, stand) =
      let parts = parts_of_valid mapping hashes (sealed ++ window ∷ []) valid in
      let holds = partial_holds mapping hashes store sealed window k valid stand in
      let whole = passes_at (is_window mapping) (sealed ++ window ∷ []) window parts.whole (item_in sealed window []) in
      let staged : stage_damage mapping store ≡ stage_damage_by (λ window. if_broken 3 (is_stage mapping (map head_of sealed) window)) (Some window) =
      λ i. stage_damage_by (λ window. if_broken 3 (is_stage mapping (windows i) window)) (stage i) in
      let in_form = ap (λ b. option_map (λ rule. damage_at (codes "stage") (record { row = 1; rule = rule })) (if_broken 3 b)) (sound_stage mapping sealed window parts.ordered whole) in
      none_of_four (head_damage mapping store) (stage_damage mapping store) (raw_damage mapping hashes width store) (snapshot_damage store) (sound_sealed (fewer_valid mapping hashes sealed window valid)) (staged ∙ in_form)
      (sound_tables mapping hashes width store (sealed ++ window ∷ []) mapping_valid wide valid holds (all_headed (Some window) stage)) no_snap

-- a store that stands for a state has no damage, where the mapping is valid
pub undamaged_if_valid : (mapping : Mapping) (function : DigestFunction) → is_valid mapping ≡ true → (state : State) (store : Store) → Stands mapping (hashes_of function) state store
    → form_damage mapping (hashes_of function) function.width store ≡ None
undamaged_if_valid mapping function mapping_valid state store stands =
    let hashes = hashes_of function in
    let (valid, dates) = and_parts (are_windows_valid mapping hashes (all_windows state)) (are_dates_valid mapping hashes state) stands.valid in
    sound_store mapping hashes function.width mapping_valid (of_width function) store state.sealed stands.windows (no_snapshot mapping hashes state store dates stands.windows stands.snapshots) state.begun stands.stage valid stands.tables_stand
