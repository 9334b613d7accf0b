use Rattle.dv_shown.proofs.Vocabulary.{Bool, HasTables, Hubs, IsMappedBy, None, Some, Status, Statuses, [], ap, arith, bare, bare_file, chars, day, false, holding, hub_first, if◌then◌else◌, is_utf8, length, map, next_keys, next_staged, other_file}
use Rattle.dv_shown.proofs.Vocabulary.{partial, plain, refl, row_count, slice_get, status_first, suc, sym, toml_on_literals, true, two_keys, two_keys_window, two_present, two_staged, unwrap_or, vault, zero, ℕ, ◌==◌, ◌∙◌, ◌∷◌, ◌≡◌}
use Rattle.dv_catalog.specs.declared.tables.TableId.TheVariants.{Hub}
use Rattle.dv_shown.proofs.StoredHubs.{counts_two, hub_count, hubs_in}
use Rattle.dv_shown.proofs.stores_stand.Goals as goal

-- a number of tables that have the batch leaves none of them out before another
no_gap : (k : ℕ) → HasTables (two_staged status_first) (partial bare plain [] two_keys_window k) → ⊥
no_gap zero tables = let e : 2 ≡ 0 = ap row_count (tables (Status 0)) in omega (arith, e)
no_gap (suc k) tables = let e : 0 ≡ 2 = ap row_count (tables (Hub 0)) in omega (arith, e)

-- nor does it lose the rows of sealed windows
none_lost : (k : ℕ) → HasTables (next_staged hub_first (two_present ∷ [])) (partial bare plain two_keys next_keys k) → ⊥
none_lost zero tables = let e : 0 ≡ 2 = ap row_count (tables (Status 0)) in omega (arith, e)
none_lost (suc zero) tables = let e : 0 ≡ 2 = ap row_count (tables (Status 0)) in omega (arith, e)
none_lost (suc (suc k)) tables = let e : 0 ≡ 4 = ap row_count (tables (Status 0)) in omega (arith, e)

not_mapped : IsMappedBy bare (Some other_file) → ⊥
not_mapped mapped =
    let one : hubs_in (Some other_file) ≡ 1 = ap hubs_in mapped.stored_is ∙ ap hub_count mapped.reads in
    omega (arith, one, counts_two)

-- before the first window no table has rows
either : {X : Type 0} (b : Bool) (x : X) → (if b then x else x) ≡ x
either true x = refl
either false x = refl

none_yet : HasTables (holding bare_file) (vault bare plain [])
none_yet (Hub n) = sym (either (0 == n) (Hubs []))
none_yet (Status n) = sym (either (0 == n) (Statuses []))
none_yet table = refl

pub returns : goal.returns
unfolding toml_on_literals is_utf8 chars
returns c =
    let mapped : IsMappedBy bare (Some bare_file) = record { text = bare_file; stored_is = refl; reads = refl } in
    record {
      sealed_window = search mapped;
      with_snapshot = search mapped;
      open_window = record { valid = refl; mapped = mapped; windows = refl; stage = refl; tables_stand = (1, omega arith, λ table. refl); snapshots = refl };
      open_in_none = record { valid = refl; mapped = mapped; windows = refl; stage = refl; tables_stand = (0, omega arith, λ table. refl); snapshots = refl };
      open_in_all = record { valid = refl; mapped = mapped; windows = refl; stage = refl; tables_stand = (2, omega arith, λ table. refl); snapshots = refl };
      beginning_stands = record { valid = refl; mapped = mapped; windows = refl; stage = refl; tables_stand = none_yet; snapshots = refl };
      snapshot_put = refl;
      open_over_sealed = record { valid = refl; mapped = mapped; windows = refl; stage = refl; tables_stand = (1, omega arith, λ table. refl); snapshots = refl };
      sealed_rows_lost = λ s. none_lost s.tables_stand.0 s.tables_stand.2;
      snapshot_missing = λ s. let e : 0 ≡ 1 = ap length s.snapshots in omega (arith, e);
      snapshot_of_open = λ s. let e : day 2 ≡ day 1 = ap (λ snaps. unwrap_or (slice_get (map (λ snap. snap.head.date) snaps) 0) 0) s.snapshots in omega (arith, e);
      out_of_order = λ s. no_gap s.tables_stand.0 s.tables_stand.2;
      not_valid = λ s. let e : false ≡ true = s.valid in cc;
      no_mapping = λ s. let e : None ≡ Some s.mapped.text = s.mapped.stored_is in cc;
      other_mapping = λ s. not_mapped s.mapped;
      other_heads = λ s. let e : day 2 ≡ day 1 = ap (λ heads. unwrap_or (slice_get (map (λ head. head.load) heads) 0) 0) s.windows in omega (arith, e);
      other_stage = λ s. let e : Some two_keys_window ≡ None = s.stage in cc;
      no_rows = λ s. let e : 0 ≡ 2 = ap row_count (s.tables_stand (Hub 0)) in omega (arith, e);
      other_snapshot = λ s. let e : day 2 ≡ day 1 = ap (λ snaps. unwrap_or (slice_get (map (λ snap. snap.head.date) snaps) 0) 0) s.snapshots in omega (arith, e);
      fresh = record { mapping = refl; stage = refl; windows = refl; empty = λ table. refl; snapshots = refl };
      mapped_store = λ s. let e : Some bare_file ≡ None = s.mapping in cc;
      staged_store = λ s. let e : Some two_keys_window ≡ None = s.stage in cc;
      headed_store = λ s. let e : 1 ≡ 0 = ap length s.windows in omega (arith, e);
      filled_store = λ s. let e : 2 ≡ 0 = ap row_count (s.empty (Hub 0)) in omega (arith, e);
      snapped_store = λ s. let e : 1 ≡ 0 = ap length s.snapshots in omega (arith, e);
    }
