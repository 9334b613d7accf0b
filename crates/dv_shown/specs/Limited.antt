-- What is past a limit, and what keeps to it, whatever else it is.
use Rattle.std.specs.Prelude.{◌≡◌, ℕ, ◌+◌, ◌<◌, ◌≤◌, true, false, ◌&&◌, ◌||◌, ◌==◌, nat_lt, codes, List, [], ◌∷◌, ◌++◌, Some, None, is_none, length, map, position, sum_by}
use Rattle.std.specs.List.{list_all}
use Rattle.std.specs.Cmp.Lexicographic.{pointwise}
use Rattle.dv_text.specs.declared.rows.NRow.{NRow}
use Rattle.dv_text.specs.declared.rows.Window.{Window}
use Rattle.dv_text.specs.Keys.{Hashes, row_eq}
use Rattle.dv_text.specs.Orders.{row_cmp}
use Rattle.dv_text.specs.Sorting.{sorted_by}
use Rattle.dv_catalog.specs.declared.entries.FeedDef.{FeedDef}
use Rattle.dv_catalog.specs.declared.rules.Rule.{Rule}
use Rattle.dv_catalog.specs.declared.rules.Rule.TheVariants.{OpenOther, TooLong, VaultFull}
use Rattle.dv_catalog.specs.declared.windows.WindowIn.{WindowIn}
use Rattle.dv_catalog.specs.Entries.{Mapping}
use Rattle.dv_catalog.specs.Windows.{window_of, window_rule}
use Rattle.dv_records.specs.declared.answers.Outcome.TheVariants.{Refused}
use Rattle.dv_records.specs.declared.answers.SnapAnswer.{SnapAnswer}
use Rattle.dv_records.specs.declared.answers.SnapAnswer.TheVariants as snap
use Rattle.dv_records.specs.Collisions.{collision}
use Rattle.dv_records.specs.Marts.{contents, is_larger}
use Rattle.dv_records.specs.Outcomes.{collides, differs, feed_twice, is_new, late, no_extracts, open_other, outcome, refusal, too_long, too_long_behind, unknown_feed, vault_full}
use Rattle.dv_records.specs.Snapshots.{snapshot}
use Rattle.dv_records.specs.States.{State, beginning, are_dates_valid, are_not_later, are_rows_of, are_windows_valid, ascends, is_row_of, is_one_partner, is_one_row, is_staged, is_window, holds_of_each_two, last_load, snapshots_weight}
use Rattle.dv_records.specs.Steps.{future, snapshot_refusal, snapshots_full, taken, too_large}
use Rattle.dv_records.specs.Weights.{vault_weight}
use Rattle.dv_shown.specs.Answered.{begun, extract, first_loaded, given, of_customers}
use Rattle.dv_shown.specs.Mappings.{with_names}
use Rattle.dv_shown.specs.Words.{day, plain}

-- what the stored snapshots and one at a date weigh together
abbrev pub weight_with : Mapping → Hashes → State → ℕ → ℕ
weight_with mapping hashes state date =
    snapshots_weight mapping hashes state.sealed state.dates + (snapshot mapping hashes state.sealed date).head.weight

-- a window whose load date is new, and that breaks none of the rules before those of collisions and of the vault
pub record IsOtherwiseNew (mapping : Mapping) (state : State) (given : WindowIn) : Type 0 where
  pub extracts : no_extracts given ≡ None
  pub known : unknown_feed mapping given ≡ None
  pub once : feed_twice given ≡ None
  pub later : late state given ≡ None
  pub alone : open_other state.begun given ≡ None
  pub short : too_long given ≡ None
  pub rows : window_rule mapping given ≡ None
  pub same : differs state (window_of mapping given) ≡ None
  pub new : is_new state (window_of mapping given) ≡ true

-- past a limit
pub record LimitsPassed : Type 0 where
  pub long_extract : (feed bytes : List ℕ) → 33554432 < length bytes → too_long_behind 0 (extract feed bytes ∷ []) ≡ Some (TooLong feed)
  pub long_window : (feed a b : List ℕ) → length a ≤ 33554432 → 67108864 < 40000000 + length a → too_long_behind 40000000 (extract feed a ∷ []) ≡ Some (TooLong feed)
  pub long_refused : (bytes : List ℕ) → 33554432 < length bytes → outcome with_names plain beginning (given 1 (of_customers bytes)) ≡ Refused (TooLong (codes "customers"))
  pub other_open_first : (bytes : List ℕ) → outcome with_names plain (begun first_loaded) (given 2 (of_customers bytes)) ≡ Refused (OpenOther (day 1))
  pub many_rows : (mapping : Mapping) (feed : FeedDef) (rows : List NRow) → 200000 < length rows → are_rows_of mapping feed rows ≡ false
  pub many_window_rows :
      (mapping : Mapping) (window : Window) → 400000 < sum_by (λ staged. length staged.rows) window.extracts → is_window mapping window ≡ false
  pub many_windows : (mapping : Mapping) (hashes : Hashes) (windows : List Window) → 10000 < length windows → are_windows_valid mapping hashes windows ≡ false
  pub heavy_windows :
      (mapping : Mapping) (hashes : Hashes) (windows : List Window) → 1073741824 < vault_weight mapping hashes windows → are_windows_valid mapping hashes windows ≡ false
  pub many_snapshots : (mapping : Mapping) (hashes : Hashes) (state : State) → 1000 < length state.dates → are_dates_valid mapping hashes state ≡ false
  pub heavy_snapshots :
      (mapping : Mapping) (hashes : Hashes) (state : State)
      → 268435456 < snapshots_weight mapping hashes state.sealed state.dates → are_dates_valid mapping hashes state ≡ false
  pub heavy_vault :
      (mapping : Mapping) (hashes : Hashes) (state : State) (window : Window)
      → 1073741824 < vault_weight mapping hashes (state.sealed ++ window ∷ [])
      → vault_full mapping hashes state window ≡ Some (VaultFull (vault_weight mapping hashes (state.sealed ++ window ∷ [])) (length state.sealed))
  -- of a new window that breaks no other rule, a collision is told before the limits of the vault
  pub collision_told :
      (mapping : Mapping) (hashes : Hashes) (state : State) (given : WindowIn) (rule : Rule)
      → IsOtherwiseNew mapping state given → collides mapping hashes state (window_of mapping given) ≡ Some rule
      → refusal mapping hashes state given ≡ Some rule
  pub full_told :
      (mapping : Mapping) (hashes : Hashes) (state : State) (given : WindowIn) (rule : Rule)
      → IsOtherwiseNew mapping state given → collides mapping hashes state (window_of mapping given) ≡ None
      → vault_full mapping hashes state (window_of mapping given) ≡ Some rule
      → refusal mapping hashes state given ≡ Some rule
  pub full_snapshot_told :
      (mapping : Mapping) (hashes : Hashes) (state : State) (date : ℕ) (answer : SnapAnswer)
      → future state date ≡ None → taken state date ≡ None → too_large mapping state date ≡ None
      → snapshots_full mapping hashes state date ≡ Some answer → snapshot_refusal mapping hashes state date ≡ Some answer
  pub large_path :
      (mapping : Mapping) (hashes : Hashes) (state : State) (date path : ℕ)
      → future state date ≡ None → taken state date ≡ None
      → position (λ path. is_larger 1000000 mapping (contents state.sealed date) path) mapping.paths ≡ Some path
      → snapshot_refusal mapping hashes state date ≡ Some (snap.TooLarge path)
  pub taken_first :
      (mapping : Mapping) (hashes : Hashes) (state : State) (date : ℕ)
      → future state date ≡ None → taken state date ≡ Some snap.Repeated → snapshot_refusal mapping hashes state date ≡ Some snap.Repeated
  pub heavy_snapshot :
      (mapping : Mapping) (hashes : Hashes) (state : State) (date : ℕ)
      → 268435456 < weight_with mapping hashes state date
      → snapshots_full mapping hashes state date ≡ Some (snap.Full (weight_with mapping hashes state date))
  pub snapshot_too_many :
      (mapping : Mapping) (hashes : Hashes) (state : State) (date : ℕ)
      → 1000 ≤ length state.dates
      → snapshots_full mapping hashes state date ≡ Some (snap.Full (weight_with mapping hashes state date))

-- within it, the rest decides
pub record LimitsKept : Type 0 where
  pub extract_within : (feed bytes : List ℕ) → length bytes ≤ 33554432 → too_long_behind 0 (extract feed bytes ∷ []) ≡ None
  pub rows_within :
      (mapping : Mapping) (feed : FeedDef) (rows : List NRow) → length rows ≤ 200000
      → are_rows_of mapping feed rows
      ≡ (pointwise row_eq (sorted_by row_cmp rows) rows && list_all (is_row_of mapping feed) rows && holds_of_each_two is_one_row rows
      && ((length feed.driver == 0) || holds_of_each_two (is_one_partner feed) rows))
  pub window_within :
      (mapping : Mapping) (window : Window) → sum_by (λ staged. length staged.rows) window.extracts ≤ 400000
      → is_window mapping window
      ≡ (nat_lt 0 (length window.extracts) && ascends (map (λ staged. staged.feed) window.extracts) && list_all (is_staged mapping) window.extracts)
  pub windows_within :
      (mapping : Mapping) (hashes : Hashes) (windows : List Window) → vault_weight mapping hashes windows ≤ 1073741824 → length windows ≤ 10000
      → are_windows_valid mapping hashes windows
      ≡ (ascends (map (λ window. window.load) windows) && list_all (is_window mapping) windows && is_none (collision mapping hashes windows))
  pub snapshots_within :
      (mapping : Mapping) (hashes : Hashes) (state : State)
      → length state.dates ≤ 1000 → snapshots_weight mapping hashes state.sealed state.dates ≤ 268435456
      → are_dates_valid mapping hashes state ≡ (ascends state.dates && are_not_later (last_load state.sealed) state.dates)
  pub snapshot_within :
      (mapping : Mapping) (hashes : Hashes) (state : State) (date : ℕ)
      → weight_with mapping hashes state date ≤ 268435456 → length state.dates < 1000 → snapshots_full mapping hashes state date ≡ None
