-- The state of the warehouse: its sealed windows in order, the open one, and the dates of its snapshots; and what makes it valid.
use Rattle.std.specs.Cmp.Lexicographic.{pointwise}
use Rattle.std.specs.List.{list_all, list_any, last_or}
use Rattle.std.specs.Option.{option_map_or, option_to_list}
use Rattle.std.specs.Prelude.{ℕ, ◌==◌, Bool, true, false, ◌&&◌, ◌||◌, not, nat_le, nat_lt, is_none, List, [], ◌∷◌, ◌++◌, Option, Some, None, map, length, sum_by, slice_get}
use Rattle.dv_text.specs.declared.rows.Key.{Key}
use Rattle.dv_text.specs.declared.rows.NRow.{NRow}
use Rattle.dv_text.specs.declared.rows.Staged.{Staged}
use Rattle.dv_text.specs.declared.rows.Window.{Window}
use Rattle.dv_text.specs.declared.rows.WindowHead.{WindowHead}
use Rattle.dv_text.specs.Keys.{Hashes, is_missing, row_eq, texts_eq}
use Rattle.dv_text.specs.Normal.{norm_field, norm_key}
use Rattle.dv_text.specs.Orders.{row_cmp}
use Rattle.dv_text.specs.Sorting.{sorted_by}
use Rattle.dv_catalog.specs.declared.entries.FeedDef.{FeedDef}
use Rattle.dv_catalog.specs.Entries.{Mapping}
use Rattle.dv_catalog.specs.Feeds.{parent_hubs, parts_of}
use Rattle.dv_catalog.specs.Readings.{part_ways}
use Rattle.dv_catalog.specs.Records.{are_rivals, driver_keys}
use Rattle.dv_records.specs.Collisions.{collision}
use Rattle.dv_records.specs.Limits.{most_field_bytes, most_records, most_snapshot_weight, most_snapshots, most_weight, most_window_records, most_windows}
use Rattle.dv_records.specs.Snapshots.{snapshot}
use Rattle.dv_records.specs.Weights.{vault_weight}

pub record State : Type 0 where
  pub sealed : List Window
  pub begun : Option Window
  pub dates : List ℕ

-- a warehouse begins with no window and no snapshot
abbrev pub beginning : State
beginning = record { sealed = []; begun = None; dates = [] }

-- the sealed windows, and behind them the open one
abbrev pub all_windows : State → List Window
all_windows state = state.sealed ++ option_to_list state.begun

-- the load date of the last sealed window
abbrev pub last_load : List Window → Option ℕ
last_load sealed = last_or None (map (λ window. window.load) sealed)

-- the load date of the last of the sealed windows, which have these heads
abbrev pub last_sealed : List WindowHead → Option ℕ
last_sealed heads = last_or None (map (λ head. head.load) heads)

-- a window's load date and feeds
abbrev pub head_of : Window → WindowHead
head_of window = record { load = window.load; feeds = map (λ staged. staged.feed) window.extracts }

-- ---- the rows of an extract

-- each number is less than all behind it
abbrev pub ascends : List ℕ → Bool
ascends [] = true
ascends (n ∷ later) = list_all (nat_lt n) later && ascends later

-- the text is its own normal form as a key part, and not too long
abbrev pub is_key_part : List ℕ → Bool
is_key_part part = texts_eq (norm_key part ∷ []) (part ∷ []) && nat_le (length part) most_field_bytes

-- the text is its own normal form as a field, and not too long
abbrev pub is_field : List ℕ → Bool
is_field text = texts_eq (norm_field text ∷ []) (text ∷ []) && nat_le (length text) most_field_bytes

-- a key has as many parts as its hub says, each in normal form
abbrev pub fits_hub : Mapping → ℕ → Key → Bool
fits_hub mapping hub key = (length key.parts == parts_of (slice_get mapping.hubs hub)) && list_all is_key_part key.parts

-- references are as many as the hubs, and each fits its hub
abbrev pub fit_hubs : Mapping → List ℕ → List Key → Bool
fit_hubs mapping [] [] = true
fit_hubs mapping (hub ∷ hubs) (key ∷ refs) = fits_hub mapping hub key && fit_hubs mapping hubs refs
fit_hubs mapping hubs refs = false

-- the keys that have to be there are: some reference, so also a hub's one key, and all driving keys
abbrev pub is_keyed : FeedDef → NRow → Bool
is_keyed feed row = not (list_all is_missing row.refs) && not (list_any is_missing (driver_keys feed row))

-- a row has the feed's form
abbrev pub is_row_of : Mapping → FeedDef → NRow → Bool
is_row_of mapping feed row =
    fit_hubs mapping (parent_hubs mapping feed.parent) row.refs && is_keyed feed row
    && (length row.sub == length feed.sub) && list_all is_field row.sub
    && (length row.attrs == length feed.attrs) && list_all is_field row.attrs

-- two rows of one parent and sub are one
abbrev pub is_one_row : NRow → NRow → Bool
is_one_row a b = not (are_rivals a b)

-- two rows with the same driving keys have the same references
abbrev pub is_one_partner : FeedDef → NRow → NRow → Bool
is_one_partner feed a b = not (part_ways feed a b)

-- a test holds of each two rows
abbrev pub holds_of_each_two : (NRow → NRow → Bool) → List NRow → Bool
holds_of_each_two test rows = list_all (λ a. list_all (test a) rows) rows

-- the rows of a feed ascend, are distinct and in normal form, and break no rule of an extract
abbrev pub are_rows_of : Mapping → FeedDef → List NRow → Bool
are_rows_of mapping feed rows =
    pointwise row_eq (sorted_by row_cmp rows) rows && list_all (is_row_of mapping feed) rows
    && holds_of_each_two is_one_row rows
    && ((length feed.driver == 0) || holds_of_each_two (is_one_partner feed) rows)
    && nat_le (length rows) most_records

abbrev pub is_staged : Mapping → Staged → Bool
is_staged mapping staged = option_map_or (λ feed. are_rows_of mapping feed staged.rows) (slice_get mapping.feeds staged.feed) false

-- a window has at least one feed, its feeds ascend, and the rows of each are in order
abbrev pub is_window : Mapping → Window → Bool
is_window mapping window =
    nat_lt 0 (length window.extracts) && ascends (map (λ staged. staged.feed) window.extracts)
    && list_all (is_staged mapping) window.extracts
    && nat_le (sum_by (λ staged. length staged.rows) window.extracts) most_window_records

-- ---- the state

-- no snapshot is later than the last sealed window
abbrev pub are_not_later : Option ℕ → List ℕ → Bool
are_not_later None dates = length dates == 0
are_not_later (Some last) dates = list_all (λ date. nat_le date last) dates

-- the windows are in order, no two keys or reference lists have one hash key, and the vault keeps its limits
abbrev pub are_windows_valid : Mapping → Hashes → List Window → Bool
are_windows_valid mapping hashes windows =
    ascends (map (λ window. window.load) windows) && list_all (is_window mapping) windows
    && is_none (collision mapping hashes windows)
    && nat_le (vault_weight mapping hashes windows) most_weight && nat_le (length windows) most_windows

-- what the snapshots at dates weigh together
abbrev pub snapshots_weight : Mapping → Hashes → List Window → List ℕ → ℕ
snapshots_weight mapping hashes sealed dates = sum_by (λ date. (snapshot mapping hashes sealed date).head.weight) dates

-- the snapshots' dates ascend, none is later than the last sealed window, and the snapshots keep their limits
abbrev pub are_dates_valid : Mapping → Hashes → State → Bool
are_dates_valid mapping hashes state =
    ascends state.dates && are_not_later (last_load state.sealed) state.dates && nat_le (length state.dates) most_snapshots
    && nat_le (snapshots_weight mapping hashes state.sealed state.dates) most_snapshot_weight

abbrev pub is_valid_state : Mapping → Hashes → State → Bool
is_valid_state mapping hashes state = are_windows_valid mapping hashes (all_windows state) && are_dates_valid mapping hashes state
