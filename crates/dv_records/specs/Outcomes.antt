-- What comes of a window that is given: the first rule that it breaks, or that it repeats a sealed one, or that it is loaded.
use Rattle.std.specs.Cmp.Lexicographic.{pointwise}
use Rattle.std.specs.List.{list_any}
use Rattle.std.specs.Option.{option_map, option_map_or}
use Rattle.std.specs.Prelude.{ℕ, ◌+◌, ◌==◌, Bool, not, ◌&&◌, ◌||◌, nat_le, nat_lt, is_none, is_some, List, [], ◌∷◌, ◌++◌, Option, Some, None, map, length, find, if◌then◌else◌}
use Rattle.std.specs.Str.{bytes_eq}
use Rattle.dv_text.specs.declared.rows.Staged.{Staged}
use Rattle.dv_text.specs.declared.rows.Window.{Window}
use Rattle.dv_text.specs.Keys.{Hashes, row_eq}
use Rattle.dv_catalog.specs.declared.rules.Rule.{Rule}
use Rattle.dv_catalog.specs.declared.rules.Rule.TheVariants.{NoExtracts, UnknownFeed, FeedTwice, Late, OpenOther, TooLong, Differs, Collision, VaultFull}
use Rattle.dv_catalog.specs.declared.windows.ExtractIn.{ExtractIn}
use Rattle.dv_catalog.specs.declared.windows.WindowIn.{WindowIn}
use Rattle.dv_catalog.specs.Entries.{Mapping}
use Rattle.dv_catalog.specs.FirstOf.{first_of}
use Rattle.dv_catalog.specs.Tables.{table_name}
use Rattle.dv_records.specs.declared.answers.Outcome.{Outcome}
use Rattle.dv_records.specs.declared.answers.Outcome.TheVariants.{Load, Repeated, Refused}
use Rattle.dv_records.specs.Collisions.{collision}
use Rattle.dv_records.specs.GivenWindows.{rule_in, window_in}
use Rattle.dv_records.specs.Limits.{most_extract_bytes, most_weight, most_window_bytes, most_windows}
use Rattle.dv_records.specs.States.{State, all_windows, last_load}
use Rattle.dv_records.specs.Weights.{vault_weight}

-- ---- the extracts as they are given

-- W1: no extract is given
abbrev pub no_extracts : WindowIn → Option Rule
no_extracts given = if length given.extracts == 0 then Some NoExtracts else None

-- a feed of this name is in the mapping
abbrev pub is_feed : Mapping → List ℕ → Bool
is_feed mapping name = list_any (λ feed. bytes_eq feed.name name) mapping.feeds

-- W2: the first extract whose feed isn't in the mapping
abbrev pub unknown_feed : Mapping → WindowIn → Option Rule
unknown_feed mapping given =
    option_map (λ extract. UnknownFeed extract.feed) (find (λ extract. not (is_feed mapping extract.feed)) given.extracts)

-- the first name that stands among those before it
abbrev pub repeated_name : List (List ℕ) → List (List ℕ) → Option (List ℕ)
repeated_name seen [] = None
repeated_name seen (name ∷ names) = if list_any (bytes_eq name) seen then Some name else repeated_name (name ∷ seen) names

-- W3: the first extract whose feed stands earlier in the window
abbrev pub feed_twice : WindowIn → Option Rule
feed_twice given = option_map (λ name. FeedTwice name) (repeated_name [] (map (λ extract. extract.feed) given.extracts))

abbrev pub too_long_behind : ℕ → List ExtractIn → Option Rule
too_long_behind bytes [] = None
too_long_behind bytes (extract ∷ extracts) =
    if nat_lt most_extract_bytes (length extract.bytes) || nat_lt most_window_bytes (bytes + length extract.bytes) then Some (TooLong extract.feed)
    else too_long_behind (bytes + length extract.bytes) extracts

-- W6: the first extract, as given, that is too long, or with which the window is
abbrev pub too_long : WindowIn → Option Rule
too_long given = too_long_behind 0 given.extracts

-- ---- the load date

-- a window of this load date
abbrev pub window_at : ℕ → List Window → Option Window
window_at load windows = find (λ window. window.load == load) windows

abbrev pub late_after : Option ℕ → ℕ → Option Rule
late_after None load = None
late_after (Some last) load = if nat_le load last then Some (Late last) else None

-- W4: the load date is not later than the last sealed one, and is that of no sealed window
abbrev pub late : State → WindowIn → Option Rule
late state given = if is_some (window_at given.load state.sealed) then None else late_after (last_load state.sealed) given.load

-- W5: a window is open and has another load date
abbrev pub open_other : Option Window → WindowIn → Option Rule
open_other None given = None
open_other (Some window) given = if window.load == given.load then None else Some (OpenOther window.load)

-- ---- the rows

abbrev pub staged_eq : Staged → Staged → Bool
staged_eq a b = (a.feed == b.feed) && pointwise row_eq a.rows b.rows

-- two windows of one load date have the same feeds and rows
abbrev pub has_same_extracts : Window → Window → Bool
has_same_extracts a b = pointwise staged_eq a.extracts b.extracts

abbrev pub differs_from : Option Window → Window → Option Rule
differs_from None window = None
differs_from (Some other) window = if has_same_extracts other window then None else Some (Differs other.load)

-- W19: the load date is that of a sealed window, or of the open one, and feeds or rows differ from it
abbrev pub differs : State → Window → Option Rule
differs state window = differs_from (window_at window.load (all_windows state)) window

-- the load date is that of no window yet
abbrev pub is_new : State → Window → Bool
is_new state window = is_none (window_at window.load (all_windows state))

-- W20: two keys of a hub, or reference lists of a link, have one hash key: the least pair of the first table that has one
abbrev pub collides : Mapping → Hashes → State → Window → Option Rule
collides mapping hashes state window =
    option_map
    (λ found. Collision (table_name mapping found.table) found.pair.first found.pair.second)
    (collision mapping hashes (state.sealed ++ window ∷ []))

abbrev pub full_at : ℕ → ℕ → Option Rule
full_at weight windows = if nat_lt most_weight weight || nat_le most_windows windows then Some (VaultFull weight windows) else None

-- W21: the vault with this window would weigh too much, or has as many windows as it may
abbrev pub vault_full : Mapping → Hashes → State → Window → Option Rule
vault_full mapping hashes state window = full_at (vault_weight mapping hashes (state.sealed ++ window ∷ [])) (length state.sealed)

-- a rule that is asked only of a window whose load date is new
abbrev pub if_new : State → Window → Option Rule → Option Rule
if_new state window rule = if is_new state window then rule else None

-- ---- all rules in their order

-- the first rule that a window breaks
abbrev pub refusal : Mapping → Hashes → State → WindowIn → Option Rule
refusal mapping hashes state given =
    first_of (
    no_extracts given ∷ unknown_feed mapping given ∷ feed_twice given ∷ late state given ∷ open_other state.begun given ∷ too_long given
    ∷ rule_in mapping state.sealed given ∷ differs state (window_in mapping state.sealed given)
    ∷ if_new state (window_in mapping state.sealed given) (collides mapping hashes state (window_in mapping state.sealed given))
    ∷ if_new state (window_in mapping state.sealed given) (vault_full mapping hashes state (window_in mapping state.sealed given)) ∷ [])

abbrev pub accepted : State → ℕ → Outcome
accepted state load = if is_some (window_at load state.sealed) then Repeated else Load

-- what comes of a window in a state
abbrev pub outcome : Mapping → Hashes → State → WindowIn → Outcome
outcome mapping hashes state given = option_map_or (λ rule. Refused rule) (refusal mapping hashes state given) (accepted state given.load)
