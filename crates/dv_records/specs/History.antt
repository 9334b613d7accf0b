-- The extracts of a feed, the newest first, and its content at a date.
use Rattle.std.specs.Prelude.{ℕ, ◌==◌, nat_le, Bool, List, [], ◌∷◌, Option, map, reverse, find, filter}
use Rattle.std.specs.List.{list_any, filter_map, flat_map}
use Rattle.std.specs.List.Sorted.{IsStrictlySortedBy}
use Rattle.std.specs.Option.{option_map}
use Rattle.std.specs.Ordering.{nat_cmp}
use Rattle.dv_text.specs.declared.rows.Key.{Key}
use Rattle.dv_text.specs.declared.rows.NRow.{NRow}
use Rattle.dv_text.specs.declared.rows.Window.{Window}
use Rattle.dv_text.specs.Keys.{refs_eq}

-- an extract: a feed's rows in one window, with the window's load date
pub record Extract : Type 0 where
  pub load : ℕ
  pub rows : List NRow

-- a feed's extract in a window; none where the window hasn't the feed
abbrev pub extract_of : ℕ → Window → Option Extract
extract_of feed window =
    option_map (λ staged. record { load = window.load; rows = staged.rows }) (find (λ staged. staged.feed == feed) window.extracts)

-- a feed's history: its extracts, in the order of the windows; a window without the feed adds none, so it changes
-- nothing for the feed
abbrev pub history : ℕ → List Window → List Extract
history feed windows = filter_map (extract_of feed) windows

-- whether rows deliver a reference list: some row has it
abbrev pub delivers : List NRow → List Key → Bool
delivers rows refs = list_any (λ row. refs_eq row.refs refs) rows

-- the reference lists of rows
abbrev pub all_refs : List NRow → List (List Key)
all_refs rows = map (λ row. row.refs) rows

-- the rows of the newest extract; none where there is no extract
abbrev pub newest_rows : List Extract → List NRow
newest_rows [] = []
newest_rows (newest ∷ older) = newest.rows

-- the extracts that are not later than a date
abbrev pub up_to : ℕ → List Extract → List Extract
up_to date extracts = filter (λ extract. nat_le extract.load date) extracts

-- a feed's content at a date: its rows in the last sealed window that has the feed and is not later than the date; none
-- where there is no such window
abbrev pub content : ℕ → List Window → ℕ → List NRow
content feed sealed date = newest_rows (up_to date (history feed (reverse sealed)))

-- the reference lists that windows deliver of a feed, as often as they deliver them
abbrev pub delivered_refs : ℕ → List Window → List (List Key)
delivered_refs feed windows = flat_map (λ extract. all_refs extract.rows) (history feed windows)

-- the reference lists of extracts, as often as they deliver them
abbrev pub lists_of : List Extract → List (List Key)
lists_of extracts = flat_map (λ extract. all_refs extract.rows) extracts

-- extracts stand from the newest to the oldest
abbrev pub AreNewestFirst : List Extract → Type 0
AreNewestFirst extracts = IsStrictlySortedBy (λ a b. nat_cmp b.load a.load) extracts

-- the load dates of windows ascend strictly
abbrev pub IsInLoadOrder : List Window → Type 0
IsInLoadOrder windows = IsStrictlySortedBy nat_cmp (map (λ window. window.load) windows)
