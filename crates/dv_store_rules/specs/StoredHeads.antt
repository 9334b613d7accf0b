-- The form of what stands before the raw tables in a store: the heads of its sealed windows, and its open window.
use Rattle.std.specs.List.{list_all}
use Rattle.std.specs.Option.{option_map_or}
use Rattle.std.specs.Prelude.{ℕ, Bool, true, ◌&&◌, nat_lt, List, Option, length}
use Rattle.dv_text.specs.declared.rows.Window.{Window}
use Rattle.dv_text.specs.declared.rows.WindowHead.{WindowHead}
use Rattle.dv_catalog.specs.Entries.{Mapping}
use Rattle.dv_store_rules.specs.declared.flaws.Flaw.{Flaw}
use Rattle.dv_store_rules.specs.Flaws.{first_flaw, if_broken}
use Rattle.dv_records.specs.Limits.{most_windows}
use Rattle.dv_records.specs.States.{ascends, is_window, last_sealed}

-- ---- sealed windows

-- a load date is later than that of the last sealed window, if there is one
abbrev pub is_later : List WindowHead → ℕ → Bool
is_later heads load = option_map_or (λ last. nat_lt last load) (last_sealed heads) true

-- the feeds of a window: at least one, ascending, each of them in the mapping
abbrev pub are_feeds : Mapping → List ℕ → Bool
are_feeds mapping feeds = nat_lt 0 (length feeds) && ascends feeds && list_all (λ feed. nat_lt feed (length mapping.feeds)) feeds

-- F2: a sealed window is later than the one before, has feeds of the mapping, and is one of as many as may be sealed
abbrev pub is_head : Mapping → List WindowHead → WindowHead → Bool
is_head mapping before head = is_later before head.load && are_feeds mapping head.feeds && nat_lt (length before) most_windows

-- the rule that the head of a sealed window breaks, behind those before it
abbrev pub head_rule : Mapping → List WindowHead → WindowHead → Option ℕ
head_rule mapping before head = if_broken 2 (is_head mapping before head)

-- the first sealed window whose head breaks it
abbrev pub head_flaw : Mapping → List WindowHead → Option Flaw
head_flaw mapping heads = first_flaw (head_rule mapping) heads

-- ---- the open window

-- F3: the open window is later than the last sealed one, and its extracts are such as reading them leaves: at least one,
-- their feeds ascending and in the mapping, the rows of each in order and in form, and no more than may be
abbrev pub is_stage : Mapping → List WindowHead → Window → Bool
is_stage mapping heads window = is_later heads window.load && is_window mapping window
