-- What the rows of an effectivity table tell at a date: from when to when a parent was in effect.
use Rattle.std.specs.Prelude.{ℕ, ◌==◌, nat_le, Bool, ◌&&◌, List, [], ◌∷◌, Option, Some, None, filter, find, map, option_and_then, reverse, if◌then◌else◌}
use Rattle.std.specs.List.{list_any}
use Rattle.std.specs.Ordering.{nat_cmp, ordering_then}
use Rattle.std.specs.Str.{bytes_eq}
use Rattle.std.specs.declared.cmp.Ordering.{Ordering}
use Rattle.dv_text.specs.Sorting.{sorted_by}
use Rattle.dv_records.specs.declared.mart_rows.Period.{Period}
use Rattle.dv_records.specs.declared.raw_rows.EffectRow.{EffectRow}
use Rattle.dv_records.specs.Batches.{digest_cmp}

-- whether two rows are of one run: they have one parent and one begin
abbrev pub is_of_one_run : EffectRow → EffectRow → Bool
is_of_one_run a b = bytes_eq a.parent b.parent && a.begin == b.begin

-- of each run the last row: the closing one where it is there, else the opening one; effectivity rows stand in the order
-- of their load dates
abbrev pub last_of_runs : List EffectRow → List EffectRow
last_of_runs [] = []
last_of_runs (row ∷ later) = if list_any (is_of_one_run row) later then last_of_runs later else row ∷ last_of_runs later

-- what a row tells
abbrev pub period_in : EffectRow → Period
period_in row = record { parent = row.parent; begin = row.begin; end = row.end }

-- by parent, then by begin
abbrev pub parent_period_cmp : Period → Period → Ordering
parent_period_cmp a b = ordering_then (digest_cmp a.parent b.parent) (nat_cmp a.begin b.begin)

-- the periods at a date: of the rows that are not later, the last one of each run; a run that ends later is open
abbrev pub effect_periods : List EffectRow → ℕ → List Period
effect_periods rows date = sorted_by parent_period_cmp (map period_in (last_of_runs (filter (λ row. nat_le row.load date) rows)))

-- ---- what is in effect

-- the begin of a run, where a row opens it: that row has its load date as the begin, and a row that closes a run is later
abbrev pub opened_by : EffectRow → Option ℕ
opened_by row = if row.begin == row.load then Some row.begin else None

-- since when a parent is in effect at a date: the begin of its last row that is not later, where that row opens a run
abbrev pub in_effect_since : List EffectRow → List ℕ → ℕ → Option ℕ
in_effect_since rows parent date = option_and_then opened_by (find (λ row. bytes_eq row.parent parent && nat_le row.load date) (reverse rows))
