-- Why no snapshot is made at a date, told from the last sealed load date and the heads of the stored snapshots.
use Rattle.std.specs.List.{list_any}
use Rattle.std.specs.Prelude.{ℕ, ◌+◌, ◌==◌, List, [], ◌∷◌, Option, Some, None, length, if◌then◌else◌}
use Rattle.dv_catalog.specs.FirstOf.{first_of}
use Rattle.dv_store_rules.specs.SnapshotHeads.{heads_weight}
use Rattle.dv_records.specs.declared.answers.SnapAnswer.{SnapAnswer}
use Rattle.dv_records.specs.declared.answers.SnapAnswer.TheVariants.{Future, Repeated}
use Rattle.dv_records.specs.declared.snapshots.SnapHead.{SnapHead}
use Rattle.dv_records.specs.Steps.{full_with, later_than}

-- Q4: the date is later than the last sealed load date, or none is sealed
abbrev pub future_after : Option ℕ → ℕ → Option SnapAnswer
future_after last date = if later_than last date then Some (Future last) else None

-- a snapshot is stored at the date
abbrev pub taken_among : List SnapHead → ℕ → Option SnapAnswer
taken_among heads date = if list_any (λ head. head.date == date) heads then Some Repeated else None

-- the first refusal that is told before the tables are made
abbrev pub early_refusal : Option ℕ → List SnapHead → ℕ → Option SnapAnswer
early_refusal last heads date = first_of (future_after last date ∷ taken_among heads date ∷ [])

-- Q7: the stored snapshots and one with this head would weigh too much, or there are as many as there may be
abbrev pub late_refusal : List SnapHead → SnapHead → Option SnapAnswer
late_refusal heads head = full_with (length heads) (heads_weight heads + head.weight)
