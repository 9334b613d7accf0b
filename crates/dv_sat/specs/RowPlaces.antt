-- Where rows of a multi-active satellite stand.
use Rattle.std.specs.Prelude.{ℕ, List}
use Rattle.std.specs.Ordering.{nat_cmp, ordering_then}
use Rattle.std.specs.declared.cmp.Ordering.{Ordering}
use Rattle.dv_records.specs.declared.raw_rows.MultiRow.{MultiRow}
use Rattle.dv_records.specs.Batches.{digest_cmp}

-- a row beside those of a load date and a parent
abbrev pub place_cmp : ℕ → List ℕ → MultiRow → Ordering
place_cmp load parent row = ordering_then (nat_cmp row.load load) (digest_cmp row.parent parent)
