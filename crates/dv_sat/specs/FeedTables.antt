-- A satellite as a raw table of a feed.
use Rattle.std.specs.Prelude.{ℕ, List, [], ◌++◌}
use Rattle.std.specs.List.Sorted.{IsStrictlySortedBy}
use Rattle.dv_text.specs.declared.rows.NRow.{NRow}
use Rattle.dv_text.specs.Keys.{Hashes}
use Rattle.dv_records.specs.declared.stores.Rows.{Rows}
use Rattle.dv_records.specs.declared.stores.Rows.TheVariants.{Sats}
use Rattle.dv_sat.specs.SatRows.{sat_delta, sat_order}

-- rows may stand behind those of a satellite
abbrev pub Follow : Rows → Rows → Type 0
Follow (Sats rows) (Sats more) = IsStrictlySortedBy sat_order (rows ++ more)
Follow rows more = ⊥

-- what an extract adds to the rows of a satellite
abbrev pub sats_added : Hashes → List ℕ → Rows → ℕ → List NRow → Rows
sats_added hashes source (Sats rows) load staged = Sats (sat_delta hashes source rows load staged)
sats_added hashes source rows load staged = Sats []
