-- A multi-active satellite as a raw table of a feed.
use Rattle.std.specs.Prelude.{ℕ, List, [], ◌++◌}
use Rattle.std.specs.List.Sorted.{IsStrictlySortedBy}
use Rattle.dv_text.specs.declared.rows.NRow.{NRow}
use Rattle.dv_text.specs.Keys.{Hashes}
use Rattle.dv_records.specs.declared.stores.Rows.{Rows}
use Rattle.dv_records.specs.declared.stores.Rows.TheVariants.{Multis}
use Rattle.dv_sat.specs.MultiRows.{multi_delta, multi_order}

-- rows may stand behind those of a multi-active satellite
abbrev pub Follow : Rows → Rows → Type 0
Follow (Multis rows) (Multis more) = IsStrictlySortedBy multi_order (rows ++ more)
Follow rows more = ⊥

-- what an extract adds to the rows of a multi-active satellite
abbrev pub multis_added : Hashes → List ℕ → Rows → ℕ → List NRow → Rows
multis_added hashes source (Multis rows) load staged = Multis (multi_delta hashes source rows load staged)
multis_added hashes source rows load staged = Multis []
