-- What an extract adds to a raw table of its feed.
use Rattle.std.specs.Prelude.{ℕ, List, Option, None, Some}
use Rattle.dv_text.specs.declared.rows.NRow.{NRow}
use Rattle.dv_text.specs.declared.rows.Staged.{Staged}
use Rattle.dv_records.specs.declared.stores.Rows.{Rows}
use Rattle.dv_records.specs.History.{Extract}

-- what is staged of a feed, as an extract of a load date
abbrev pub extract_at : ℕ → Staged → Extract
extract_at load staged = record { load = load; rows = staged.rows }

-- what an extract adds, by its load date and its rows; nothing where there is none
abbrev pub extract_added : (ℕ → List NRow → Rows) → Rows → Option Extract → Rows
extract_added by none None = none
extract_added by none (Some extract) = by extract.load extract.rows
