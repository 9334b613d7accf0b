-- Where a row of a multi-active satellite stands in an index: by its parent and its load date.
use Rattle.dv_index.specs.Places.{Place}
use Rattle.dv_records.specs.declared.raw_rows.MultiRow.{MultiRow}

abbrev pub multi_place : MultiRow → Place
multi_place row = record { parent = row.parent; load = row.load }
