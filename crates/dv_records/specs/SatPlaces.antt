-- Where a row of a satellite stands in an index: by its parent and its load date.
use Rattle.dv_index.specs.Places.{Place}
use Rattle.dv_records.specs.declared.raw_rows.SatRow.{SatRow}

abbrev pub sat_place : SatRow → Place
sat_place row = record { parent = row.parent; load = row.load }
