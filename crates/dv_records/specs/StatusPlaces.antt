-- Where a row of a status table stands in an index: by its parent and its load date.
use Rattle.dv_index.specs.Places.{Place}
use Rattle.dv_records.specs.declared.raw_rows.StatusRow.{StatusRow}

abbrev pub status_place : StatusRow → Place
status_place row = record { parent = row.parent; load = row.load }
