-- Where a row of a link stands in an index: by its hash key and its load date.
use Rattle.dv_index.specs.Places.{Place}
use Rattle.dv_records.specs.declared.raw_rows.LinkRow.{LinkRow}

abbrev pub link_place : LinkRow → Place
link_place row = record { parent = row.digest; load = row.load }
