-- Where a row of a hub stands in an index: by its hash key and its load date.
use Rattle.dv_index.specs.Places.{Place}
use Rattle.dv_records.specs.declared.raw_rows.HubRow.{HubRow}

abbrev pub hub_place : HubRow → Place
hub_place row = record { parent = row.digest; load = row.load }
