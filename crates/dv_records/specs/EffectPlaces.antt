-- Where a row of an effectivity table stands in an index: by its parent and its load date.
use Rattle.dv_index.specs.Places.{Place}
use Rattle.dv_records.specs.declared.raw_rows.EffectRow.{EffectRow}

abbrev pub effect_place : EffectRow → Place
effect_place row = record { parent = row.parent; load = row.load }
