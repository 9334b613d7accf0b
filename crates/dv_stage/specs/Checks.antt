-- The rules of a record that look at the record alone.
use Rattle.std.specs.Prelude.{ℕ, List, [], ◌∷◌, Option}
use Rattle.std.specs.Option.{option_or}
use Rattle.dv_catalog.specs.declared.entries.FeedDef.{FeedDef}
use Rattle.dv_catalog.specs.declared.rules.Rule.{Rule}
use Rattle.dv_catalog.specs.FirstOf.{first_of}
use Rattle.dv_catalog.specs.Records.{empty_key, field_long, not_utf8, ragged, row_of}

-- the first rule, W12 to W14, that a record breaks
abbrev pub fields_rule : FeedDef → List (List ℕ) → ℕ → List (List ℕ) → Option Rule
fields_rule feed names number fields = first_of (ragged feed names number fields ∷ not_utf8 feed number fields ∷ field_long feed number fields ∷ [])

-- the same to W15, with its row
abbrev pub own_rule : FeedDef → List (List ℕ) → ℕ → List (List ℕ) → Option Rule
own_rule feed names number fields = option_or (fields_rule feed names number fields) (empty_key feed number (row_of feed names fields))
