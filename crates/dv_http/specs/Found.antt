-- How many fields of a name were found.
use Rattle.std.specs.Prelude.{◌≡◌, ℕ, List, [], ◌∷◌, length}
use Rattle.httparse.specs.Spans.{IsWithin, span_bytes}
use Rattle.dv_http.specs.declared.fields.Found.{Found}
use Rattle.dv_http.specs.declared.fields.Found.TheVariants.{Absent, Once, Often}

-- these are their values
abbrev pub IsFound : List ℕ → List (List ℕ) → Found → Type 0
IsFound bytes values Absent = values ≡ []
IsFound bytes values (Once span) = (values ≡ span_bytes bytes span ∷ []) × IsWithin (length bytes) span
IsFound bytes values Often = (first : List ℕ) × (second : List ℕ) × (others : List (List ℕ)) × (values ≡ first ∷ second ∷ others)
