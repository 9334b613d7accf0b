-- A row is written alike whether or not the rows may have another number of fields.
use Rattle.dv_print.proofs.Vocabulary.{List, [], ap, default_writer, escaped, field_text, fields_text, if◌then◌else◌, is_blank, length, needs_quotes, refl, row_body, row_text, row_writer, ℕ, ◌++◌, ◌==◌, ◌∷◌, ◌≡◌}

escaped_alike : (field : List ℕ) → escaped row_writer field ≡ escaped default_writer field
unfolding escaped
escaped_alike [] = refl
escaped_alike (b ∷ rest) = ap (λ r. if b == 34 then 34 ∷ b ∷ r else b ∷ r) (escaped_alike rest)

field_alike : (field : List ℕ) → field_text row_writer field ≡ field_text default_writer field
field_alike field = ap (λ r. if needs_quotes default_writer field then 34 ∷ (r ++ (34 ∷ [])) else field) (escaped_alike field)

fields_alike : (fields : List (List ℕ)) → fields_text row_writer fields ≡ fields_text default_writer fields
unfolding fields_text
fields_alike [] = refl
fields_alike (field ∷ rest) = rw (field_alike field, fields_alike rest) refl

body_alike : (fields : List (List ℕ)) → row_body row_writer fields ≡ row_body default_writer fields
body_alike [] = refl
body_alike (field ∷ rest) = rw (field_alike field, fields_alike rest) refl

blank_alike : (fields : List (List ℕ)) → is_blank row_writer fields ≡ is_blank default_writer fields
unfolding is_blank
blank_alike [] = refl
blank_alike (field ∷ []) = ap (λ text. length text == 0) (field_alike field)
blank_alike (field ∷ next ∷ rest) = refl

pub row_alike : (fields : List (List ℕ)) → row_text row_writer fields ≡ row_text default_writer fields
row_alike fields = rw (body_alike fields, blank_alike fields) refl
