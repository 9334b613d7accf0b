-- The fields of a head, and what they say of the body and of the connection (RFC 9110, sections 5 and 8.6;
-- RFC 9112, sections 6 and 9.3 and 9.6).
use Rattle.std.specs.Prelude.{ℕ, Bool, ◌&&◌, List, [], ◌∷◌, length, map, filter, if◌then◌else◌, nat_lt, nat_le, codes, bytes_eq, Result, Ok, Err}
use Rattle.std.specs.Char.{to_ascii_lowercase, is_ascii_digit}
use Rattle.std.specs.List.{list_all, list_any}
use Rattle.std.specs.Str.Parse.{digits_value}
use Rattle.dv_http.specs.declared.requests.WireError.{WireError}
use Rattle.dv_http.specs.declared.requests.WireError.TheVariants.{Head, NoLength, BodyTooLong}

-- equal without regard to ASCII case
abbrev pub same_word : List ℕ → List ℕ → Bool
same_word a b = bytes_eq (map to_ascii_lowercase a) (map to_ascii_lowercase b)

-- a field of a name; a field is its name, and its value without the blanks around it
abbrev pub is_named : List ℕ → List ℕ × List ℕ → Bool
is_named name field = same_word field.0 name

-- the values of the fields of a name, in their order
abbrev pub values_named : List ℕ → List (List ℕ × List ℕ) → List (List ℕ)
values_named name fields = map (λ field. field.1) (filter (is_named name) fields)

-- the body's longest length
abbrev pub body_most : ℕ
body_most = 68157440

-- 1 to 19 digits
abbrev pub is_length : List ℕ → Bool
is_length value = nat_lt 0 (length value) && nat_le (length value) 19 && list_all is_ascii_digit value

-- the body's length by the value of a field
abbrev pub length_told : List ℕ → Result ℕ WireError
length_told value =
    if is_length value then (if nat_lt body_most (digits_value 10 value) then Err BodyTooLong else Ok (digits_value 10 value))
    else Err Head

-- the body's length by the values of its fields: there is one, or none and no body unless there must be one
abbrev pub length_in : Bool → List (List ℕ) → Result ℕ WireError
length_in must [] = if must then Err NoLength else Ok 0
length_in must (value ∷ []) = length_told value
length_in must (value ∷ second ∷ values) = Err Head

-- the body's length, where no other coding tells its end
abbrev pub body_length : List ℕ → List (List ℕ × List ℕ) → Result ℕ WireError
body_length method fields =
    if list_any (is_named (codes "Transfer-Encoding")) fields then Err NoLength
    else length_in (bytes_eq method (codes "POST")) (values_named (codes "Content-Length") fields)

-- a field that ends the connection
abbrev pub is_close : List ℕ × List ℕ → Bool
is_close field = is_named (codes "Connection") field && same_word field.1 (codes "close")
