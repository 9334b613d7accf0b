-- The forms that values of a mapping file have: texts, column names, part counts, and lists of them.
use Rattle.std.specs.Prelude.{ℕ, ℤ, pos, negsuc, List, [], ◌∷◌, Option, Some, None, option_map, option_and_then, ok_or, is_some, Result, Ok, if◌then◌else◌}
use Rattle.toml.specs.Data.{Data, Items, no_items, item, Members, as_array, as_integer, as_str, get_member}
use Rattle.dv_catalog.specs.Limits.{has_column_form, is_within, most_parts}

abbrev pub column_or_none : List ℕ → Option (List ℕ)
column_or_none name = if has_column_form name then Some name else None

-- a number of parts that a key may have
abbrev pub count_or_none : ℤ → Option ℕ
count_or_none (pos n) = if is_within 1 most_parts n then Some n else None
count_or_none (negsuc n) = None

-- what is made of each item, where something is made of all
abbrev pub each : {X : Type 0} → (Data → Option X) → Items → Option (List X)
each made_of no_items = Some []
each made_of (item value items) = option_and_then (λ x. option_map (λ xs. x ∷ xs) (each made_of items)) (made_of value)

-- a text
abbrev pub text : Data → Option (List ℕ)
text = as_str

-- a text that is a column name
abbrev pub column : Data → Option (List ℕ)
column value = option_and_then column_or_none (as_str value)

-- a whole number that may count the parts of a key
abbrev pub part_count : Data → Option ℕ
part_count value = option_and_then count_or_none (as_integer value)

-- a list of values of one form
abbrev pub list_of : {X : Type 0} → (Data → Option X) → Data → Option (List X)
list_of made_of value = option_and_then (each made_of) (as_array value)

-- what is made of the value at a key; the key is the fault where it is lacking, or its value has another form
abbrev pub required : {X : Type 0} → (Data → Option X) → List ℕ → Members → Result X (List ℕ)
required made_of key members = ok_or (option_and_then made_of (get_member key members)) key

-- the list at a key that may be absent, which then is empty
abbrev pub optional : {X : Type 0} → (Data → Option X) → List ℕ → Members → Result (List X) (List ℕ)
optional made_of key members = if is_some (get_member key members) then required (list_of made_of) key members else Ok []
