-- Rows by the digest under which they are looked up and by their load date.
use Rattle.std.specs.Prelude.{ℕ, ◌==◌, nat_le, Bool, true, ◌&&◌, List, [], ◌∷◌, Option, find, map, reverse, slice_get, take}
use Rattle.std.specs.List.{filter_map, list_all, list_any}
use Rattle.std.specs.Option.{option_map_or}
use Rattle.std.specs.Str.{bytes_eq}
use Rattle.dv_text.specs.Orders.{text_cmp}
use Rattle.dv_text.specs.Sorting.{sorted_by}

-- where a row stands: the digest under which it is looked up, and its load date
pub record Place : Type 0 where
  pub parent : List ℕ
  pub load : ℕ

-- whether the load dates of rows, in their order, do not fall: no row is later than one behind it
abbrev pub are_in_load_order : {X : Type 0} → (X → Place) → List X → Bool
are_in_load_order place [] = true
are_in_load_order place (row ∷ rows) = list_all (λ other. nat_le (place row).load (place other).load) rows && are_in_load_order place rows

-- whether no row is later than a date
abbrev pub none_later : {X : Type 0} → (X → Place) → List X → ℕ → Bool
none_later place rows date = list_all (λ row. nat_le (place row).load date) rows

-- whether a row has a load date
abbrev pub has_load : {X : Type 0} → (X → Place) → List X → ℕ → Bool
has_load place rows load = list_any (λ row. (place row).load == load) rows

-- the last row of a parent that is not later than a date
abbrev pub latest_at : {X : Type 0} → (X → Place) → List X → List ℕ → ℕ → Option X
latest_at place rows parent date = find (λ row. bytes_eq (place row).parent parent && nat_le (place row).load date) (reverse rows)

-- the last row of each parent that is not later than a date, by parent
abbrev pub latest_of_each : {X : Type 0} → (X → Place) → List X → ℕ → List X
latest_of_each place rows date = filter_map (λ parent. latest_at place rows parent date) (sorted_by text_cmp (map (λ row. (place row).parent) rows))

-- the last row of a parent
abbrev pub last_of : {X : Type 0} → (X → Place) → List X → List ℕ → Option X
last_of place rows parent = find (λ row. bytes_eq (place row).parent parent) (reverse rows)

-- whether the row with a number fits the last row of its parent before it, if there is one
abbrev pub fits_at : {X : Type 0} → (X → Place) → (Option X → X → Bool) → List X → ℕ → Bool
fits_at place fits rows number = option_map_or (λ row. fits (last_of place (take number rows) (place row).parent) row) (slice_get rows number) true

-- rows as they were appended, and for how many more there is room
pub record Indexed (X : Type 0) : Type 0 where
  pub rows : List X
  pub spare : ℕ
