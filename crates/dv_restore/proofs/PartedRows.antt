-- Rows whose load dates do not fall are those that are earlier than the last date, and behind them those of it.
use Rattle.dv_restore.proofs.Vocabulary.{AllByRecursion, ArePartedRows, Bool, Contains, Contains-cons_here, Contains-cons_there, IsStrictlySortedBy, List, None, Ordering, Place, Some, [], and_from, and_parts, ap, append-nil, are_in_load_order, are_parents_apart, are_placed_rows, arith, bytes_eq}
use Rattle.dv_restore.proofs.Vocabulary.{drop, eq-eqb, eqb-true, false, false≢true, filter, get_or, got_member, has_row_under, is_of_load, is_of_other, leb-true, length, length-append, list_all, list_all-map, list_any-append, map, nat_le, not, passes_at, refl, slice_get, slice_get-get_or, subst}
use Rattle.dv_restore.proofs.Vocabulary.{sym, take, true, up_to_last, ℕ, ◌++◌, ◌-◌, ◌==◌, ◌||◌, ◌∙◌, ◌∷◌, ◌≡◌, ◌≤◌}

take_exactly : {X : Type 0} (xs ys : List X) → take (length xs) (xs ++ ys) ≡ xs
take_exactly [] ys = refl
take_exactly (x ∷ xs) ys = ap (λ l. x ∷ l) (take_exactly xs ys)

pub drop_exactly : {X : Type 0} (xs ys : List X) → drop (length xs) (xs ++ ys) ≡ ys
drop_exactly [] ys = refl
drop_exactly (x ∷ xs) ys = drop_exactly xs ys

module _ {R : Type 0} (place : R → Place) (load : ℕ) where
  abbrev AreUpTo : List R → Type 0
  AreUpTo rows = list_all (λ row. nat_le (place row).load load) rows ≡ true

  -- rows from one of the last date on are all of it
  rest_of_load : (first : R) (rows : List R) → (place first).load ≡ load → list_all (λ other. nat_le (place first).load (place other).load) rows ≡ true → AreUpTo rows
      → (filter (is_of_other place load) rows ≡ []) × (filter (is_of_load place load) rows ≡ rows)
  rest_of_load first [] same later up = (refl, refl)
  rest_of_load first (row ∷ rows) same later up =
      let (here_later, rest_later) = and_parts (nat_le (place first).load (place row).load) (list_all (λ other. nat_le (place first).load (place other).load) rows) later in
      let (here_up, rest_up) = and_parts (nat_le (place row).load load) (list_all (λ row. nat_le (place row).load load) rows) up in
      let low = leb-true (place first).load (place row).load here_later in
      let high = leb-true (place row).load load here_up in
      let is : ((place row).load == load) ≡ true = eq-eqb (place row).load load (omega (arith, same, low, high)) in
      let (none, all) = rest_of_load first rows same rest_later rest_up in
      (rw is none, rw is (ap (λ l. row ∷ l) all))

  pub whole : (rows : List R) → are_in_load_order place rows ≡ true → AreUpTo rows → rows ≡ filter (is_of_other place load) rows ++ filter (is_of_load place load) rows
  whole [] order up = refl
  whole (row ∷ rows) order up =
      let (later, rest_order) = and_parts (list_all (λ other. nat_le (place row).load (place other).load) rows) (are_in_load_order place rows) order in
      let (here_up, rest_up) = and_parts (nat_le (place row).load load) (list_all (λ row. nat_le (place row).load load) rows) up in
      by ((place row).load == load) refl later rest_up (whole rows rest_order rest_up)
    where
      by : (b : Bool) → ((place row).load == load) ≡ b → list_all (λ other. nat_le (place row).load (place other).load) rows ≡ true → AreUpTo rows
          → rows ≡ filter (is_of_other place load) rows ++ filter (is_of_load place load) rows
          → row ∷ rows ≡ filter (is_of_other place load) (row ∷ rows) ++ filter (is_of_load place load) (row ∷ rows)
      by true is later up rest =
          let (none, all) = rest_of_load row rows (eqb-true (place row).load load is) later up in
          rw is (sym (ap (λ l. l ++ row ∷ filter (is_of_load place load) rows) none ∙ ap (λ l. row ∷ l) all))
      by false is later up rest = rw is (ap (λ l. row ∷ l) rest)

  abbrev front : List R → List R
  front rows = filter (is_of_other place load) rows

  pub front_within : (rows : List R) → are_in_load_order place rows ≡ true → AreUpTo rows → length (front rows) ≤ length rows
  front_within rows order up = omega (arith, length-append (front rows) (filter (is_of_load place load) rows), ap length (whole rows order up))

  pub are_parted : (rows sealed opened : List R) → are_in_load_order place rows ≡ true → AreUpTo rows
      → sealed ≡ take (length (front rows)) rows → opened ≡ drop (length (front rows)) rows → ArePartedRows place load rows sealed opened
  are_parted rows sealed opened order up is_front is_back =
      let all = whole rows order up in
      let sealed_are = is_front ∙ ap (take (length (front rows))) all ∙ take_exactly (front rows) (filter (is_of_load place load) rows) in
      let opened_are = is_back ∙ ap (drop (length (front rows))) all ∙ drop_exactly (front rows) (filter (is_of_load place load) rows) in
      record { sealed_are = sealed_are; opened_are = opened_are; whole = all ∙ sym (λ i. sealed_are i ++ opened_are i) }

  -- rows of other dates
  pub none_opened : (rows : List R) → ((row : R) → Contains rows row → ((place row).load == load) ≡ false) → ArePartedRows place load rows rows []
  none_opened rows others = record { sealed_are = sym (both rows others).0; opened_are = sym (both rows others).1; whole = sym (append-nil rows) }
    where
      both : (rows : List R) → ((row : R) → Contains rows row → ((place row).load == load) ≡ false) → (filter (is_of_other place load) rows ≡ rows) × (filter (is_of_load place load) rows ≡ [])
      both [] others = (refl, refl)
      both (row ∷ rows) others =
          let here = others row (Contains-cons_here row rows) in
          let (all, none) = both rows (λ other has. others other (Contains-cons_there row rows other has)) in
          (rw here (ap (λ l. row ∷ l) all), rw here none)

  -- where the last row has another date, no row has it
  pub ends_before : (rows : List R) (last : R) → slice_get rows (length rows - 1) ≡ Some last → ((place last).load == load) ≡ false → are_in_load_order place rows ≡ true → AreUpTo rows → ArePartedRows place load rows rows []
  ends_before rows last at differs order up = none_opened rows (λ row has. by ((place row).load == load) refl (up_to_last place rows last order at row has))
    where
      late : (place last).load ≡ load → ⊥
      late same = false≢true (sym differs ∙ eq-eqb (place last).load load same)

      by : {row : R} (b : Bool) → ((place row).load == load) ≡ b → (place row).load ≤ (place last).load → ((place row).load == load) ≡ false
      by false e le = e
      by {row} true e le =
          let high = leb-true (place last).load load (passes_at (λ row. nat_le (place row).load load) rows last up (got_member rows (length rows - 1) last at)) in
          let same = eqb-true (place row).load load e in
          absurd (late (omega (arith, le, high, same)))

  -- where there is no last row there is none
  pub ends_nowhere : (rows : List R) → slice_get rows (length rows - 1) ≡ None → ArePartedRows place load rows rows []
  ends_nowhere [] at = record { sealed_are = refl; opened_are = refl; whole = refl }
  ends_nowhere (row ∷ rows) at =
      let there = slice_get-get_or (row ∷ rows) (length (row ∷ rows) - 1) row (omega arith) in
      let none : Some (get_or (row ∷ rows) (length (row ∷ rows) - 1) row) ≡ None = sym there ∙ at in
      cc

-- ---- what a front of rows keeps

module _ {X : Type 0} where
  front_all : (p : X → Bool) (xs ys : List X) → list_all p (xs ++ ys) ≡ true → list_all p xs ≡ true
  front_all p [] ys all = refl
  front_all p (x ∷ xs) ys all = let (here, rest) = and_parts (p x) (list_all p (xs ++ ys)) all in and_from _ _ here (front_all p xs ys rest)

  front_by : (P : X → Type 0) (xs ys : List X) → AllByRecursion P (xs ++ ys) → AllByRecursion P xs
  front_by P [] ys all = tt
  front_by P (x ∷ xs) ys all = (all.0, front_by P xs ys all.1)

  pub front_ascends : (cmp : X → X → Ordering) (xs ys : List X) → IsStrictlySortedBy cmp (xs ++ ys) → IsStrictlySortedBy cmp xs
  unfolding IsStrictlySortedBy
  front_ascends cmp [] ys up = tt
  front_ascends cmp (x ∷ xs) ys up = (front_by _ xs ys up.0, front_ascends cmp xs ys up.1)

  pub front_in_order : (place : X → Place) (xs ys : List X) → are_in_load_order place (xs ++ ys) ≡ true → are_in_load_order place xs ≡ true
  front_in_order place [] ys order = refl
  front_in_order place (x ∷ xs) ys order =
      let (here, rest) = and_parts (list_all (λ other. nat_le (place x).load (place other).load) (xs ++ ys)) (are_in_load_order place (xs ++ ys)) order in
      and_from _ _ (front_all _ xs ys here) (front_in_order place xs ys rest)

  front_apart : (place : X → Place) (xs ys : List X) → are_parents_apart place (xs ++ ys) ≡ true → are_parents_apart place xs ≡ true
  front_apart place [] ys apart = refl
  front_apart place (x ∷ xs) ys apart =
      let (here, rest) = and_parts (not (has_row_under place (place x).parent (xs ++ ys))) (are_parents_apart place (xs ++ ys)) apart in
      and_from _ _ (not_under (has_row_under place (place x).parent xs) (has_row_under place (place x).parent ys) (sym (ap not (list_any-append (λ row. bytes_eq (place row).parent (place x).parent) xs ys)) ∙ here)) (front_apart place xs ys rest)
    where
      not_under : (a b : Bool) → not (a || b) ≡ true → not a ≡ true
      not_under false b e = refl
      not_under true b e = e

  module _ (place : X → Place) (load : ℕ) (rows sealed opened : List X) (parted : ArePartedRows place load rows sealed opened) where
    pub front_placed : are_placed_rows place rows ≡ true → are_placed_rows place sealed ≡ true
    front_placed placed =
        let (apart, order) = and_parts (are_parents_apart place rows) (are_in_load_order place rows) placed in
        and_from _ _ (front_apart place sealed opened (subst (λ l. are_parents_apart place l ≡ true) parted.whole apart))
        (front_in_order place sealed opened (subst (λ l. are_in_load_order place l ≡ true) parted.whole order))

    pub front_sorted : (cmp : X → X → Ordering) → IsStrictlySortedBy cmp rows → IsStrictlySortedBy cmp sealed
    front_sorted cmp up = front_ascends cmp sealed opened (subst (IsStrictlySortedBy cmp) parted.whole up)

  -- rows up to a date, told by their load dates
  pub up_to_rows : (load_of : X → ℕ) (date : ℕ) (rows : List X) → list_all (λ load. nat_le load date) (map load_of rows) ≡ true → list_all (λ row. nat_le (load_of row) date) rows ≡ true
  up_to_rows load_of date rows up = sym (list_all-map (λ load. nat_le load date) load_of rows) ∙ up
