-- The parts of a window whose batches some first tables have: what tables have with them, and after more tables got theirs.
use Rattle.dv_vault.proofs.Vocabulary.{List, Part, Rows, TableRows, [], ap, arith, entries_with, length, map, none_like, opened_in, part_lacking, parts_at, refl, rest_in, rows_then, suc, sym, take, taken_first, whole_in, zero, ℕ, ◌∙◌, ◌∷◌, ◌≡◌, ◌≤◌}
use Rattle.dv_vault.proofs.{BatchSteps.no_more, Parts.none_like_none, Parts.none_taken, Parts.none_then, Parts.then_none}

-- parts are told by what is there and what is lacking
pub same_parts : (a b : List Part) → opened_in a ≡ opened_in b → rest_in a ≡ rest_in b → a ≡ b
same_parts [] [] e f = refl
same_parts [] (part ∷ parts) e f = cc
same_parts (part ∷ parts) [] e f = cc
same_parts (part ∷ parts) (other ∷ others) e f = λ i. record { opened = first e i; rest = first f i } ∷ same_parts parts others (behind e) (behind f) i
  where
    first : {x y : Rows} {xs ys : List Rows} → x ∷ xs ≡ y ∷ ys → x ≡ y
    first e = cc

    behind : {x y : Rows} {xs ys : List Rows} → x ∷ xs ≡ y ∷ ys → xs ≡ ys
    behind e = cc

-- where no table has its batch
pub all_lacking : (batches : List Rows) → parts_at 0 batches ≡ map part_lacking batches
all_lacking [] = refl
all_lacking (rows ∷ batches) = refl

pub lacking_opened : (batches : List Rows) → opened_in (parts_at 0 batches) ≡ map none_like batches
lacking_opened [] = refl
lacking_opened (rows ∷ batches) = ap (λ (rest : List Rows). none_like rows ∷ rest) (ap opened_in (sym (all_lacking batches)) ∙ lacking_opened batches)

pub lacking_rest : (batches : List Rows) → rest_in (parts_at 0 batches) ≡ batches
lacking_rest [] = refl
lacking_rest (rows ∷ batches) = ap (λ (rest : List Rows). rows ∷ rest) (ap rest_in (sym (all_lacking batches)) ∙ lacking_rest batches)

-- they have all rows of the batches
pub at_whole : (k : ℕ) (batches : List Rows) → whole_in (parts_at k batches) ≡ batches
at_whole zero [] = refl
at_whole zero (rows ∷ batches) = λ i. none_then rows i ∷ (ap whole_in (sym (all_lacking batches)) ∙ at_whole zero batches) i
at_whole (suc k) [] = refl
at_whole (suc k) (rows ∷ batches) = λ i. then_none rows rows i ∷ at_whole k batches i

pub at_long : (k : ℕ) (batches : List Rows) → length (parts_at k batches) ≡ length batches
at_long zero [] = refl
at_long zero (rows ∷ batches) = ap suc (ap length (sym (all_lacking batches)) ∙ at_long zero batches)
at_long (suc k) [] = refl
at_long (suc k) (rows ∷ batches) = ap suc (at_long k batches)

-- tables with no rows of any batch
none_there : (entries : List TableRows) (batches : List Rows) → entries_with entries (opened_in (parts_at 0 batches)) ≡ entries
none_there [] batches = refl
none_there (entry ∷ entries) [] = refl
none_there (entry ∷ entries) (rows ∷ batches) =
    λ i. record { table = entry.table; rows = then_none entry.rows rows i } ∷ (ap (λ parts. entries_with entries (opened_in parts)) (sym (all_lacking batches)) ∙ none_there entries batches) i

-- tables with the batches of the first ones
pub at_there : (k : ℕ) (entries : List TableRows) (batches : List Rows) → entries_with entries (opened_in (parts_at k batches)) ≡ entries_with entries (take k batches)
at_there zero entries [] = refl
at_there zero entries (rows ∷ batches) = none_there entries (rows ∷ batches) ∙ sym (no_more entries)
at_there (suc k) [] batches = refl
at_there (suc k) (entry ∷ entries) [] = refl
at_there (suc k) (entry ∷ entries) (rows ∷ batches) = ap (λ (rest : List TableRows). record { table = entry.table; rows = rows_then entry.rows rows } ∷ rest) (at_there k entries batches)

-- after more first tables got their batches
pub at_taken : (k there : ℕ) (batches : List Rows) → (far : ℕ) × ((most : ℕ) → there ≤ most → k ≤ most → far ≤ most) × (taken_first k (parts_at there batches) ≡ parts_at far batches)
at_taken zero there batches = (there, λ most le too. le, none_taken (parts_at there batches))
at_taken (suc k) zero [] = (0, λ most le too. le, refl)
at_taken (suc k) zero (rows ∷ batches) =
    let (far, within, is) = at_taken k zero batches in
    (suc far, λ most le too. more far most within too, λ i. record { opened = none_then rows i; rest = none_like rows } ∷ (ap (taken_first k) (sym (all_lacking batches)) ∙ is) i)
  where
    more : (far most : ℕ) → ((most : ℕ) → 0 ≤ most → k ≤ most → far ≤ most) → suc k ≤ most → suc far ≤ most
    more far zero within le = absurd (omega (arith, le))
    more far (suc most) within le = let is = within most (omega arith) (omega (arith, le)) in omega (arith, is)
at_taken (suc k) (suc there) [] = (0, λ most le too. omega arith, refl)
at_taken (suc k) (suc there) (rows ∷ batches) =
    let (far, within, is) = at_taken k there batches in
    (suc far, λ most le too. more far most within le too, λ i. record { opened = then_none rows rows i; rest = none_like_none rows i } ∷ is i)
  where
    more : (far most : ℕ) → ((most : ℕ) → there ≤ most → k ≤ most → far ≤ most) → suc there ≤ most → suc k ≤ most → suc far ≤ most
    more far zero within le too = absurd (omega (arith, le))
    more far (suc most) within le too = let is = within most (omega (arith, le)) (omega (arith, too)) in omega (arith, is)
