-- An index of the first rows and the numbers of the others are the numbers of all rows.
use Rattle.dv_index.proofs.Vocabulary.{IsIndex, IsPermutation, IsPermutation-append_left, IsPermutation-append_right, IsPermutation-trans, IsSorted, List, [], ap, arith, get_or, get_or-take, length, length-range_with_len, length-take-le, length_permutation, number_cmp, range_with_len, subst}
use Rattle.dv_index.proofs.Vocabulary.{take, ℕ, ◌++◌, ◌+◌, ◌-◌, ◌∙◌, ◌≡◌, ◌≤◌}
use Rattle.dv_index.proofs.{Order.within, Ranges.range_split}

pub all_numbers : (parents : List (List ℕ)) (index more sorted : List ℕ) → length index ≤ length parents → IsIndex (take (length index) parents) index
    → more ≡ index ++ range_with_len (length index) (length parents - length index) → IsPermutation more sorted → IsPermutation (range_with_len 0 (length parents)) sorted
all_numbers parents index more sorted fewer is e moved =
    let each : IsPermutation (range_with_len 0 (length index)) index = rw (length-take-le (length index) parents fewer) at is.each in
    let split = range_split 0 (length index) (length parents - length index) (length parents) (length index) (omega arith) (omega arith) in
    rw split
    (IsPermutation-trans _ _ _
    (IsPermutation-append_left (range_with_len (length index) (length parents - length index)) (range_with_len 0 (length index)) index each)
    (subst (λ xs. IsPermutation xs sorted) e moved))

-- an index has as many numbers as there are parents
pub index_length : (parents : List (List ℕ)) (index : List ℕ) → IsIndex parents index → length index ≡ length parents
index_length parents index is = length_permutation (range_with_len 0 (length parents)) index is.each ∙ length-range_with_len 0 (length parents)

-- the order of an index of the first rows is that of all rows
pub still_sorted : (parents : List (List ℕ)) (index : List ℕ) → length index ≤ length parents → IsIndex (take (length index) parents) index → IsSorted (number_cmp parents) index
still_sorted parents index fewer is k d low under =
    let short = length-take-le (length index) parents fewer in
    let first = get_or-take (length index) parents (get_or index k d) [] (let a = within (take (length index) parents) index is k d (omega arith) in omega arith) in
    let second = get_or-take (length index) parents (get_or index (k + 1) d) [] (let a = within (take (length index) parents) index is (k + 1) d under in omega arith) in
    rw (first, second) at (is.ordered k d low under)

-- an index and the sorted numbers of the others
pub grown_numbers : (parents : List (List ℕ)) (index range arrivals sorted : List ℕ) → length index ≤ length parents → IsIndex (take (length index) parents) index
    → range ≡ range_with_len (length index) (length parents - length index) → IsPermutation range arrivals → IsPermutation (index ++ arrivals) sorted → IsPermutation (range_with_len 0 (length parents)) sorted
grown_numbers parents index range arrivals sorted fewer is e moved merged =
    all_numbers parents index (index ++ range) sorted fewer is (ap (λ l. index ++ l) e)
    (IsPermutation-trans (index ++ range) (index ++ arrivals) sorted (IsPermutation-append_right index range arrivals moved) merged)
