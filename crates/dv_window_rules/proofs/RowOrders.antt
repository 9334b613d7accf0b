-- Items of which each is before the next, and rows in order that have each references and sub once.
use Rattle.dv_window_rules.proofs.Vocabulary.{Bool, Contains, Contains-cons_here, Contains-cons_there, Equal, IsAllAdjacentAnswer, IsStrictlySortedBy, IsTotalOrder, Less, Less-from_sorted, List, NRow, Ordering, [], all_members, all_more, and_from, and_parts, ap, are_rivals, arith}
use Rattle.dv_window_rules.proofs.Vocabulary.{ascending-sorted_by, false, false_from_ne_true, false≢true, holds_of_each_two, inl, inr, is_less, is_lt, is_one_row, list_all, member_of_all, no_rival_of_itself, not, not-true, of_each_two, on_total, one_of_ties, ordering_then, passes_at, pointwise}
use Rattle.dv_window_rules.proofs.Vocabulary.{refl, refs_cmp, refs_exact, refs_total, rival_from, rival_parts, row_cmp, row_eq, row_eq-Decides, row_name_cmp, row_total, same_answer, slice_cmp, slice_eq-Decides, sorted_by, sorted_by-sorted, sorted_from_all_adjacent, subst, sym, text_cmp, texts_eq}
use Rattle.dv_window_rules.proofs.Vocabulary.{texts_eq-Decides, texts_exact, texts_total, then_less, then_total, tied_itself, true, ◌&&◌, ◌+◌, ◌↔◌, ◌∙◌, ◌∷◌, ◌≡◌, ◌⊎◌}

-- ---- from neighbours to all

-- the answer of a walk over neighbours
pub up_answer : {X : Type 0} {R : X → X → Ordering} → IsTotalOrder R → (xs : List X) (r : Bool) → IsAllAdjacentAnswer (λ x y b. b ≡ is_lt (R x y)) xs r → (r ≡ true) ↔ IsStrictlySortedBy R xs
unfolding IsStrictlySortedBy
up_answer o [] true all = (λ e. tt, λ up. refl)
up_answer o (x ∷ xs) true all = (λ e. sorted_from_all_adjacent o (x ∷ xs) x (λ k under. is_less _ (sym (all k x under))), λ up. refl)
up_answer o [] false (k, inside, fails) = absurd (omega (arith, inside))
up_answer {R = R} o (x ∷ xs) false (k, inside, fails) = (
  λ e. absurd (false≢true e),
  λ up. fails x ∙ ap is_lt (Less-from_sorted R (x ∷ xs) k (k + 1) x up (omega arith) inside),
)

-- an order that tells more
up_weaker : {X : Type 0} (R S : X → X → Ordering) → ((x y : X) → R x y ≡ Less → S x y ≡ Less) → (xs : List X) → IsStrictlySortedBy R xs → IsStrictlySortedBy S xs
unfolding IsStrictlySortedBy
up_weaker R S f [] up = tt
up_weaker R S f (x ∷ xs) up = (all_more (λ y. R x y ≡ Less) (λ y. S x y ≡ Less) (f x) xs up.0, up_weaker R S f xs up.1)

-- ---- rows

names_total : IsTotalOrder row_name_cmp
names_total = then_total (on_total (λ (row : NRow). row.refs) refs_total) (on_total (λ (row : NRow). row.sub) texts_total)

-- a row that is before another by references and sub is before it
name_first : (a b : NRow) → row_name_cmp a b ≡ Less → row_cmp a b ≡ Less
name_first a b less = by (then_less (refs_cmp a.refs b.refs) (slice_cmp text_cmp a.sub b.sub) less)
  where
    by : (refs_cmp a.refs b.refs ≡ Less) ⊎ ((refs_cmp a.refs b.refs ≡ Equal) × (slice_cmp text_cmp a.sub b.sub ≡ Less)) → row_cmp a b ≡ Less
    by (inl first) = rw first refl
    by (inr (tie, second)) = rw (tie, second) refl

-- and one that is before another of other references or sub is so by these
by_name : (a b : NRow) → row_cmp a b ≡ Less → are_rivals a b ≡ false → row_name_cmp a b ≡ Less
by_name a b less apart = by (then_less (refs_cmp a.refs b.refs) (ordering_then (slice_cmp text_cmp a.sub b.sub) (slice_cmp text_cmp a.attrs b.attrs)) less)
  where
    behind : refs_cmp a.refs b.refs ≡ Equal → (slice_cmp text_cmp a.sub b.sub ≡ Less) ⊎ ((slice_cmp text_cmp a.sub b.sub ≡ Equal) × (slice_cmp text_cmp a.attrs b.attrs ≡ Less)) → row_name_cmp a b ≡ Less
    behind tie (inl second) = rw (tie, second) refl
    behind tie (inr (second, third)) =
        let differ : texts_eq a.attrs b.attrs ≡ false = false_from_ne_true (texts_eq a.attrs b.attrs) (λ same.
        let equal : a.attrs ≡ b.attrs = (texts_eq-Decides a.attrs b.attrs).0 same in
        let no : Less ≡ Equal = sym third ∙ ap (slice_cmp text_cmp a.attrs) (sym equal) ∙ tied_itself texts_total a.attrs in
        cc) in
        absurd (false≢true (sym apart ∙ rival_from a b (refs_exact a.refs b.refs tie) (texts_exact a.sub b.sub second) differ))

    by : (refs_cmp a.refs b.refs ≡ Less) ⊎ ((refs_cmp a.refs b.refs ≡ Equal) × (ordering_then (slice_cmp text_cmp a.sub b.sub) (slice_cmp text_cmp a.attrs b.attrs) ≡ Less)) → row_name_cmp a b ≡ Less
    by (inl first) = rw first refl
    by (inr (tie, rest)) = behind tie (then_less (slice_cmp text_cmp a.sub b.sub) (slice_cmp text_cmp a.attrs b.attrs) rest)

-- rows in order by name have no rivals
names_apart : (rows : List NRow) → IsStrictlySortedBy row_name_cmp rows → (a b : NRow) → Contains rows a → Contains rows b → is_one_row a b ≡ true
names_apart rows up a b a_in b_in = ap not (false_from_ne_true (are_rivals a b) (λ rivals.
    let (refs, sub, differ) = rival_parts a b rivals in
    let tie : row_name_cmp a b ≡ Equal = rw (refs, sub, tied_itself refs_total b.refs) (tied_itself texts_total b.sub) in
    no_rival_of_itself a b (one_of_ties names_total rows up a b a_in b_in tie) rivals))

names_up : (rows : List NRow) → IsStrictlySortedBy row_cmp rows → ((a b : NRow) → Contains rows a → Contains rows b → are_rivals a b ≡ false) → IsStrictlySortedBy row_name_cmp rows
unfolding IsStrictlySortedBy
names_up [] up apart = tt
names_up (row ∷ rows) up apart = (
  all_members (λ other. row_name_cmp row other ≡ Less) rows (λ other has.
      by_name row other (member_of_all (λ other. row_cmp row other ≡ Less) rows other up.0 has) (apart row other (Contains-cons_here row rows) (Contains-cons_there row rows other has))),
  names_up rows up.1 (λ a b a_in b_in. apart a b (Contains-cons_there row rows a a_in) (Contains-cons_there row rows b b_in)),
)

in_order : (rows : List NRow) → IsStrictlySortedBy row_name_cmp rows → (pointwise row_eq (sorted_by row_cmp rows) rows && holds_of_each_two is_one_row rows) ≡ true
in_order rows up =
    let same : sorted_by row_cmp rows ≡ rows = sorted_by-sorted row_cmp rows (up_weaker row_name_cmp row_cmp name_first rows up) in
    and_from (pointwise row_eq (sorted_by row_cmp rows) rows) (holds_of_each_two is_one_row rows)
    ((slice_eq-Decides row_eq-Decides (sorted_by row_cmp rows) rows _ refl).1 same)
    (of_each_two is_one_row rows (names_apart rows up))

from_order : (rows : List NRow) → (pointwise row_eq (sorted_by row_cmp rows) rows && holds_of_each_two is_one_row rows) ≡ true → IsStrictlySortedBy row_name_cmp rows
from_order rows e =
    let (sorted, single) = and_parts (pointwise row_eq (sorted_by row_cmp rows) rows) (holds_of_each_two is_one_row rows) e in
    let same : sorted_by row_cmp rows ≡ rows = (slice_eq-Decides row_eq-Decides (sorted_by row_cmp rows) rows _ refl).0 sorted in
    names_up rows (subst (IsStrictlySortedBy row_cmp) same (ascending-sorted_by row_cmp row_total rows)) (λ a b a_in b_in.
    not-true (are_rivals a b) (passes_at (is_one_row a) rows b (passes_at (λ a. list_all (is_one_row a) rows) rows a single a_in) b_in))

pub order_told : (rows : List NRow) (r : Bool) → IsAllAdjacentAnswer (λ x y b. b ≡ is_lt (row_name_cmp x y)) rows r → r ≡ (pointwise row_eq (sorted_by row_cmp rows) rows && holds_of_each_two is_one_row rows)
order_told rows r all =
    let answer = up_answer names_total rows r all in
    same_answer r (pointwise row_eq (sorted_by row_cmp rows) rows && holds_of_each_two is_one_row rows) (λ e. in_order rows (answer.0 e)) (λ e. answer.1 (from_order rows e))
