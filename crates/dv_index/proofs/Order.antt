-- The order of an index, and what it says of load dates.
use Rattle.dv_index.proofs.Vocabulary.{All, All-from_get_or, All-get_or, All-permutation, Bool, Contains, Contains-get_or, Contains-permutation, Contains-range, Equal, Greater, IsIndex, IsPartitionedBy, IsStrictWeakOrder, IsTotalOrder, Less, List, Ordering, Place, [], and_parts}
use Rattle.dv_index.proofs.Vocabulary.{are_in_load_order, arith, false, false≢true, get_or, get_or-range_with_len, is_lt, is_reached, is_reached_by, le-leb, leb-true, length, length-map, length-range_with_len, list_all, list_all-map, load_at, loads_of, map, nat_cmp, nat_cmp_total, nat_le}
use Rattle.dv_index.proofs.Vocabulary.{nat_list_cmp_total, nat_tests, number_cmp, on_total, ordering_then, parent_at, parents_of, passes_at, range_with_len, ranks_by, refl, sorted_far, subst, suc, sym, text_cmp, text_cmp-IsAntisymmetric, then_total, true, turned, zero, ℕ, ◌<◌, ◌∙◌, ◌∷◌, ◌≡◌, ◌≤◌}

module _ (parents : List (List ℕ)) where
  pub number_total : IsTotalOrder (number_cmp parents)
  number_total = then_total (on_total (parent_at parents) nat_list_cmp_total) nat_cmp_total

  abbrev pub number_lt : ℕ → ℕ → Bool
  number_lt a b = is_lt (number_cmp parents a b)

  pub number_order : IsStrictWeakOrder number_lt
  number_order = ranks_by number_total (λ i. i)

-- ---- load dates

-- where no other row is earlier than a date
no_earlier : {X : Type 0} (load : X → ℕ) (date : ℕ) (rows : List X) (j : ℕ) → list_all (λ other. nat_le date (load other)) rows ≡ true → j < length rows → date ≤ get_or (map load rows) j 0
no_earlier load date rows j e under =
    let early : list_all (nat_le date) (map load rows) ≡ true = list_all-map (nat_le date) load rows ∙ e in
    leb-true date (get_or (map load rows) j 0) (passes_at (nat_le date) (map load rows) (get_or (map load rows) j 0) early (Contains-get_or (map load rows) j 0 (rw length-map under)))

-- rows in load order: a row is not earlier than one before it
pub loads_rise : {X : Type 0} (place : X → Place) (rows : List X) → are_in_load_order place rows ≡ true → (i j : ℕ) → i ≤ j → j < length rows → load_at (loads_of place rows) i ≤ load_at (loads_of place rows) j
loads_rise place [] e i j le under = absurd (omega arith)
loads_rise place (row ∷ rows) e zero zero le under = omega arith
loads_rise place (row ∷ rows) e zero (suc j) le under = no_earlier (λ other. (place other).load) (place row).load rows j (and_parts _ (are_in_load_order place rows) e).0 (omega arith)
loads_rise place (row ∷ rows) e (suc i) zero le under = absurd (omega arith)
loads_rise place (row ∷ rows) e (suc i) (suc j) le under = loads_rise place rows (and_parts _ (are_in_load_order place rows) e).1 i j (omega arith) (omega arith)

-- ---- the index

module _ (parents : List (List ℕ)) (index : List ℕ) (is : IsIndex parents index) where
  -- each number is that of a row
  pub within : (k d : ℕ) → k < length index → get_or index k d < length parents
  within k d under =
      let below : All (λ i. i < length parents) (range_with_len 0 (length parents)) =
      All-from_get_or (λ i. i < length parents) (range_with_len 0 (length parents)) 0 (λ i small. let long = length-range_with_len 0 (length parents) in rw (get_or-range_with_len 0 (length parents) i 0 (omega arith)) (omega arith)) in
      All-get_or (λ i. i < length parents) index k d under (All-permutation (λ i. i < length parents) (range_with_len 0 (length parents)) index is.each below)

  -- each row's number is there
  pub number_there : (i : ℕ) → i < length parents → Contains index i
  number_there i under = Contains-permutation (range_with_len 0 (length parents)) index i is.each (Contains-range (length parents) i under)

  -- no number stands behind one that comes after it
  pub in_order : (j k d : ℕ) → j ≤ k → k < length index → number_lt parents (get_or index k d) (get_or index j d) ≡ false
  in_order j k d le under = sorted_far (number_lt parents) (number_order parents) index is.ordered j k d le under

-- ---- what is reached

pub le_from_not_lt : (a b : ℕ) → is_lt (nat_cmp b a) ≡ false → a ≤ b
le_from_not_lt a b e = grind (arith, nat_tests)

-- what comes before a row that is reached is reached, too
pub reached_before : (pa pb parent : List ℕ) (a b la lb date : ℕ) → is_lt (ordering_then (text_cmp pb pa) (nat_cmp b a)) ≡ false → (a ≤ b → la ≤ lb)
    → is_reached_by (text_cmp pb parent) (nat_le lb date) ≡ true → is_reached_by (text_cmp pa parent) (nat_le la date) ≡ true
reached_before pa pb parent a b la lb date behind loads reached = by (text_cmp pb pa) refl (text_cmp pb parent) refl
  where
    by : (r : Ordering) → text_cmp pb pa ≡ r → (s : Ordering) → text_cmp pb parent ≡ s → is_reached_by (text_cmp pa parent) (nat_le la date) ≡ true
    by Less e s f = absurd (false≢true (sym (rw e at behind)))
    by Greater e Less f = rw (nat_list_cmp_total.trans pa pb parent (turned nat_list_cmp_total pb pa e) f) refl
    by Greater e Equal f = let same : pb ≡ parent = text_cmp-IsAntisymmetric pb parent f in rw (subst (λ p. text_cmp pa p ≡ Less) same (turned nat_list_cmp_total pb pa e)) refl
    by Greater e Greater f = absurd (false≢true (rw f at reached))
    by Equal e s f =
        let same : pb ≡ pa = text_cmp-IsAntisymmetric pb pa e in
        let numbers : a ≤ b = le_from_not_lt a b (rw e at behind) in
        rw (← same) (early s f (loads numbers))
      where
        early : (s : Ordering) → text_cmp pb parent ≡ s → la ≤ lb → is_reached_by (text_cmp pb parent) (nat_le la date) ≡ true
        early Less f le = rw f refl
        early Equal f le = rw f (le-leb la date (let there : nat_le lb date ≡ true = rw f at reached in let reach = leb-true lb date there in omega arith))
        early Greater f le = absurd (false≢true (rw f at reached))

module _ {X : Type 0} (place : X → Place) (rows : List X) (index : List ℕ) (is : IsIndex (parents_of place rows) index) (order : are_in_load_order place rows ≡ true) (parent : List ℕ) (date : ℕ) where
  -- no number that is reached comes after one that isn't
  pub reached_first : IsPartitionedBy (is_reached (parents_of place rows) (loads_of place rows) parent date) index
  reached_first i j d le under reached =
      reached_before (parent_at (parents_of place rows) (get_or index i d)) (parent_at (parents_of place rows) (get_or index j d)) parent (get_or index i d) (get_or index j d)
      (load_at (loads_of place rows) (get_or index i d)) (load_at (loads_of place rows) (get_or index j d)) date
      (in_order (parents_of place rows) index is i j d le under)
      (λ small. loads_rise place rows order (get_or index i d) (get_or index j d) small (let inside = within (parents_of place rows) index is j d under in omega (arith, length-map rows (λ row. (place row).parent))))
      reached
