-- Numbers that are read byte by byte, and lists in order by numbers first.
use Rattle.dv_text.proofs.Vocabulary.{Agrees, Bool, DiffersFromLast, Fronted, Greater, IsAntisymmetric, IsFiltered, IsPermutation, IsSorted, IsStrictlySortedBy, IsTotalOrder, Less, List, Ordering, [], ap, arith, both_tied, cases_order, drop, eq_by_cmp, fronted, get_or, inl, inr, length, lt-ltb}
use Rattle.dv_text.proofs.Vocabulary.{map, min, nat_cmp, nat_cmp-IsAntisymmetric, nat_cmp_total, nat_eq, nat_tests, on_total, ordering_reverse, ordering_then, pow-le-pow_right, pow-suc, refl, sorted_by, sorted_from_all_adjacent, suc, sym, then_total, unsigned_tied, zero, ℕ, ◌&&◌, ◌*◌, ◌+◌, ◌<◌}
use Rattle.dv_text.proofs.Vocabulary.{◌^◌, ◌∙◌, ◌∷◌, ◌≡◌, ◌≤◌}
use Rattle.dv_text.proofs.{Distinct.ascending-sort_dedup, Distinct.members-sort_dedup, Orderings.equal_first, Orderings.less_first, SortedLists.sorted_by-members, StableSorts.sorted_by-map}
unfoldable use Rattle.dv_text.proofs.Vocabulary.{spelt}
use Rattle.dv_text.specs.Exact as equal

-- ---- the number of a text

spelt_next : (k n i b : ℕ) (text : List ℕ) → b ≡ get_or text i 0 → b < 256 → spelt (suc k) n (drop i text) ≡ spelt k (n * 256 + b) (drop (suc i) text)
unfolding spelt
spelt_next k n zero b [] is small = let same : n * 256 ≡ n * 256 + b = omega (arith, is) in ap (λ m. spelt k m []) same
spelt_next k n (suc i) b [] is small = let same : n * 256 ≡ n * 256 + b = omega (arith, is) in ap (λ m. spelt k m []) same
spelt_next k n zero b (x ∷ text) is small =
    let byte : x < 256 = omega (arith, is, small) in
    let same : n * 256 + min x 256 ≡ n * 256 + b = omega (arith, is, byte) in
    rw (lt-ltb x 256 byte) (ap (λ m. spelt k m text) same)
spelt_next k n (suc i) b (x ∷ text) is small = spelt_next k n i b text is small

-- a loop's step: the byte at a place goes behind the number
pub spelt_more : (k n i b : ℕ) (text : List ℕ) → b ≡ get_or text i 0 → b < 256 → spelt (suc k) n (drop i text) ≡ spelt k (n * 256 + b) (drop (i + 1) text)
spelt_more k n i b text is small =
    let next : suc i ≡ i + 1 = omega arith in
    spelt_next k n i b text is small ∙ ap (λ j. spelt k (n * 256 + b) (drop j text)) next

-- and there is room for it
pub byte_more : (i n b : ℕ) → i < 16 → n < 256 ^ i → b < 256 → (n * 256 + b < 256 ^ (i + 1)) × (n * 256 + b < 2 ^ 128)
byte_more i n b under within small =
    let next : i + 1 ≡ suc i = omega arith in
    let more : 256 ^ (i + 1) ≡ 256 ^ i * 256 = ap (λ j. 256 ^ j) next ∙ pow-suc 256 i in
    let most : 256 ^ (i + 1) ≤ 256 ^ 16 = pow-le-pow_right {n = 256} (omega arith) {i = i + 1} {j = 16} (omega arith) in
    (omega (arith, more, within, small), omega (arith, more, most, within, small))

-- ---- lists in order

greater_first : (a b : ℕ) (r : Ordering) → b < a → ordering_then (nat_cmp a b) r ≡ Greater
greater_first a b r e = grind (arith, nat_tests)

-- items each of which is less than the next are in order
pub ascending_neighbours : {X : Type 0} {R : X → X → Ordering} → IsTotalOrder R → (xs : List X) → ((k : ℕ) (d : X) → k + 1 < length xs → R (get_or xs k d) (get_or xs (k + 1) d) ≡ Less) → IsStrictlySortedBy R xs
unfolding IsStrictlySortedBy
ascending_neighbours o [] less = tt
ascending_neighbours o (x ∷ xs) less = sorted_from_all_adjacent o (x ∷ xs) x (λ k under. less k x under)

module _ {X : Type 0} {R : X → X → Ordering} (o : IsTotalOrder R) (exact : IsAntisymmetric R) {number : X → ℕ} (agrees : Agrees number R) where
  -- by the number, then by the item
  abbrev pub by_number : Fronted X → Fronted X → Ordering
  by_number a b = ordering_then (nat_cmp a.prefix b.prefix) (R a.item b.item)

  by_number_total : IsTotalOrder by_number
  by_number_total = then_total (on_total (λ f. f.prefix) nat_cmp_total) (on_total (λ f. f.item) o)

  by_number_exact : IsAntisymmetric by_number
  by_number_exact a b e =
      let both = equal.both_tied _ _ e in
      let prefix = nat_cmp-IsAntisymmetric a.prefix b.prefix both.0 in
      let item = exact a.item b.item both.1 in
      λ i. record { prefix = prefix i; item = item i }

  same_order : (a b : X) → by_number (fronted number a) (fronted number b) ≡ R a b
  same_order a b =
      elim (cases_order (number a) (number b)) [
        | inl same ↦ equal_first (number a) (number b) (R a b) same
        | inr (inl before) ↦ less_first (number a) (number b) (R a b) before ∙ sym (agrees a b before)
        | inr (inr behind) ↦ greater_first (number a) (number b) (R a b) behind ∙ sym (o.antisymm a b ∙ ap ordering_reverse (agrees b a behind))
      ]

  without_numbers : (xs : List X) → map (λ f. f.item) (map (fronted number) xs) ≡ xs
  without_numbers [] = refl
  without_numbers (x ∷ xs) = ap (λ ys. x ∷ ys) (without_numbers xs)

  -- pairs in order, each once, have the items in order, each once
  pub items-sort_dedup : {E : X → X → Bool} → ((x y : X) → E x y ≡ eq_by_cmp R x y) → (items : List X) (pairs sorted kept : List (Fronted X)) → pairs ≡ map (fronted number) items
      → IsPermutation pairs sorted → IsSorted by_number sorted → IsFiltered (DiffersFromLast (λ a b. nat_eq a.prefix b.prefix && E a.item b.item)) [] sorted kept
      → map (λ f. f.item) kept ≡ sorted_by R items
  items-sort_dedup {E} ties items pairs sorted kept made moved up once =
      ap (map (λ f. f.item)) (
      sorted_by-members by_number_total by_number_exact pairs kept
      (ascending-sort_dedup by_number_total tied sorted kept up once)
      (members-sort_dedup by_number_total tied by_number_exact pairs sorted kept moved once)
      ∙ ap (sorted_by by_number) made
      ∙ sorted_by-map by_number (fronted number) items
      ∙ ap (map (fronted number)) (λ i. sorted_by (λ a b. same_order a b i) items))
      ∙ without_numbers (sorted_by R items)
    where
      tied : (a b : Fronted X) → (nat_eq a.prefix b.prefix && E a.item b.item) ≡ eq_by_cmp by_number a b
      tied a b = both_tied _ _ _ _ (sym (unsigned_tied a.prefix b.prefix)) (ties a.item b.item)
