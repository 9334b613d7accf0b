-- A sort leaves out none of the items, where no two of them tie.
use Rattle.dv_bridge.proofs.Vocabulary.{Contains, Contains-cons_here, Contains-cons_there, Equal, Greater, IsStrictlySortedBy, IsTotalOrder, Less, List, Ordering, [], ap, insert_by, irreflexive, length, map, map_member, member_before_sort, member_of_all, refl, sorted_by, suc, ◌∙◌, ◌∷◌, ◌≡◌}

module _ {Y : Type 0} (S : Y → Y → Ordering) where
  one_longer : (x : Y) (ys : List Y) → ((y : Y) → Contains ys y → S x y ≡ Equal → ⊥) → length (insert_by S x ys) ≡ suc (length ys)
  one_longer x [] apart = refl
  one_longer x (y ∷ ys) apart = by (S x y) refl (one_longer x ys (λ z has. apart z (Contains-cons_there y ys z has)))
    where
      by : (r : Ordering) → S x y ≡ r → length (insert_by S x ys) ≡ suc (length ys) → length (insert_by S x (y ∷ ys)) ≡ suc (length (y ∷ ys))
      by Less e rest = rw e refl
      by Equal e rest = absurd (apart y (Contains-cons_here y ys) e)
      by Greater e rest = rw e (ap suc rest)

  module _ {X : Type 0} {R : X → X → Ordering} (o : IsTotalOrder R) (f : X → Y) where
    -- what is made of items in order, of which no two make what ties
    pub as_long : (xs : List X) → IsStrictlySortedBy R xs → ((a b : X) → Contains xs a → Contains xs b → S (f a) (f b) ≡ Equal → a ≡ b) → length (sorted_by S (map f xs)) ≡ length xs
    unfolding IsStrictlySortedBy
    as_long [] up apart = refl
    as_long (x ∷ xs) up apart =
        one_longer (f x) (sorted_by S (map f xs)) (λ y has tie.
        let (z, z_in, is) = map_member f xs y (member_before_sort S (map f xs) y has) in
        let same : x ≡ z = apart x z (Contains-cons_here x xs) (Contains-cons_there x xs z z_in) (ap (S (f x)) is ∙ tie) in
        irreflexive o x (ap (R x) same ∙ member_of_all (λ w. R x w ≡ Less) xs z up.0 z_in))
        ∙ ap suc (as_long xs up.1 (λ a b a_in b_in. apart a b (Contains-cons_there x xs a a_in) (Contains-cons_there x xs b b_in)))
