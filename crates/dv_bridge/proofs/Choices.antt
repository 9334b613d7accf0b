-- The choices of one item from each list: their parts, their order, and choices that tell the same.
use Rattle.dv_bridge.proofs.Vocabulary.{Contains, Contains-cons_cases, Contains-cons_here, Contains-cons_there, Contains-flat_map, Contains-map, Contains-nil, IsStrictlySortedBy, IsTotalOrder, Less, List, Ordering, [], all_members, ap, arith, ascending-append, choices, few_ascend}
use Rattle.dv_bridge.proofs.Vocabulary.{flat_map_member, inl, inr, map, map_member, member_of_all, ordering_then, slice_cmp, subst, sym, tied_itself, ◌∙◌, ◌∷◌, ◌≡◌}

-- ---- the parts of a choice

-- an item of the first list, and a choice from the others
pub choice_parts : {X : Type 0} (xs : List X) (rest : List (List X)) (chosen : List X) → Contains (choices (xs ∷ rest)) chosen
    → (x : X) × (others : List X) × Contains xs x × Contains (choices rest) others × (x ∷ others ≡ chosen)
choice_parts xs rest chosen has =
    let (x, x_in, within) = flat_map_member (λ x. map (λ others. x ∷ others) (choices rest)) xs chosen has in
    let (others, others_in, is) = map_member (λ others. x ∷ others) (choices rest) chosen within in
    (x, others, x_in, others_in, is)

pub Contains-choices : {X : Type 0} (xs : List X) (rest : List (List X)) (x : X) (others : List X) → Contains xs x → Contains (choices rest) others → Contains (choices (xs ∷ rest)) (x ∷ others)
Contains-choices xs rest x others x_in others_in =
    Contains-flat_map (λ x. map (λ others. x ∷ others) (choices rest)) xs x (x ∷ others) x_in (Contains-map (λ others. x ∷ others) (choices rest) others others_in)

-- from no lists there is one choice
only_choice : {X : Type 0} (chosen : List X) → Contains (choices []) chosen → [] ≡ chosen
only_choice chosen has = elim (Contains-cons_cases [] [] chosen has) [ inl is ↦ is | inr rest ↦ Contains-nil chosen rest ]

-- ---- their order

-- what is made of items in order is in order, where it rises with them
pub ascending-map : {X Y : Type 0} (R : X → X → Ordering) (S : Y → Y → Ordering) (f : X → Y) → ((a b : X) → R a b ≡ Less → S (f a) (f b) ≡ Less) → (xs : List X) → IsStrictlySortedBy R xs → IsStrictlySortedBy S (map f xs)
unfolding IsStrictlySortedBy
ascending-map R S f rises [] up = tt
ascending-map R S f rises (x ∷ xs) up = (
  all_members (λ y. S (f x) y ≡ Less) (map f xs) (λ y has.
      let (z, z_in, is) = map_member f xs y has in
      subst (λ w. S (f x) w ≡ Less) is (rises x z (member_of_all (λ w. R x w ≡ Less) xs z up.0 z_in))),
  ascending-map R S f rises xs up.1,
)

module _ {X : Type 0} (R : X → X → Ordering) (o : IsTotalOrder R) where
  same_first : (x : X) (a b : List X) → slice_cmp R a b ≡ Less → slice_cmp R (x ∷ a) (x ∷ b) ≡ Less
  same_first x a b less = ap (λ r. ordering_then r (slice_cmp R a b)) (tied_itself o x) ∙ less

  -- those with an item of a list in order, before a choice from others
  ascending-before : (xs : List X) (rest : List (List X)) → IsStrictlySortedBy R xs → IsStrictlySortedBy (slice_cmp R) (choices rest) → IsStrictlySortedBy (slice_cmp R) (choices (xs ∷ rest))
  unfolding IsStrictlySortedBy
  ascending-before [] rest up later = tt
  ascending-before (x ∷ xs) rest up later =
      ascending-append (slice_cmp R) (map (λ others. x ∷ others) (choices rest)) (choices (xs ∷ rest))
      (ascending-map (slice_cmp R) (slice_cmp R) (λ others. x ∷ others) (same_first x) (choices rest) later)
      (ascending-before xs rest up.1 later)
      (λ a b a_in b_in.
      let (others, others_in, a_is) = map_member (λ others. x ∷ others) (choices rest) a a_in in
      let (y, more, y_in, more_in, b_is) = choice_parts xs rest b b_in in
      let less : R x y ≡ Less = member_of_all (λ w. R x w ≡ Less) xs y up.0 y_in in
      (λ i. slice_cmp R (sym a_is i) (sym b_is i)) ∙ ap (λ r. ordering_then r (slice_cmp R others more)) less)

  -- from lists in order, they stand in order
  pub ascending-choices : {F : Type 0} (items : F → List X) (feeds : List F) → ((f : F) → Contains feeds f → IsStrictlySortedBy R (items f)) → IsStrictlySortedBy (slice_cmp R) (choices (map items feeds))
  ascending-choices items [] up = few_ascend (slice_cmp R) ([] ∷ []) (omega arith)
  ascending-choices items (f ∷ feeds) up =
      ascending-before (items f) (map items feeds) (up f (Contains-cons_here f feeds)) (ascending-choices items feeds (λ g g_in. up g (Contains-cons_there f feeds g g_in)))

-- ---- choices that tell the same

-- each item of a choice tells the same as that of another one
pub data AreAlike {F X Y : Type 0} (T : F → X → Y → Type 0) : List F → List X → List Y → Type 0 where
  none : AreAlike T [] [] []
  more : {f : F} {x : X} {y : Y} {feeds : List F} {xs : List X} {ys : List Y} → T f x y → AreAlike T feeds xs ys → AreAlike T (f ∷ feeds) (x ∷ xs) (y ∷ ys)

pub alike_turned : {F X Y : Type 0} {T : F → X → Y → Type 0} {feeds : List F} {xs : List X} {ys : List Y} → AreAlike T feeds xs ys → AreAlike (λ f y x. T f x y) feeds ys xs
alike_turned none = none
alike_turned (more first rest) = more first (alike_turned rest)

-- where each item has one that tells the same, each choice has
pub alike_choice : {F X Y : Type 0} (T : F → X → Y → Type 0) (items : F → List X) (others : F → List Y) (feeds : List F)
    → ((f : F) → Contains feeds f → (x : X) → Contains (items f) x → (y : Y) × Contains (others f) y × T f x y) → (xs : List X) → Contains (choices (map items feeds)) xs
    → (ys : List Y) × Contains (choices (map others feeds)) ys × AreAlike T feeds xs ys
alike_choice T items others [] each xs has = ([], Contains-cons_here [] [], subst (λ xs. AreAlike T [] xs []) (only_choice xs has) none)
alike_choice T items others (f ∷ feeds) each xs has =
    let (x, rest, x_in, rest_in, is) = choice_parts (items f) (map items feeds) xs has in
    let (y, y_in, same) = each f (Contains-cons_here f feeds) x x_in in
    let (ys, ys_in, alike) = alike_choice T items others feeds (λ g g_in. each g (Contains-cons_there f feeds g g_in)) rest rest_in in
    (y ∷ ys, Contains-choices (others f) (map others feeds) y ys y_in ys_in, subst (λ xs. AreAlike T (f ∷ feeds) xs (y ∷ ys)) is (more same alike))

-- where no two items of a list give one thing, no two choices give the same things
pub choices_apart : {F X Y : Type 0} (items : F → List X) (h : X → Y) (feeds : List F)
    → ((f : F) → Contains feeds f → (a b : X) → Contains (items f) a → Contains (items f) b → h a ≡ h b → a ≡ b) → (a b : List X) → Contains (choices (map items feeds)) a → Contains (choices (map items feeds)) b
    → map h a ≡ map h b → a ≡ b
choices_apart items h [] apart a b a_in b_in e = sym (only_choice a a_in) ∙ only_choice b b_in
choices_apart items h (f ∷ feeds) apart a b a_in b_in e =
    let (x, xs, x_in, xs_in, a_is) = choice_parts (items f) (map items feeds) a a_in in
    let (y, ys, y_in, ys_in, b_is) = choice_parts (items f) (map items feeds) b b_in in
    let both : h x ∷ map h xs ≡ h y ∷ map h ys = ap (map h) a_is ∙ e ∙ ap (map h) (sym b_is) in
    let first : x ≡ y = apart f (Contains-cons_here f feeds) x y x_in y_in cc in
    let rest : xs ≡ ys = choices_apart items h feeds (λ g g_in. apart g (Contains-cons_there f feeds g g_in)) xs ys xs_in ys_in cc in
    sym a_is ∙ (λ i. first i ∷ rest i) ∙ b_is
