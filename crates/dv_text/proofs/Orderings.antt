-- What two things' order is, alone and before another order.
use Rattle.dv_text.proofs.Vocabulary.{Equal, Greater, IsTotalOrder, Less, Ordering, ap, arith, is_lt, nat_cmp, nat_tests, ordering_reverse, ordering_then, rules, sym, tied_itself, true, ℕ, ◌<◌, ◌∙◌, ◌≡◌, ◌≤◌, ◌⊎◌}

pub is_less : (r : Ordering) → is_lt r ≡ true → r ≡ Less
is_less r h1 = search (rules)

pub less_equal : (r : Ordering) → r ≡ Less → r ≡ Equal → ⊥
less_equal r e f = let no : Less ≡ Equal = sym e ∙ f in cc

pub less_greater : (r : Ordering) → r ≡ Less → r ≡ Greater → ⊥
less_greater r e f = let no : Less ≡ Greater = sym e ∙ f in cc

pub greater_equal : (r : Ordering) → r ≡ Greater → r ≡ Equal → ⊥
greater_equal r e f = let no : Greater ≡ Equal = sym e ∙ f in cc

-- ---- one order, then another

pub then_less : (r s : Ordering) → ordering_then r s ≡ Less → (r ≡ Less) ⊎ ((r ≡ Equal) × (s ≡ Less))
then_less r s h1 = search (rules)

-- by a number first
pub equal_first : (a b : ℕ) (r : Ordering) → a ≡ b → ordering_then (nat_cmp a b) r ≡ r
equal_first a b r e = grind (arith, nat_tests)

pub less_first : (a b : ℕ) (r : Ordering) → a < b → ordering_then (nat_cmp a b) r ≡ Less
less_first a b r e = grind (arith, nat_tests)

pub le_from_cmp : (a b : ℕ) (r : Ordering) → ordering_then (nat_cmp a b) r ≡ Less → a ≤ b
le_from_cmp a b r e = grind (arith, nat_tests)

-- ---- total orders

module _ {X : Type 0} {R : X → X → Ordering} (o : IsTotalOrder R) where
  pub turned : (x y : X) → R x y ≡ Greater → R y x ≡ Less
  turned x y e = o.antisymm y x ∙ ap ordering_reverse e

  pub irreflexive : (x : X) → R x x ≡ Less → ⊥
  irreflexive x e = less_equal (R x x) e (tied_itself o x)

  pub asymmetric : (x y : X) → R x y ≡ Less → R y x ≡ Less → ⊥
  asymmetric x y e f = irreflexive x (o.trans x y x e f)
