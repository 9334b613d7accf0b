-- What is told apart by its number: keys, and lists of them.
use Rattle.dv_mart.proofs.Vocabulary.{Agrees, Greater, IsTotalOrder, Less, Ordering, ap, arith, nat_cmp, nat_tests, ordering_reverse, ℕ, ◌<◌, ◌∙◌, ◌≡◌}

less_under : (m n : ℕ) → nat_cmp m n ≡ Less → m < n
less_under m n e = grind (arith, nat_tests)

greater_above : (m n : ℕ) → nat_cmp m n ≡ Greater → n < m
greater_above m n e = grind (arith, nat_tests)

module _ {X : Type 0} {prefix : X → ℕ} {cmp : X → X → Ordering} (total : IsTotalOrder cmp) (agrees : Agrees prefix cmp) (a b : X) (m n : ℕ) (m_is : m ≡ prefix a) (n_is : n ≡ prefix b) where
  pub first_less : nat_cmp m n ≡ Less → cmp a b ≡ Less
  first_less e = agrees a b (omega (arith, m_is, n_is, less_under m n e))

  pub first_greater : nat_cmp m n ≡ Greater → cmp a b ≡ Greater
  first_greater e = total.antisymm a b ∙ ap ordering_reverse (agrees b a (omega (arith, m_is, n_is, greater_above m n e)))
