-- Rows that are told apart by the numbers of their first keys.
use Rattle.dv_contents.proofs.Vocabulary.{Greater, Less, NRow, ap, arith, nat_cmp, nat_tests, ordering_reverse, row_agrees, row_cmp, row_prefix, row_total, ℕ, ◌<◌, ◌∙◌, ◌≡◌}

less_under : (m n : ℕ) → nat_cmp m n ≡ Less → m < n
less_under m n e = grind (arith, nat_tests)

greater_above : (m n : ℕ) → nat_cmp m n ≡ Greater → n < m
greater_above m n e = grind (arith, nat_tests)

module _ (a b : NRow) (m n : ℕ) (m_is : m ≡ row_prefix a) (n_is : n ≡ row_prefix b) where
  pub first_less : nat_cmp m n ≡ Less → row_cmp a b ≡ Less
  first_less e = row_agrees a b (omega (arith, m_is, n_is, less_under m n e))

  pub first_greater : nat_cmp m n ≡ Greater → row_cmp a b ≡ Greater
  first_greater e = row_total.antisymm a b ∙ ap ordering_reverse (row_agrees b a (omega (arith, m_is, n_is, greater_above m n e)))
