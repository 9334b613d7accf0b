-- Ranges of numbers.
use Rattle.dv_index.proofs.Vocabulary.{[], ap, arith, range_with_len, refl, suc, zero, ℕ, ◌++◌, ◌+◌, ◌∷◌, ◌≡◌}

-- a range in two parts
pub range_split : (a m n k b : ℕ) → k ≡ m + n → b ≡ a + m → range_with_len a k ≡ range_with_len a m ++ range_with_len b n
range_split a zero n k b e f = let same : k ≡ n = omega arith in let start : b ≡ a = omega arith in rw (same, start) refl
range_split a (suc m) n zero b e f = absurd (omega arith)
range_split a (suc m) n (suc k) b e f = ap (λ xs. a ∷ xs) (range_split (a + 1) m n k b (omega arith) (omega arith))

-- one number more
pub range_more : (a n k b : ℕ) → k ≡ n + 1 → b ≡ a + n → range_with_len a k ≡ range_with_len a n ++ b ∷ []
range_more a n k b e f = range_split a n 1 k b e f
