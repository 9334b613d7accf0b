-- The words behind a port.
use Rattle.dv_desk.proofs.Vocabulary.{Global, List, None, String, [], arith, length, map, refl, string_bytes, workers_said, ◌∷◌, ◌≡◌, ◌≤◌}

-- three say no number of workers
pub too_many : (words : List (String Global)) → 3 ≤ length words → None ≡ workers_said (map string_bytes words)
too_many [] long = absurd (omega (arith, long))
too_many (name ∷ []) long = absurd (omega (arith, long))
too_many (name ∷ word ∷ []) long = absurd (omega (arith, long))
too_many (name ∷ word ∷ more ∷ words) long = refl
