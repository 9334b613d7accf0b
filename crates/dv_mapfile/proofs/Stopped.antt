-- A step that refuses, before the next one.
use Rattle.dv_mapfile.proofs.Vocabulary.{At, Err, List, Meets, Memory, Result, ShapeFault, refl, ℕ, ◌>>=◌}

-- the fault of the first step is the fault of both
pub stopped : {A B : Type 0} (fault : ShapeFault) (first : Result A (List ℕ)) (next : A → Result B (List ℕ)) → Meets {X = A} (Err fault) first → Meets {X = B} (Err fault) (first >>= next)
stopped (At place) first next refused = rw refused refl
stopped Memory first next refused = tt
