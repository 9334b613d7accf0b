-- The damage of an open window, told from an error.
use Rattle.dv_restore.proofs.Vocabulary.{Damage, Damaged, Err, IsErrAnd, IsErrOf, Result, StoreFault, ap, broken_window, subst, sym, ◌≡◌}

-- which damage an error tells of
pub told_damage : {T : Type 0} (fault : StoreFault) (damage : Damage) → fault ≡ Damaged broken_window → IsErrOf {T = T} (Err fault) (Damaged damage) → damage ≡ broken_window
told_damage {T} fault damage broken is = cc

-- an error that is passed on is that of the call
pub error_through : {T S : Type 0} (result : Result T StoreFault) (fault other : StoreFault) → IsErrAnd result (λ given. given ≡ fault) → IsErrOf result other → IsErrOf {T = S} (Err fault) other
error_through result fault other gives is = ap Err (sym (subst (λ r. IsErrAnd r (λ given. given ≡ fault)) is gives))
