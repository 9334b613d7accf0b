-- The keeper of a command whose windows nobody reads back.
use Rattle.std.specs.Prelude.{IfSome, IsTrue, None}
use Rattle.std.proofs.Common.{subst}
use Rattle.dv_text.specs.Told.{Told}
use Rattle.dv_records.specs.Stores.{is_well_formed}

-- a store that isn't told is well formed
pub untold_well_formed : Told None (λ s. IsTrue (is_well_formed s))
untold_well_formed s told = absurd (subst (λ o. IfSome o (λ store. ⊥)) told tt)
