-- What comes of a mapping's file that was read, where it is stored or compared with the stored one.
use Rattle.std.specs.Prelude.{◌≡◌, ◌≤◌, ℕ, List, Result, Ok, Err, Some}
use Rattle.dv_text.specs.Causes.{Rose}
use Rattle.dv_text.specs.Told.{Told}
use Rattle.dv_catalog.specs.Entries.{Mapping}
use Rattle.dv_outside.specs.Seen.{Seen}
use Rattle.dv_records.specs.declared.answers.InitAnswer.{InitAnswer}
use Rattle.dv_records.specs.declared.answers.InitAnswer.TheVariants as init
use Rattle.dv_records.specs.declared.stores.Store.{Store}
use Rattle.dv_records.specs.Steps.{InitStep}
use Rattle.dv_restore.specs.Damages.{IsNotRead, mapping_damage}
use Rattle.dv_restore.specs.declared.faults.StoreFault.{StoreFault}
use Rattle.dv_restore.specs.declared.faults.StoreFault.TheVariants as faults

-- the file is as the stored mapping is, or another one
abbrev pub Compares : Mapping → Mapping → InitAnswer → Type 0
Compares stored new init.Kept = stored ≡ new
Compares stored new init.Differs = stored ≡ new → ⊥
Compares stored new answer = ⊥

-- the answer is a step of the machine, of a store that is told
abbrev pub IsInitStep : List ℕ → Seen Store → InitAnswer → Type 0
IsInitStep file keeper answer = Told keeper.old (λ store. (store' : Store) × InitStep file store answer store' × (keeper.new ≡ Some store'))

-- a file that is compared leaves the store
abbrev pub InitLeaves : Seen Store → InitAnswer → Type 0
InitLeaves keeper init.Kept = keeper.new ≡ keeper.old
InitLeaves keeper init.Differs = keeper.new ≡ keeper.old
InitLeaves keeper answer = Unit {0}

-- the file was stored or compared
pub record Settled (file : List ℕ) (keeper : Seen Store) (answer : InitAnswer) : Type 0 where
  pub step : IsInitStep file keeper answer
  pub leaves : InitLeaves keeper answer
  pub cause : answer ≡ init.KeeperFault → Rose keeper.before keeper.now
  pub later : keeper.before ≤ keeper.now

-- what is stored could not be read: it is damaged, the keeper failed, or memory ran out
abbrev pub IsFaultOf : Seen Store → StoreFault → Type 0
IsFaultOf keeper (faults.Damaged damage) = Told keeper.old (λ s. IsNotRead s damage) × (damage ≡ mapping_damage)
IsFaultOf keeper faults.KeeperFault = Rose keeper.before keeper.now
IsFaultOf keeper faults.Memory = Unit {0}

-- and the store is left
pub record Unsettled (keeper : Seen Store) (fault : StoreFault) : Type 0 where
  pub is_fault : IsFaultOf keeper fault
  pub left : keeper.new ≡ keeper.old
  pub later : keeper.before ≤ keeper.now

abbrev pub Settles : List ℕ → Seen Store → Result InitAnswer StoreFault → Type 0
Settles file keeper (Ok answer) = Settled file keeper answer
Settles file keeper (Err fault) = Unsettled keeper fault
