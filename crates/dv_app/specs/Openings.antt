-- An office that is opened over what is kept, or why there is none.
use Rattle.std.specs.Prelude.{◌≡◌, ◌≤◌, false, None, Option, Result, Ok, Err}
use Rattle.dv_text.specs.Causes.{Rose}
use Rattle.dv_text.specs.Keys.{DigestFunction, hashes_of}
use Rattle.dv_text.specs.Told.{Told}
use Rattle.dv_outside.specs.Seen.{Seen}
use Rattle.dv_records.specs.declared.stores.Store.{Store}
use Rattle.dv_window.specs.Offices.{Agrees, Held, StandsFor}
use Rattle.dv_given.specs.declared.endings.Ending.{Ending}
use Rattle.dv_given.specs.declared.endings.Ending.TheVariants as endings
use Rattle.dv_app.specs.Damaged.{FindsFirst}
use Rattle.dv_app.specs.Kept.{InEach, IsOpenedBy}

-- the office is that of the store, where this is told, and of each state that it stands for, by hash keys of its width
pub record IsOpen (function : DigestFunction) (told : Option Store) (office : Held) : Type 0 where
  pub opened : Told told (λ s. IsOpenedBy function s office.vault.mapping)
  pub agrees : Told told (Agrees office)
  pub fresh : office.stale ≡ false
  pub width_is : office.width ≡ function.width
  pub stands : Told told (λ s. InEach office.vault.mapping (hashes_of function) s (λ state. StandsFor (hashes_of function) state office))

-- the store has no mapping, or is damaged; the keeper failed, or memory ran out
abbrev pub IsUnopened : DigestFunction → Seen Store → Ending → Type 0
IsUnopened function keeper endings.NoMapping = Told keeper.old (λ s. s.mapping ≡ None)
IsUnopened function keeper (endings.Damaged damage) = FindsFirst function keeper.old damage
IsUnopened function keeper endings.KeeperFault = Rose keeper.before keeper.now
IsUnopened function keeper endings.Memory = Unit {0}
IsUnopened function keeper ending = ⊥

abbrev pub OpensTo : DigestFunction → Seen Store → Result Held Ending → Type 0
OpensTo function keeper (Ok office) = IsOpen function keeper.old office
OpensTo function keeper (Err ending) = IsUnopened function keeper ending

-- an office was opened, or not, and the store is left
pub record Opening (function : DigestFunction) (keeper : Seen Store) (result : Result Held Ending) : Type 0 where
  pub opens : OpensTo function keeper result
  pub left : keeper.new ≡ keeper.old
  pub later : keeper.before ≤ keeper.now
