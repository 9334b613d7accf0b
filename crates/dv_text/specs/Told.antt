-- What an object of the outside tells of its contents: some tell it, as those in memory, and some don't.
use Rattle.std.specs.Prelude.{◌≡◌, Option, Some}

-- what holds of what is told, where it is told
abbrev pub Told : {A : Type 0} → Option A → (A → Type 0) → Type 0
Told {A} told P = (x : A) → told ≡ Some x → P x
