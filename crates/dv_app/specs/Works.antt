-- What comes of the work of a command, before anything is written: a reply, or how it ends without one.
use Rattle.std.specs.Prelude.{◌≡◌, ◌⊎◌, ◌≤◌, ℕ, Option, Result, Ok, Err}
use Rattle.dv_text.specs.Keys.{DigestFunction}
use Rattle.dv_text.specs.Told.{Told}
use Rattle.dv_records.specs.declared.stores.Store.{Store}
use Rattle.dv_window.specs.Offices.{Held}
use Rattle.dv_given.specs.declared.endings.Ending.{Ending}
use Rattle.dv_given.specs.Endings.{line_of_ending, status_of}
use Rattle.dv_given.specs.Tried.{Tried, ended}
use Rattle.dv_app.specs.declared.replies.Reply.{Reply}
use Rattle.dv_app.specs.Changes.{Leaves}
use Rattle.dv_app.specs.Damaged.{NamesDamage}
use Rattle.dv_app.specs.Kept.{KeptSays, memory_said}
use Rattle.dv_app.specs.Openings.{Opening}
use Rattle.dv_app.specs.Places.{Places}
use Rattle.dv_app.specs.Replies.{IsSaidFor, said}
use Rattle.dv_app.specs.Words.{KeptCommand}

-- what a command says that ends so
abbrev pub said_of : Ending → Tried
said_of ending = ended (status_of ending) (line_of_ending ending)

-- what is said meets this; where the command ends without a reply it does so also where the last line could not be made
abbrev pub Comes : (Tried → Type 0) → Result Reply Ending → Type 0
Comes Says (Ok reply) = Says (said reply)
Comes Says (Err ending) = Says (said_of ending) × Says memory_said

-- this is said, or that memory ran out
abbrev pub Tells : Tried → Result Reply Ending → Type 0
Tells says result = Comes (λ said. (said ≡ says) ⊎ (said ≡ memory_said)) result

-- ---- a command, whatever its keeper's store is

-- what it says over a store that is told; why it says that; what it may have changed; and the damage that it names
pub record Does (command : KeptCommand) (function : DigestFunction) (at : Places) (said : Tried) : Type 0 where
  pub says : Told at.keeper.old (λ store. KeptSays at function command store said)
  pub cause : IsSaidFor at said
  pub leaves : Leaves command at.keeper said
  pub damage : NamesDamage command function at.keeper.old said

-- the folder's files are as they were, and no count fell
pub record IsLater (at : Places) : Type 0 where
  pub kept : at.folder.new ≡ at.folder.old
  pub folder : at.folder.before ≤ at.folder.now
  pub keeper : at.keeper.before ≤ at.keeper.now

-- all of this of what comes of a command
pub record Works (command : KeptCommand) (function : DigestFunction) (at : Places) (result : Result Reply Ending) : Type 0 where
  pub comes : Comes (Does command function at) result
  pub later : IsLater at

-- and of its reply
pub record Replied (command : KeptCommand) (function : DigestFunction) (at : Places) (reply : Reply) : Type 0 where
  pub does : Does command function at (said reply)
  pub later : IsLater at

-- the same places from before an opening of the keeper's store
abbrev pub opened_from : Option Store → ℕ → Places → Places
opened_from told before at = record { folder = at.folder; keeper = record { old = told; new = at.keeper.new; before = before; now = at.keeper.now } }

-- and of what comes of it behind the opening of its office
abbrev pub WorksBehind : KeptCommand → DigestFunction → Held → Places → Result Reply Ending → Type 0
WorksBehind command function office at result =
    (told : Option Store) (before : ℕ) → Opening function (record { old = told; new = at.keeper.old; before = before; now = at.keeper.before }) (Ok office)
    → Works command function (opened_from told before at) result
