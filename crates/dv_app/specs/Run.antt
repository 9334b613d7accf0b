-- What `run` says and does, by the words.
use Rattle.std.specs.Global.{Global}
use Rattle.std.specs.Prelude.{◌≡◌, ◌⊎◌, ◌≤◌, ℕ, List, String}
use Rattle.dv_text.specs.Causes.{Rose}
use Rattle.dv_text.specs.Keys.{DigestFunction, hashes_of}
use Rattle.dv_outside.specs.Bytes.{after}
use Rattle.dv_outside.specs.Seen.{NoFault}
use Rattle.dv_outside.specs.Worlds.{World}
use Rattle.dv_outside.specs.declared.statuses.Status.{Status}
use Rattle.dv_outside.specs.declared.statuses.Status.TheVariants as statuses
use Rattle.dv_records.specs.declared.answers.Damage.{Damage}
use Rattle.dv_records.specs.declared.stores.Store.{Store}
use Rattle.dv_given.specs.Causes.{HasLast, IsRefusedText, IsUnreadText, Wrote}
use Rattle.dv_given.specs.Lines.{damaged_line, keeper_line, memory_line, usage_line}
use Rattle.dv_given.specs.Says.{Gives}
use Rattle.dv_given.specs.Tried.{Tried, ended}
use Rattle.dv_given.specs.Worlds.{sight_of}
use Rattle.dv_app.specs.Says.{TryCompletes, TrySays}
use Rattle.dv_app.specs.Changes.{Leaves, LeavesStore}
use Rattle.dv_app.specs.Damaged.{Finds}
use Rattle.dv_app.specs.Kept.{IsStanding, memory_said}
use Rattle.dv_app.specs.Places.{places_of}
use Rattle.dv_app.specs.Replies.{EndsAs, IsDamagedText, IsMappingText}
use Rattle.dv_app.specs.Exercised.{ExerciseSays}
use Rattle.dv_app.specs.Words.{Command, Exercises, NoCommand, OnKeeper, Tries, asked_of}
use Rattle.dv_app.specs.Works.{Does}

-- ---- what is said and done

-- this is written, or a front of it
abbrev pub Ends : Tried → World Store → Status → Type 0
Ends said w result = EndsAs said w.out w.err result

-- the same, and standard output is left
abbrev pub EndsAside : Tried → World Store → Status → Type 0
EndsAside said w result = Ends said w result × (w.out.new ≡ w.out.old) × (w.out.now ≡ w.out.before)

-- the words are no command
abbrev pub usage_said : Tried
usage_said = ended statuses.Usage usage_line

abbrev pub CommandSays : Command → DigestFunction → World Store → Status → Type 0
CommandSays NoCommand function w result = EndsAside usage_said w result
CommandSays (Tries asked) function w result = TrySays function asked (sight_of w) result
CommandSays (Exercises count) function w result = ExerciseSays function count w.out w.err result
CommandSays (OnKeeper command) function w result = (said : Tried) × Ends said w result × Does command function (places_of w) said

-- what the words ask for; or memory ran out before it began
abbrev pub RunSays : List (String Global) → DigestFunction → World Store → Status → Type 0
RunSays words function w result =
    CommandSays (asked_of words) function w result ⊎ (EndsAside memory_said w result × (w.keeper.new ≡ w.keeper.old))

-- ---- what is left alone

-- a command that is no command on what is kept leaves the keeper
abbrev pub IsApart : Command → Type 0
IsApart (OnKeeper _) = ⊥
IsApart _ = Unit {0}

-- the keeper's store is changed only where the command says so
abbrev pub ChangesAsSaid : Command → World Store → Status → Type 0
ChangesAsSaid (OnKeeper command) w result = (said : Tried) × Ends said w result × Leaves command w.keeper said
ChangesAsSaid _ w result = w.keeper.new ≡ w.keeper.old

-- ---- damage

-- the last line names a damage that the store has, where it is told, and else one that it may have
abbrev pub DamageIsNamed : Command → DigestFunction → World Store → Type 0
DamageIsNamed (OnKeeper command) function w =
    (damage : Damage) × (w.err.new ≡ after w.err.old (damaged_line damage)) × Finds command function w.keeper.old damage
DamageIsNamed _ function w = ⊥

-- ---- causes

-- it is a command on what is kept
abbrev pub IsOnKeeper : Command → Type 0
IsOnKeeper (OnKeeper _) = Unit {0}
IsOnKeeper _ = ⊥

-- what was written to standard error
abbrev pub Says : World Store → (List ℕ → Type 0) → Type 0
Says w IsText = Wrote w.err.old w.err.new IsText

-- what a status tells, whatever the folder, the keeper and the sinks tell of their contents
abbrev pub IsCause : Command → World Store → Status → Type 0
IsCause asked w statuses.Done = Unit {0}
IsCause asked w statuses.Refused = Says w IsRefusedText
IsCause asked w statuses.Usage = asked ≡ NoCommand
IsCause asked w statuses.Mapping = Says w IsMappingText
IsCause asked w statuses.ReadFault = Says w (IsUnreadText (Rose w.folder.before w.folder.now))
IsCause asked w statuses.KeeperFault = IsOnKeeper asked × Says w (HasLast keeper_line) × Rose w.keeper.before w.keeper.now
IsCause asked w statuses.WriteFault = Rose w.out.before w.out.now ⊎ Rose w.err.before w.err.now
IsCause asked w statuses.Memory = Says w (HasLast memory_line)
IsCause asked w statuses.Damaged = IsOnKeeper asked × Says w IsDamagedText

abbrev pub IsRunCause : List (String Global) → World Store → Status → Type 0
IsRunCause words w result = IsCause (asked_of words) w result

-- ---- completeness

-- no object failed, and memory did not run out
pub record HadAll (w : World Store) (result : Status) : Type 0 where
  pub read : NoFault w.folder.before w.folder.now
  pub kept : NoFault w.keeper.before w.keeper.now
  pub text : NoFault w.out.before w.out.now
  pub lines : NoFault w.err.before w.err.now
  pub memory : result ≡ statuses.Memory → ⊥

-- all that is to be said is written. That a file could not be read, or that the keeper failed, is said only where a count rose
abbrev pub CommandCompletes : Command → DigestFunction → World Store → Status → Type 0
CommandCompletes NoCommand function w result = result ≡ statuses.Usage
CommandCompletes (Tries asked) function w result = TryCompletes function asked (sight_of w) result
CommandCompletes (Exercises count) function w result = (result ≡ statuses.Done) × ExerciseSays function count w.out w.err statuses.Done
CommandCompletes (OnKeeper command) function w result = (said : Tried) × Gives said w.out w.err result × Does command function (places_of w) said

-- with no fault and memory enough, a command does all that the definitions say
abbrev pub RunCompletes : List (String Global) → DigestFunction → World Store → Status → Type 0
RunCompletes words function w result = HadAll w result → CommandCompletes (asked_of words) function w result

-- ---- counts

-- no count of faults fell
pub record NoneFell (w : World Store) : Type 0 where
  pub folder : w.folder.before ≤ w.folder.now
  pub keeper : w.keeper.before ≤ w.keeper.now
  pub out : w.out.before ≤ w.out.now
  pub err : w.err.before ≤ w.err.now

-- ---- all of it

pub record Ran (words : List (String Global)) (function : DigestFunction) (w : World Store) (result : Status) : Type 0 where
  pub says : RunSays words function w result
  pub complete : RunCompletes words function w result
  pub causes : IsRunCause words w result
  pub leaves : LeavesStore (asked_of words) result → w.keeper.new ≡ w.keeper.old
  pub changes : ChangesAsSaid (asked_of words) w result
  pub damaged : result ≡ statuses.Damaged → DamageIsNamed (asked_of words) function w
  pub sound : result ≡ statuses.Damaged → IsStanding (hashes_of function) w.keeper.old → ⊥
  pub kept : w.folder.new ≡ w.folder.old
  pub later : NoneFell w
