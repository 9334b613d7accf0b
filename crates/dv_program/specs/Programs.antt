-- What the program does, by its words: it serves where the first one is `serve`, and else runs a command.
use Rattle.std.specs.Global.{Global}
use Rattle.std.specs.Prelude.{◌≡◌, ◌≤◌, ℕ, List, [], ◌∷◌, Option, Some, None, String, codes, map, string_bytes, if◌then◌else◌}
use Rattle.std.specs.Str.{bytes_eq}
use Rattle.dv_text.specs.Keys.{DigestFunction}
use Rattle.dv_outside.specs.Ends.{Ends, EndsWith}
use Rattle.dv_outside.specs.Lines.{Lines}
use Rattle.dv_outside.specs.Seen.{NoFault}
use Rattle.dv_outside.specs.Worlds.{World}
use Rattle.dv_outside.specs.declared.doors.Doors.{Ghosts as OfDoors}
use Rattle.dv_outside.specs.declared.links.Link.{Ghosts as OfLink}
use Rattle.dv_outside.specs.declared.statuses.Status.{Status}
use Rattle.dv_outside.specs.declared.statuses.Status.TheVariants as statuses
use Rattle.dv_records.specs.declared.stores.Store.{Store}
use Rattle.dv_given.specs.Lines.{usage_line}
use Rattle.dv_app.specs.Run.{HadAll, IsApart, IsRunCause, RunCompletes, RunSays}
use Rattle.dv_app.specs.Words.{asked_of as command_of}
use Rattle.dv_desk.specs.Doors.{IsServeCause, ServeSays, ServedOut, Tells, tells}
use Rattle.dv_desk.specs.ServeWords.{serve_words}
use Rattle.dv_desk.specs.declared.words.ServeWords.{ServeWords}
use Rattle.dv_program.specs.declared.programs.Invocation.{Invocation as Given}
use Rattle.dv_program.specs.declared.programs.Invocation.TheVariants as given

-- ---- what the words ask for

pub data Invocation : Type 0 where
  -- a command
  Runs : Invocation
  -- connections are to be served, at a port
  Serves : (words : ServeWords) → Invocation
  -- the words behind `serve` are none of it
  Misused : Invocation

abbrev pub asked_by : Option ServeWords → Invocation
asked_by None = Misused
asked_by (Some words) = Serves words

abbrev pub asked : List (List ℕ) → Invocation
asked [] = Runs
asked (word ∷ words) = if bytes_eq word (codes "serve") then asked_by (serve_words words) else Runs

-- what words of the command line ask for
abbrev pub asked_of : List (String Global) → Invocation
asked_of words = asked (map string_bytes words)

-- the same, as the code has it
abbrev pub asked_as : Given → Invocation
asked_as given.Runs = Runs
asked_as (given.Serves words) = Serves words
asked_as given.Misused = Misused

-- where connections are to be served, a window is loaded by one worker at least, and by 64 at most
abbrev pub HasWorkers : Invocation → Type 0
HasWorkers (Serves words) = (1 ≤ words.workers) × (words.workers ≤ 64)
HasWorkers asked = Unit {0}

-- ---- what is said and done

-- the doors: what their connections tell, the connections before a call and after it, the port that was named last, and how
-- often they had failed
pub record Opened (L : Type 0) : Type 0 where
  pub tells : Tells L
  pub old : Option (Lines L)
  pub new : Option (Lines L)
  pub port : Option ℕ
  pub before : ℕ
  pub now : ℕ

abbrev pub told : {D L : Type 0} → OfDoors D L → OfLink L → D → D → Opened L
told d l old new = record { tells = tells l; old = d.lines old; new = d.lines new; port = d.named new; before = d.faults old; now = d.faults new }

-- a command is run, or the port is named and the connections that come are served
abbrev pub AskedSays : {L : Type 0} → List (String Global) → Invocation → DigestFunction → Opened L → World Store → Status → Type 0
AskedSays words Runs function doors w result = RunSays words function w result
AskedSays words (Serves given) function doors w result =
    (doors.port ≡ Some given.port) × ServeSays function doors.tells doors.old doors.new w.keeper w.err result
AskedSays words Misused function doors w result = Ends statuses.Usage usage_line w.err.old w.err.new w.err.before w.err.now result

abbrev pub Says : {L : Type 0} → List (String Global) → DigestFunction → Opened L → World Store → Status → Type 0
Says words function doors w result = AskedSays words (asked_of words) function doors w result

-- ---- causes

-- what a status tells, whatever the objects tell of their contents
abbrev pub IsCauseFor : {L : Type 0} → List (String Global) → Invocation → Opened L → World Store → Status → Type 0
IsCauseFor words Runs doors w result = IsRunCause words w result
IsCauseFor words (Serves given) doors w result = IsServeCause doors.before doors.now w.keeper w.err result
IsCauseFor words Misused doors w result = EndsWith statuses.Usage w.err.before w.err.now result

abbrev pub IsCause : {L : Type 0} → List (String Global) → Opened L → World Store → Status → Type 0
IsCause words doors w result = IsCauseFor words (asked_of words) doors w result

-- ---- completeness

-- with no fault and memory enough, a command does all that the definitions say, and serving ends where no connection is
-- left or could not begin by what is stored, which no store does that stands for a state
abbrev pub AskedCompletes : {L : Type 0} → List (String Global) → Invocation → DigestFunction → Opened L → World Store → Status → Type 0
AskedCompletes words Runs function doors w result = RunCompletes words function w result
AskedCompletes words (Serves given) function doors w result =
    NoFault doors.before doors.now → HadAll w result → ServedOut function doors.tells doors.old doors.new w.keeper.old result
AskedCompletes words Misused function doors w result = HadAll w result → result ≡ statuses.Usage

abbrev pub Completes : {L : Type 0} → List (String Global) → DigestFunction → Opened L → World Store → Status → Type 0
Completes words function doors w result = AskedCompletes words (asked_of words) function doors w result

-- ---- what is left alone

-- the keeper is not asked
abbrev pub IsAsideFor : List (String Global) → Invocation → Type 0
IsAsideFor words Runs = IsApart (command_of words)
IsAsideFor words (Serves given) = ⊥
IsAsideFor words Misused = Unit {0}

abbrev pub IsAside : List (String Global) → Type 0
IsAside words = IsAsideFor words (asked_of words)

-- nothing is served
abbrev pub OpensNothing : Invocation → Type 0
OpensNothing (Serves given) = ⊥
OpensNothing asked = Unit {0}

-- no command is run
abbrev pub ReadsNothing : Invocation → Type 0
ReadsNothing Runs = ⊥
ReadsNothing asked = Unit {0}
