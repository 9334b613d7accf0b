-- What the words of the command line ask for.
use Rattle.std.specs.Global.{Global}
use Rattle.std.specs.Prelude.{◌≡◌, ℕ, Bool, true, false, ◌&&◌, not, List, [], ◌∷◌, IfSome, Option, Some, None, String, codes, map, string_bytes, if◌then◌else◌}
use Rattle.std.specs.Str.{bytes_eq}
use Rattle.dv_crew.specs.declared.orders.Order.{Order}
use Rattle.dv_given.specs.Numbers.{number_in}
use Rattle.dv_app.specs.LoadOptions.{loads_by}
use Rattle.dv_app.specs.Options.{has_option, load_options, parted}
use Rattle.dv_app.specs.Says.{Wanted, wanted}
use Rattle.dv_app.specs.declared.options.Found.{Found}
use Rattle.dv_app.specs.declared.words.KeptCommand.{KeptCommand as Given}
use Rattle.dv_app.specs.declared.words.KeptCommand.TheVariants as given
use Rattle.dv_app.specs.declared.words.OfficeCommand.{OfficeCommand as GivenOffice}
use Rattle.dv_app.specs.declared.words.OfficeCommand.TheVariants as office
use Rattle.dv_app.specs.declared.words.StoredTable.{StoredTable as GivenTable}
use Rattle.dv_app.specs.declared.words.StoredTable.TheVariants as tables
use Rattle.dv_app.specs.declared.words.Parts.{Parts}
use Rattle.dv_app.specs.declared.words.Command.{Command as Parsed}
use Rattle.dv_app.specs.declared.words.Command.TheVariants as parsed

-- a table of a stored snapshot
pub data StoredTable : Type 0 where
  -- the point-in-time table of the hub with a name
  Pit : (hub : List ℕ) → StoredTable
  -- the bridge of the path with a name
  Bridge : (path : List ℕ) → StoredTable

-- a command on the vault that is kept
pub data KeptCommand : Type 0 where
  -- the mapping's file is stored
  Init : KeptCommand
  -- the window of a manifest is loaded
  Load : (manifest : List ℕ) → KeptCommand
  -- the open window is completed
  Resume : KeptCommand
  -- the mart of a word, at a date
  Mart : (what date : List ℕ) → KeptCommand
  -- the raw table of a name, with all its rows
  Table : (name : List ℕ) → KeptCommand
  -- the sealed windows and the open one
  Windows : KeptCommand
  -- a snapshot is stored, at a date
  Snapshot : (date : List ℕ) → KeptCommand
  -- a table of the snapshot that is stored at a date
  Stored : (table : StoredTable) (date : List ℕ) → KeptCommand

pub data Command : Type 0 where
  -- the mart of a word, at a date, over the windows of manifests alone
  Tries : (asked : Wanted) → Command
  -- windows of so many items are made and loaded
  Exercises : (count : ℕ) → Command
  OnKeeper : (command : KeptCommand) → Command
  NoCommand : Command

-- ---- the commands, by how many words they take

abbrev pub bare : List ℕ → Command
bare word =
    if bytes_eq word (codes "init") then OnKeeper Init
    else (if bytes_eq word (codes "resume") then OnKeeper Resume
    else (if bytes_eq word (codes "windows") then OnKeeper Windows else NoCommand))

abbrev pub exercise_of : Option ℕ → Command
exercise_of None = NoCommand
exercise_of (Some count) = Exercises count

-- a number of items for `exercise`
abbrev pub exercise : List ℕ → Command
exercise word = exercise_of (number_in 50000 word)

abbrev pub with_one : List ℕ → List ℕ → Command
with_one word name =
    if bytes_eq word (codes "load") then OnKeeper (Load name)
    else (if bytes_eq word (codes "exercise") then exercise name
    else (if bytes_eq word (codes "table") then OnKeeper (Table name)
    else (if bytes_eq word (codes "snapshot") then OnKeeper (Snapshot name) else NoCommand)))

abbrev pub with_two : List ℕ → List ℕ → List ℕ → Command
with_two word what date =
    if bytes_eq word (codes "mart") then OnKeeper (Mart what date)
    else (if bytes_eq word (codes "pit") then OnKeeper (Stored (Pit what) date)
    else (if bytes_eq word (codes "bridge") then OnKeeper (Stored (Bridge what) date) else NoCommand))

abbrev pub with_more : List ℕ → List ℕ → List ℕ → List (List ℕ) → Command
with_more word what date manifests = if bytes_eq word (codes "try") then Tries (record { what = what; date = date; names = manifests }) else NoCommand

-- what a first word and positionals ask for
abbrev pub command : List ℕ → List (List ℕ) → Command
command word [] = bare word
command word (name ∷ []) = with_one word name
command word (what ∷ date ∷ []) = with_two word what date
command word (what ∷ date ∷ manifest ∷ manifests) = with_more word what date (manifest ∷ manifests)

-- ---- the words

-- a command that has the options
abbrev pub has_options : Command → Bool
has_options NoCommand = false
has_options (Tries asked) = true
has_options (Exercises count) = true
has_options (OnKeeper (Load manifest)) = true
has_options (OnKeeper command) = false

-- a command, unless options stand that it has not
abbrev pub unless_options : Bool → Command → Command
unless_options stand command = if stand && not (has_options command) then NoCommand else command

abbrev pub command_if : Option (ℕ × Order) → List ℕ → Found → Command
command_if None word found = NoCommand
command_if (Some loads) word found = unless_options (has_option found) (command word found.positionals)

-- what a first word and what the words behind it say ask for: no command where the value of an option has not its form
abbrev pub command_behind : List ℕ → Found → Command
command_behind word found = command_if (load_options found) word found

abbrev pub command_by : List ℕ → Option Found → Command
command_by word None = NoCommand
command_by word (Some found) = command_behind word found

-- what the words ask for
abbrev pub asked : List (List ℕ) → Command
asked [] = NoCommand
asked (word ∷ words) = command_by word (parted words)

abbrev pub asked_of : List (String Global) → Command
asked_of words = asked (map string_bytes words)

-- the same of words that were parted
abbrev pub command_in : Option Parts → Command
command_in None = NoCommand
command_in (Some parts) = command_behind parts.first parts.behind

-- ---- the command, as the code has it

abbrev pub stored_of : GivenTable → StoredTable
stored_of (tables.Pit hub) = Pit hub.now
stored_of (tables.Bridge path) = Bridge path.now

abbrev pub office_command : GivenOffice → KeptCommand
office_command (office.Load manifest options) = Load manifest.now
office_command office.Resume = Resume
office_command (office.Mart what date) = Mart what.now date.now
office_command (office.Table name) = Table name.now
office_command office.Windows = Windows
office_command (office.Snapshot date) = Snapshot date.now
office_command (office.Stored table date) = Stored (stored_of table) date.now

abbrev pub kept_of : Given → KeptCommand
kept_of given.Init = Init
kept_of (given.OnOffice command) = office_command command

abbrev pub parsed_command : Parsed → Command
parsed_command (parsed.Try asked) = Tries (wanted asked)
parsed_command (parsed.Exercise count options) = Exercises count
parsed_command (parsed.OnKeeper kept) = OnKeeper (kept_of kept)

abbrev pub command_of : Option Parsed → Command
command_of None = NoCommand
command_of (Some command) = parsed_command command

-- ---- how it loads windows

-- a command that loads windows does it so
abbrev pub LoadsSo : ℕ × Order → Parsed → Type 0
LoadsSo by (parsed.Try asked) = loads_by asked.options ≡ by
LoadsSo by (parsed.Exercise count options) = loads_by options ≡ by
LoadsSo by (parsed.OnKeeper (given.OnOffice (office.Load manifest options))) = loads_by options ≡ by
LoadsSo by (parsed.OnKeeper kept) = Unit {0}

abbrev pub LoadsAs : ℕ × Order → Option Parsed → Type 0
LoadsAs by command = IfSome command (LoadsSo by)

-- by as many workers and in the order that the options say
abbrev pub IsLoadedBy : Found → Option Parsed → Type 0
IsLoadedBy found command = IfSome (load_options found) (λ by. LoadsAs by command)
