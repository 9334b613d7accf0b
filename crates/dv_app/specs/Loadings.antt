-- The parts of `try` between its mapping and its text: the taking of the manifests, one after another.
use Rattle.std.specs.Prelude.{◌≡◌, ◌≤◌, ◌⊎◌, ℕ, Bool, true, false, List, [], ◌++◌, Some, None, Result, Ok, Err, take}
use Rattle.dv_text.specs.Causes.{Rose}
use Rattle.dv_text.specs.Keys.{DigestFunction, Hashes}
use Rattle.dv_text.specs.Told.{Told}
use Rattle.dv_catalog.specs.Entries.{Mapping}
use Rattle.dv_catalog.specs.Windows.{window_of}
use Rattle.dv_catalog.specs.declared.windows.WindowIn.{WindowIn}
use Rattle.dv_mart.specs.OfferedMarts.{IsOffered}
use Rattle.dv_mart.specs.Whats.{what_of}
use Rattle.dv_print.specs.declared.query_rules.QueryRule.TheVariants.{UnknownMart}
use Rattle.dv_outside.specs.Bytes.{after, GotPrefix}
use Rattle.dv_outside.specs.Seen.{Seen}
use Rattle.dv_outside.specs.declared.folders.NamedFile.{NamedFile}
use Rattle.dv_records.specs.Loads.{loaded}
use Rattle.dv_records.specs.Outcomes.{outcome}
use Rattle.dv_records.specs.States.{State}
use Rattle.dv_window.specs.Offices.{Held, StandsFor}
use Rattle.dv_given.specs.Causes.{HasRefusal, Wrote}
use Rattle.dv_given.specs.Endings.{BringEnds, IsBringEnd, IsReadCause, QueryEnds, line_of_ending, status_of}
use Rattle.dv_given.specs.FolderReads.{Reads}
use Rattle.dv_given.specs.Given.{absent_line}
use Rattle.dv_given.specs.Lines.{memory_line}
use Rattle.dv_given.specs.Says.{Gives}
use Rattle.dv_given.specs.WindowOutcomes.{outcome_of}
use Rattle.dv_given.specs.Tried.{Absent, Arrival, Broken, Brought, status_for}
use Rattle.dv_given.specs.Worlds.{Sight}
use Rattle.dv_given.specs.declared.endings.Ending.{Ending}
use Rattle.dv_given.specs.declared.endings.Ending.TheVariants as endings
use Rattle.dv_given.specs.declared.windows.Taken.{Taken}
use Rattle.dv_given.specs.declared.windows.Taken.TheVariants as taken
use Rattle.dv_app.specs.declared.loadings.Loading.{Loading}
use Rattle.dv_app.specs.declared.tries.Readied.{Readied}
use Rattle.dv_app.specs.Says.{CutShort, IsCutLines, IsEnded, IsMemory, IsReadNext, Trial, Wanted, lines_before, lines_of, trial_of, tried_of}
use Rattle.dv_app.specs.Tried.{Progress, at_end, start, state_after, step, step_by, steps}

-- ---- a window

-- an office can take a window in a state: it stands for it, and isn't stale
pub record IsReady (hashes : Hashes) (state : State) (held : Held) : Type 0 where
  pub stands : StandsFor hashes state held
  pub fresh : held.stale ≡ false

-- an office can take a window in some state
abbrev pub CanTake : Hashes → Held → Type 0
CanTake hashes held = (state : State) × IsReady hashes state held

-- the number of rows that the code has of a window
abbrev pub HasRows : Mapping → Hashes → State → WindowIn → Taken → Type 0
HasRows mapping hashes state given (taken.Loaded rows) = rows ≡ loaded mapping hashes state.sealed (window_of mapping given)
HasRows mapping hashes state given taken.Repeated = Unit {0}
HasRows mapping hashes state given (taken.Refused rule) = Unit {0}

-- what came of a window, and what the office has behind it
pub record TakesWindow (hashes : Hashes) (given : WindowIn) (state : State) (held held' : Held) (came_of : Taken) : Type 0 where
  pub outcome_is : outcome held.vault.mapping hashes state given ≡ outcome_of came_of
  pub rows_are : HasRows held.vault.mapping hashes state given came_of
  pub mapping_is : held'.vault.mapping ≡ held.vault.mapping
  pub ready : IsReady hashes (state_after held.vault.mapping given (outcome_of came_of) state) held'

-- what came of what a manifest brought
abbrev pub TakesArrival : Hashes → Arrival → State → Held → Held → Taken → Type 0
TakesArrival hashes (Absent file) state held held' came_of = ⊥
TakesArrival hashes (Broken rule) state held held' came_of = (came_of ≡ taken.Refused rule) × (held' ≡ held)
TakesArrival hashes (Brought given) state held held' came_of = TakesWindow hashes given state held held' came_of

-- the same, in every state in which the office can take a window
abbrev pub TookWindow : Hashes → WindowIn → Held → Held → Taken → Type 0
TookWindow hashes given held held' came_of = (state : State) → IsReady hashes state held → TakesWindow hashes given state held held' came_of

abbrev pub TookArrival : Hashes → Arrival → Held → Held → Taken → Type 0
TookArrival hashes came held held' came_of = (state : State) → IsReady hashes state held → TakesArrival hashes came state held held' came_of

-- ---- a manifest

-- what the code has loaded is what the run has, whose lines tell it where a window was refused
pub record IsLoaded (mapping : Mapping) (hashes : Hashes) (loading : Loading) (p : Progress) : Type 0 where
  pub mapping_is : loading.office.vault.mapping ≡ mapping
  pub refused_is : loading.refused ≡ p.refused
  pub ready : IsReady hashes p.state loading.office
  pub refusal : p.refused ≡ true → HasRefusal p.lines

-- what a manifest brought was taken, and this is its line
pub record TakesLine (mapping : Mapping) (hashes : Hashes) (name : List ℕ) (came : Arrival) (p : Progress) (loading : Loading) (line : List ℕ) : Type 0 where
  pub next : Progress
  pub step_is : step_by mapping hashes name came p ≡ Ok next
  pub loaded_is : IsLoaded mapping hashes loading next
  pub lines_are : next.lines ≡ p.lines ++ line

-- the same, in every run that has what the code had loaded
abbrev pub TookLine : Hashes → List ℕ → Arrival → Loading → Loading → List ℕ → Type 0
TookLine hashes name came loading loading' line =
    (mapping : Mapping) (p : Progress) → IsLoaded mapping hashes loading p → TakesLine mapping hashes name came p loading' line

-- the manifest was taken, and its line written
pub record Went (mapping : Mapping) (hashes : Hashes) (name : List ℕ) (p : Progress) (loading : Loading) (folder : Seen (List NamedFile)) (err : Seen (List ℕ)) : Type 0 where
  pub next : Progress
  pub step_is : Told folder.old (λ files. step mapping hashes files name p ≡ Ok next)
  pub loaded_is : IsLoaded mapping hashes loading next
  pub line : List ℕ
  pub lines_are : next.lines ≡ p.lines ++ line
  pub said_is : err.new ≡ after err.old line

-- it could not be taken, and no line was written
pub record Unbrought (name : List ℕ) (folder : Seen (List NamedFile)) (err : Seen (List ℕ)) (ending : Ending) : Type 0 where
  pub quiet : err.new ≡ err.old
  pub cause : IsBringEnd folder.before folder.now ending
  pub ends : Told folder.old (λ files. BringEnds files name ending)

-- only a front of its line was written
pub record LineCut (mapping : Mapping) (hashes : Hashes) (name : List ℕ) (p : Progress) (folder : Seen (List NamedFile)) (err : Seen (List ℕ)) (ending : Ending) : Type 0 where
  pub unwritten : ending ≡ endings.Unwritten
  pub rose : Rose err.before err.now
  pub next : Progress
  pub step_is : Told folder.old (λ files. step mapping hashes files name p ≡ Ok next)
  pub line : List ℕ
  pub lines_are : next.lines ≡ p.lines ++ line
  pub got : GotPrefix err.old err.new line

-- what came of a manifest, behind such a run
abbrev pub GoesBy : Mapping → Hashes → List ℕ → Progress → Loading → Seen (List NamedFile) → Seen (List ℕ) → Result (Unit {0}) Ending → Type 0
GoesBy mapping hashes name p loading folder err (Ok done) = Went mapping hashes name p loading folder err
GoesBy mapping hashes name p loading folder err (Err ending) = Unbrought name folder err ending ⊎ LineCut mapping hashes name p folder err ending

-- the same, in every run that has what the code had loaded
abbrev pub Goes : Hashes → List ℕ → Loading → Loading → Seen (List NamedFile) → Seen (List ℕ) → Result (Unit {0}) Ending → Type 0
Goes hashes name loading loading' folder err result =
    (mapping : Mapping) (p : Progress) → IsLoaded mapping hashes loading p → GoesBy mapping hashes name p loading' folder err result

-- the folder is as it was, and no count of faults fell
pub record Leaves (folder : Seen (List NamedFile)) (err : Seen (List ℕ)) : Type 0 where
  pub kept : folder.new ≡ folder.old
  pub folder_later : folder.before ≤ folder.now
  pub err_later : err.before ≤ err.now

-- ---- the manifests

-- nothing is loaded yet
abbrev pub IsBegun : Hashes → Loading → Type 0
IsBegun hashes loading = IsLoaded loading.office.vault.mapping hashes loading start

-- the manifests were taken, and their lines written
pub record Loaded (mapping : Mapping) (hashes : Hashes) (names : List (List ℕ)) (loading : Loading) (folder : Seen (List NamedFile)) (err : Seen (List ℕ)) : Type 0 where
  pub progress : Progress
  pub steps_are : Told folder.old (λ files. steps mapping hashes files start names ≡ Ok progress)
  pub said_is : err.new ≡ after err.old progress.lines
  pub loaded_is : IsLoaded mapping hashes loading progress

-- why the manifest behind the first k was not taken, where these are the lines of those
abbrev pub NextEnds : Mapping → Hashes → List NamedFile → List (List ℕ) → ℕ → List ℕ → Ending → Type 0
NextEnds mapping hashes files names k lines (endings.Absent file) = steps mapping hashes files start names ≡ Err (lines ++ absent_line file)
NextEnds mapping hashes files names k lines (endings.Unread file) = IsReadNext files names k file
NextEnds mapping hashes files names k lines endings.Memory = Unit {0}
NextEnds mapping hashes files names k lines ending = ⊥

-- these are the lines of the first k manifests
abbrev pub HasLines : Mapping → Hashes → List NamedFile → List (List ℕ) → ℕ → List ℕ → Type 0
HasLines mapping hashes files names k lines = lines_of (steps mapping hashes files start (take k names)) ≡ Some lines

-- not all manifests were taken, and the lines of those that were are written
pub record Unloaded (mapping : Mapping) (hashes : Hashes) (names : List (List ℕ)) (folder : Seen (List NamedFile)) (err : Seen (List ℕ)) (ending : Ending) : Type 0 where
  pub k : ℕ
  pub lines : List ℕ
  pub said_is : err.new ≡ after err.old lines
  pub cause : IsBringEnd folder.before folder.now ending
  pub lines_are : Told folder.old (λ files. HasLines mapping hashes files names k lines)
  pub ends : Told folder.old (λ files. NextEnds mapping hashes files names k lines ending)

-- only a front of the lines was written
pub record LinesCut (mapping : Mapping) (hashes : Hashes) (names : List (List ℕ)) (folder : Seen (List NamedFile)) (err : Seen (List ℕ)) (ending : Ending) : Type 0 where
  pub unwritten : ending ≡ endings.Unwritten
  pub rose : Rose err.before err.now
  pub k : ℕ
  pub lines : List ℕ
  pub lines_are : Told folder.old (λ files. HasLines mapping hashes files names k lines)
  pub got : GotPrefix err.old err.new lines

-- what came of the manifests
abbrev pub Loads : Hashes → List (List ℕ) → Loading → Loading → Seen (List NamedFile) → Seen (List ℕ) → Result (Unit {0}) Ending → Type 0
Loads hashes names loading loading' folder err (Ok done) = Loaded loading.office.vault.mapping hashes names loading' folder err
Loads hashes names loading loading' folder err (Err ending) =
    Unloaded loading.office.vault.mapping hashes names folder err ending ⊎ LinesCut loading.office.vault.mapping hashes names folder err ending

-- ---- before the manifests

-- the word for the mart, by the mapping
abbrev pub WhatEnds : Mapping → List ℕ → Ending → Type 0
WhatEnds mapping word ending = QueryEnds (λ rule. (rule ≡ UnknownMart word) × (what_of mapping word ≡ None)) ending

-- what is asked of a mapping is in order, and the manifests are to be taken
pub record Begins (t : Trial) (readied : Readied) : Type 0 where
  pub tried_is : tried_of t ≡ at_end readied.loading.office.vault.mapping t.hashes readied.what readied.date (steps readied.loading.office.vault.mapping t.hashes t.files start t.names)
  pub lines_are : (k : ℕ) → lines_before t k ≡ lines_of (steps readied.loading.office.vault.mapping t.hashes t.files start (take k t.names))

-- how the command ends behind these lines
pub record EndsBehind (t : Trial) (before now : ℕ) (lines : List ℕ) (ending : Ending) : Type 0 where
  pub ended : IsEnded t before now (status_of ending) (lines ++ line_of_ending ending)
  pub memory : IsMemory t (lines ++ memory_line)

-- what the folder gives the command before the manifests
abbrev pub ReadsTrial : DigestFunction → Wanted → Seen (List NamedFile) → Result Readied Ending → Type 0
ReadsTrial function w folder result =
    Reads (λ files readied. Begins (trial_of function w files) readied)
    (λ files ending. EndsBehind (trial_of function w files) folder.before folder.now [] ending)
    IsReadCause folder result

-- the mapping offers what is asked for, and nothing is loaded yet
pub record IsReadied (hashes : Hashes) (readied : Readied) : Type 0 where
  pub offered : IsOffered readied.loading.office.vault.mapping readied.what
  pub begun : IsBegun hashes readied.loading

-- ---- the whole command

-- all was written
pub record AllSaid (function : DigestFunction) (w : Wanted) (s : Sight) (refused : Bool) : Type 0 where
  pub gives : Told s.folder.old (λ files. Gives (tried_of (trial_of function w files)) s.out s.err (status_for refused))
  pub refusal : refused ≡ true → Wrote s.err.old s.err.new HasRefusal

-- it ends before the text, and the lines of the manifests that were taken are written
pub record EndsEarly (function : DigestFunction) (w : Wanted) (s : Sight) (ending : Ending) : Type 0 where
  pub out : s.out.new ≡ s.out.old
  pub lines : List ℕ
  pub said_is : s.err.new ≡ after s.err.old lines
  pub cause : IsReadCause s.folder.before s.folder.now ending
  pub ends : Told s.folder.old (λ files. EndsBehind (trial_of function w files) s.folder.before s.folder.now lines ending)

-- a line or the text was cut short
pub record TextCut (function : DigestFunction) (w : Wanted) (s : Sight) (ending : Ending) : Type 0 where
  pub unwritten : ending ≡ endings.Unwritten
  pub rose : Rose s.out.before s.out.now ⊎ Rose s.err.before s.err.now
  pub cut : Told s.folder.old (λ files. CutShort (tried_of (trial_of function w files)) s (IsCutLines (trial_of function w files) s.folder.before s.folder.now))

-- what came of all but the last line and the status
abbrev pub TriesAll : DigestFunction → Wanted → Sight → Result Bool Ending → Type 0
TriesAll function w s (Ok refused) = AllSaid function w s refused
TriesAll function w s (Err ending) = EndsEarly function w s ending ⊎ TextCut function w s ending

-- the same behind what the folder gave before the manifests
abbrev pub TriesBehind : DigestFunction → Wanted → Readied → Sight → Result Bool Ending → Type 0
TriesBehind function w readied s result =
    (read : Seen (List NamedFile)) → ReadsTrial function w read (Ok readied) → s.folder.old ≡ read.old → read.before ≤ s.folder.before
    → TriesAll function w (record s { folder = record { old = read.old; new = s.folder.new; before = read.before; now = s.folder.now } }) result
