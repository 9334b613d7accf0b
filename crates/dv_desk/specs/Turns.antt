-- A request and its answer: what it does to the warehouse, and why it is given.
use Rattle.std.specs.Prelude.{◌≡◌, ◌⊎◌, ℕ, ◌≤◌, Bool, true, false, Option, IsSome, Result, Ok, Err}
use Rattle.dv_text.specs.Causes.{Rose}
use Rattle.dv_text.specs.Keys.{DigestFunction, Hashes, hashes_of}
use Rattle.dv_text.specs.Told.{Told}
use Rattle.dv_catalog.specs.Entries.{Mapping}
use Rattle.dv_catalog.specs.declared.rules.Rule.TheVariants.{Manifest}
use Rattle.dv_catalog.specs.declared.windows.WindowIn.{WindowIn}
use Rattle.dv_http.specs.declared.replies.Reply.{Reply}
use Rattle.dv_http.specs.declared.requests.Request.{Request}
use Rattle.dv_records.specs.declared.answers.Damage.{Damage}
use Rattle.dv_records.specs.declared.answers.LoadAnswer.{LoadAnswer}
use Rattle.dv_records.specs.declared.answers.LoadAnswer.TheVariants as load
use Rattle.dv_records.specs.declared.snapshots.SnapId.{SnapId}
use Rattle.dv_records.specs.declared.stores.Store.{Store}
use Rattle.dv_records.specs.States.{State}
use Rattle.dv_records.specs.Steps.{LoadStep}
use Rattle.dv_window.specs.StoredTexts.{IsRowOf, IsStoredDamage}
use Rattle.dv_restore.specs.Damages.{IsNamed}
use Rattle.dv_window.specs.Offices.{AgreesUnlessStale, Held, IsDamageFor, IsIn, IsLeftIn, LeavesStore, made_stale}
use Rattle.dv_desk.specs.declared.answers.Answer.{Answer}
use Rattle.dv_desk.specs.declared.answers.Answer.TheVariants as answers
use Rattle.dv_desk.specs.declared.posted.Posted.{Posted}
use Rattle.dv_desk.specs.declared.posted.Posted.TheVariants.{NotJson, Faulty, Given}
use Rattle.dv_desk.specs.Answers.{reply_of}
use Rattle.dv_desk.specs.Posted.{posted}
use Rattle.dv_desk.specs.Queries.{IsPitFor, heads_answer, mart_answer, pit_answer, table_answer}
use Rattle.dv_desk.specs.Routes.{Routed, Load, NotAllowed, NotFound, Read, asked, Query, Heads, MartAt, PitAt, TableOf}

-- what stands between two requests: what the office holds, the keeper's store where it is told, and the keeper's count of
-- faults
pub record Moment : Type 0 where
  pub held : Held
  pub store : Option Store
  pub faults : ℕ

-- the same, by what tells a keeper's store and what counts its faults
abbrev pub moment : {K : Type 0} → (K → Option Store) → (K → ℕ) → Held → K → Moment
moment tells faults office keeper = record { held = office; store = tells keeper; faults = faults keeper }

-- ---- what a request does, in a state

-- the answer to a window that was given to the office
abbrev pub answer_of : LoadAnswer → Answer
answer_of (load.Loaded rows) = answers.Loaded rows
answer_of load.Repeated = answers.Repeated
answer_of (load.Refused rule) = answers.Broken rule
answer_of (load.Damaged damage) = answers.Damaged damage
answer_of load.KeeperFault = answers.Keeper
answer_of load.Memory = answers.Memory

-- no damage is named of a store that stands for a state
abbrev pub IsSound : LoadAnswer → Type 0
IsSound (load.Damaged damage) = ⊥
IsSound answer = Unit {0}

-- a window is given to the office: a step of the machine
pub record Loads (mapping : Mapping) (hashes : Hashes) (given : WindowIn) (state : State) (before after : Option Store) (answer : Answer) (state' : State) : Type 0 where
  pub came : LoadAnswer
  pub answer_is : answer ≡ answer_of came
  pub sound : IsSound came
  pub step : LoadStep mapping hashes state given came state'
  pub store : LeavesStore came before after

-- the state and the store are as they were
abbrev pub Stays : State → Option Store → Option Store → State → Type 0
Stays state before after state' = (state' ≡ state) × (after ≡ before)

-- this is the answer, or the keeper failed or memory ran out
abbrev pub IsDue : Answer → Answer → Type 0
IsDue due answer = (answer ≡ due) ⊎ ((answer ≡ answers.Keeper) ⊎ (answer ≡ answers.Memory))

-- the window of a body is to be loaded; a body that is no window leaves all as it was
abbrev pub PostSays : Mapping → Hashes → State → Option Store → Option Store → Posted → Answer → State → Type 0
PostSays mapping hashes state before after NotJson answer state' = IsDue answers.BadRequest answer × Stays state before after state'
PostSays mapping hashes state before after (Faulty place) answer state' =
    IsDue (answers.Broken (Manifest place)) answer × Stays state before after state'
PostSays mapping hashes state before after (Given given) answer state' = Loads mapping hashes given state before after answer state'

-- what is due to what is only read
abbrev pub due : Mapping → Hashes → State → Query → Store → Answer
due mapping hashes state Heads store = heads_answer mapping store
due mapping hashes state (MartAt word date) store = mart_answer mapping hashes state word date
due mapping hashes state (TableOf name) store = table_answer mapping store name
due mapping hashes state (PitAt hub date) store = pit_answer mapping hashes state hub date

-- what is read leaves all as it was
abbrev pub ReadSays : Mapping → Hashes → State → Option Store → Option Store → Query → Answer → State → Type 0
ReadSays mapping hashes state before after query answer state' =
    Told before (λ store. IsDue (due mapping hashes state query store) answer) × Stays state before after state'

-- what is answered to what is asked for, and the state that it leads to
abbrev pub Says : Mapping → Hashes → State → Option Store → Option Store → Routed → Answer → State → Type 0
Says mapping hashes state before after (Load body) answer state' = PostSays mapping hashes state before after (posted body) answer state'
Says mapping hashes state before after (Read query) answer state' = ReadSays mapping hashes state before after query answer state'
Says mapping hashes state before after NotFound answer state' = (answer ≡ answers.NotFound) × Stays state before after state'
Says mapping hashes state before after (NotAllowed methods) answer state' = (answer ≡ answers.NotAllowed methods) × Stays state before after state'

-- there is such a route, and it has the method
abbrev pub IsThere : Routed → Type 0
IsThere NotFound = ⊥
IsThere (NotAllowed methods) = ⊥
IsThere asked = Unit {0}

-- ---- why an answer is given, whatever the keeper tells

-- the table of a stored snapshot that is asked for
abbrev pub IsStoredFor : Mapping → Routed → SnapId → ℕ → Type 0
IsStoredFor mapping (Read (PitAt hub date)) id at = IsPitFor mapping hub date id at
IsStoredFor mapping asked id at = ⊥

-- a row of the store breaks a rule of form: one that a stale office reads again, or one of the stored table that is asked for
abbrev pub IsDamageIn : DigestFunction → Routed → Moment → Moment → Store → Damage → Type 0
IsDamageIn function asked before after store damage =
    ((before.held.stale ≡ true) × IsDamageFor before.held.vault.mapping (hashes_of function) function.width store damage)
    ⊎ ((id : SnapId) × (at : ℕ) × IsStoredFor before.held.vault.mapping asked id at × IsStoredDamage after.held id at store.snapshots damage)

-- whatever is stored, it names a place and a rule that there may be, by the mapping, or a row of the table that is asked for
abbrev pub MayBe : Mapping → Routed → Damage → Type 0
MayBe mapping asked damage = IsNamed mapping damage ⊎ ((id : SnapId) × (at : ℕ) × IsStoredFor mapping asked id at × IsRowOf mapping id damage)

-- the keeper failed only where its count rose, and a damage is there
abbrev pub IsCauseOf : DigestFunction → Routed → Moment → Moment → Answer → Type 0
IsCauseOf function asked before after answers.Keeper = Rose before.faults after.faults
IsCauseOf function asked before after (answers.Damaged damage) =
    Told before.store (λ store. IsDamageIn function asked before after store damage) × MayBe before.held.vault.mapping asked damage
IsCauseOf function asked before after answer = Unit {0}

-- it isn't that the route has no such method
abbrev pub IsAllowed : Answer → Type 0
IsAllowed (answers.NotAllowed methods) = ⊥
IsAllowed answer = Unit {0}

-- what is no route, or has not this method, is answered so, and nothing else is answered that it has not its method
abbrev pub IsAskedFor : Routed → Answer → Type 0
IsAskedFor NotFound answer = answer ≡ answers.NotFound
IsAskedFor (NotAllowed methods) answer = answer ≡ answers.NotAllowed methods
IsAskedFor asked answer = IsAllowed answer

-- ---- what is left, whatever the keeper tells

-- whether the office is stale behind an answer: where the keeper failed it is, and else only where it was and memory ran out
-- or a damage was found
abbrev pub StaleBy : Answer → Bool → Bool → Type 0
StaleBy answers.Keeper was is = is ≡ true
StaleBy (answers.Damaged damage) was is = is ≡ true → was ≡ true
StaleBy answers.Memory was is = is ≡ true → was ≡ true
StaleBy answer was is = is ≡ false

-- only a window that was loaded or broke off changes the store
abbrev pub StoreBy : Answer → Option Store → Option Store → Type 0
StoreBy (answers.Loaded rows) before after = Unit {0}
StoreBy answers.Keeper before after = Unit {0}
StoreBy answers.Memory before after = Unit {0}
StoreBy answer before after = after ≡ before

-- and the same holds of an office that isn't stale
abbrev pub LoadOffice : Answer → Held → Held → Type 0
LoadOffice (answers.Loaded rows) held held' = Unit {0}
LoadOffice answers.Keeper held held' = Unit {0}
LoadOffice answers.Memory held held' = Unit {0}
LoadOffice answer held held' = held' ≡ held

-- what is only read leaves it as it was, or stale where the keeper failed
abbrev pub ReadOffice : Answer → Held → Held → Type 0
ReadOffice answers.Keeper held held' = held' ≡ made_stale held
ReadOffice answer held held' = held' ≡ held

-- what a window that is to be loaded leaves
pub record LoadLeaves (answer : Answer) (before after : Moment) : Type 0 where
  pub stale : StaleBy answer before.held.stale after.held.stale
  pub store : StoreBy answer before.store after.store
  pub office : before.held.stale ≡ false → LoadOffice answer before.held after.held

-- what is only read leaves the store
pub record ReadLeaves (answer : Answer) (before after : Moment) : Type 0 where
  pub stale : StaleBy answer before.held.stale after.held.stale
  pub store : after.store ≡ before.store
  pub office : before.held.stale ≡ false → ReadOffice answer before.held after.held

-- what a request leaves of the office and of the keeper's store; what is no route, or has not this method, leaves all
abbrev pub Leaves : Routed → Answer → Moment → Moment → Type 0
Leaves (Load body) answer before after = LoadLeaves answer before after
Leaves (Read query) answer before after = ReadLeaves answer before after
Leaves asked answer before after = after ≡ before

-- ---- a turn

-- an office that isn't stale was read by hash keys of this width
abbrev pub HasWidth : ℕ → Moment → Type 0
HasWidth width moment = moment.held.stale ≡ false → moment.held.width ≡ width

-- an answer in a state, and the state that is left
pub record Leads (hashes : Hashes) (state : State) (before after : Moment) (asked : Routed) (answer : Answer) : Type 0 where
  pub state' : State
  pub says : Says before.held.vault.mapping hashes state before.store after.store asked answer state'
  pub left : IsLeftIn hashes state' after.held after.store

-- what is asked for is answered: what that does in each state that the office and its keeper stand for, and why
pub record Turn (function : DigestFunction) (asked : Routed) (answer : Answer) (before after : Moment) : Type 0 where
  pub leads : (state : State) → IsIn (hashes_of function) state before.held before.store → HasWidth function.width before
      → Leads (hashes_of function) state before after asked answer
  pub cause : IsCauseOf function asked before after answer
  pub asked_for : IsAskedFor asked answer
  pub leaves : Leaves asked answer before after
  pub same_mapping : after.held.vault.mapping ≡ before.held.vault.mapping
  pub wide : HasWidth function.width before → HasWidth function.width after
  pub told : IsSome before.store → IsSome after.store
  pub later : before.faults ≤ after.faults

-- a request may come where the keeper's store, where it is told, is what the office holds, unless this is stale
abbrev pub CanReply : Moment → Type 0
CanReply moment = AgreesUnlessStale moment.held moment.store

-- what is asked for is answered, and a request may come again
pub record Answered (function : DigestFunction) (asked : Routed) (answer : Answer) (before after : Moment) : Type 0 where
  pub turn : Turn function asked answer before after
  pub agrees : CanReply after

-- a request is answered with a reply
pub record IsReplied (function : DigestFunction) (before : Moment) (request : Request) (reply : Reply) (after : Moment) : Type 0 where
  pub answer : Answer
  pub turn : Turn function (asked request) answer before after
  pub reply_is : reply ≡ reply_of answer request.last

-- ---- a stale office that is refreshed

-- it isn't stale then, and is what it was for each state; the store is as it was
pub record Refreshed (function : DigestFunction) (before after : Moment) : Type 0 where
  pub fresh : after.held.stale ≡ false
  pub still : before.held.stale ≡ false → after.held ≡ before.held
  pub stands : (state : State) → IsIn (hashes_of function) state before.held before.store → IsIn (hashes_of function) state after.held after.store
  pub mapping : after.held.vault.mapping ≡ before.held.vault.mapping
  pub width : before.held.stale ≡ true → after.held.width ≡ function.width
  pub store : after.store ≡ before.store
  pub agrees : CanReply after
  pub later : before.faults ≤ after.faults

-- or the answer to whatever is asked for is that it could not be
abbrev pub Refreshes : DigestFunction → Moment → Moment → Result (Unit {0}) Answer → Type 0
Refreshes function before after (Ok done) = Refreshed function before after
Refreshes function before after (Err answer) = (asked : Routed) → IsThere asked → Answered function asked answer before after
