-- What a connection is served with: its requests are answered by the desk, which leads from states to states.
use Rattle.std.specs.Prelude.{◌≡◌, List, [], ◌∷◌, Some, IsSome}
use Rattle.dv_text.specs.Keys.{DigestFunction, Hashes, hashes_of}
use Rattle.dv_outside.specs.Seen.{NoFault}
use Rattle.dv_catalog.specs.Entries.{Mapping}
use Rattle.dv_records.specs.declared.stores.Store.{Store}
use Rattle.dv_records.specs.Standing.{Stands}
use Rattle.dv_records.specs.States.{State}
use Rattle.dv_window.specs.Offices.{IsIn}
use Rattle.dv_http.specs.declared.replies.Reply.{Reply}
use Rattle.dv_http.specs.declared.requests.Request.{Request}
use Rattle.dv_serving.specs.Exchanges.{Chain, Exchange}
use Rattle.dv_serving.specs.Serving.{IsServedWhole, ServesOn, Tells}
use Rattle.dv_serving.specs.declared.served.Served.{Served}
use Rattle.dv_serving.specs.declared.served.Served.TheVariants as served
use Rattle.dv_desk.specs.declared.answers.Answer.{Answer}
use Rattle.dv_desk.specs.declared.answers.Answer.TheVariants as answers
use Rattle.dv_desk.specs.Answers.{refusal, reply_of}
use Rattle.dv_desk.specs.Routes.{asked}
use Rattle.dv_desk.specs.Turns.{HasWidth, IsReplied, Moment, Says}

-- ---- the talk, in states

-- a moment's store is told, and stands for a state by a mapping
pub record StandsAs (mapping : Mapping) (hashes : Hashes) (state : State) (moment : Moment) : Type 0 where
  pub store : Store
  pub told_is : moment.store ≡ Some store
  pub stands : Stands mapping hashes state store

-- a request is answered in a state, and leads to another one
pub record AnsweredIn (mapping : Mapping) (hashes : Hashes) (exchange : Exchange) (state : State) (before next : Moment) (state' : State) : Type 0 where
  pub answer : Answer
  pub says : Says mapping hashes state before.store next.store (asked exchange.request) answer state'
  pub reply_is : exchange.reply ≡ reply_of answer exchange.request.last

-- there is a state before each request and one at the end, each with a store that stands for it; each request is answered
-- in its state, and leads to the next one
abbrev pub TalksIn : Mapping → Hashes → List Exchange → State → Moment → State → Moment → Type 0
TalksIn mapping hashes [] state before state' after = (after ≡ before) × (state' ≡ state) × StandsAs mapping hashes state before
TalksIn mapping hashes (exchange ∷ exchanges) state before state' after =
    (next : Moment) × (state1 : State) × StandsAs mapping hashes state before × AnsweredIn mapping hashes exchange state before next state1
    × TalksIn mapping hashes exchanges state1 next state' after

-- the talk ends in a state that the office and its keeper stand for
pub record Talked (mapping : Mapping) (hashes : Hashes) (exchanges : List Exchange) (state : State) (before after : Moment) : Type 0 where
  pub state' : State
  pub talk : TalksIn mapping hashes exchanges state before state' after
  pub left : IsIn hashes state' after.held after.store

-- it isn't that the keeper failed, which has the status 503
abbrev pub IsSure : Reply → Type 0
IsSure reply = reply.status ≡ 503 → ⊥

-- the keeper failed in none of them
abbrev pub AreSure : List Exchange → Type 0
AreSure [] = Unit {0}
AreSure (exchange ∷ exchanges) = IsSure exchange.reply × AreSure exchanges

-- requests that were answered led through a list of states where the keeper tells its store; where the keeper's count of
-- faults did not rise, no request was answered that it failed
pub record InStates (function : DigestFunction) (exchanges : List Exchange) (before after : Moment) : Type 0 where
  pub in_states : (state : State) → IsIn (hashes_of function) state before.held before.store → HasWidth function.width before → IsSome before.store
      → Talked before.held.vault.mapping (hashes_of function) exchanges state before after
  pub sure : NoFault before.faults after.faults → AreSure exchanges

-- so do whatever requests are answered one after another
abbrev pub LeadsInStates : DigestFunction → Type 0
LeadsInStates function =
    (exchanges : List Exchange) (before after : Moment) → Chain (IsReplied function) exchanges before after → InStates function exchanges before after

-- ---- a connection

-- a connection was served: requests were taken from the front of its bytes and answered, which led from one moment to
-- another, and through states; and it ended so, with these bytes left to be read
pub record Serves {L : Type 0} (function : DigestFunction) (tells : Tells L) (line back : L) (before after : Moment) (how : Served) : Type 0 where
  pub served : ServesOn (IsReplied function) refusal tells line back before after how
  pub states : InStates function served.exchanges before after

-- ---- completeness

-- a request is answered, and not that the keeper failed
pub record IsSurelyReplied (function : DigestFunction) (before : Moment) (request : Request) (reply : Reply) (after : Moment) : Type 0 where
  pub replied : IsReplied function before request reply after
  pub sure : replied.answer ≡ answers.Keeper → ⊥

-- all that was taken of a connection was answered, and each reply was written whole; where the keeper's count of faults did not
-- rise, none of them was that it failed
pub record ServesWhole {L : Type 0} (function : DigestFunction) (tells : Tells L) (line back : L) (before after : Moment) (how : Served) : Type 0 where
  pub whole : IsServedWhole how
  pub sure : NoFault before.faults after.faults → ServesOn (IsSurelyReplied function) refusal tells line back before after how

-- that is so, unless memory ran out
abbrev pub LinkCompletes : {L : Type 0} → DigestFunction → Tells L → L → L → Moment → Moment → Served → Type 0
LinkCompletes function tells line back before after how = (how ≡ served.Memory → ⊥) → ServesWhole function tells line back before after how
