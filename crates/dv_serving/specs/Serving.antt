-- What a connection is served with: requests are taken from its bytes and answered in their order, until the input ends, a
-- request is the last one, none can be taken, or there were 10,000.
use Rattle.std.specs.Prelude.{◌≡◌, ◌⊎◌, ℕ, ◌+◌, ◌<◌, ◌≤◌, List, [], ◌∷◌, ◌++◌, length, Option, Some, IfSome, Ok}
use Rattle.dv_text.specs.Causes.{Rose}
use Rattle.dv_outside.specs.Bytes.{after as with_bytes, in_front}
use Rattle.dv_outside.specs.declared.links.Link.{Ghosts as OfLink}
use Rattle.dv_http.specs.Buffers.{HasEnded}
use Rattle.dv_http.specs.Replies.{reply_text}
use Rattle.dv_http.specs.Requests.{Refuses, Takes, Waited}
use Rattle.dv_http.specs.declared.replies.Reply.{Reply}
use Rattle.dv_http.specs.declared.requests.Request.{Request}
use Rattle.dv_http.specs.declared.requests.WireError.{WireError}
use Rattle.dv_http.specs.declared.requests.WireError.TheVariants as errors
use Rattle.dv_serving.specs.declared.served.Served.{Served}
use Rattle.dv_serving.specs.declared.served.Served.TheVariants as served
use Rattle.dv_serving.specs.Exchanges.{AreClosed, AreOpen, Chain, Exchange, replied, replies}
use Rattle.dv_serving.specs.Writing.{IsCutOff}

-- what a connection tells: the bytes that are still to be read, and those written so far; and its count of faults
pub record Tells (L : Type 0) : Type 0 where
  pub left : L → Option (List ℕ)
  pub contents : L → Option (List ℕ)
  pub faults : L → ℕ

-- what a link tells, by the members of its trait
abbrev pub tells : {L : Type 0} → OfLink L → Tells L
tells link = record { left = link.left; contents = link.contents; faults = link.faults }

-- the most requests of a connection
abbrev pub most_requests : ℕ
most_requests = 10000

-- the requests stand one behind another at the front of what is to be read, and the rest behind them, where it is told
abbrev pub StandIn : Option (List ℕ) → List Exchange → Option (List ℕ) → Type 0
StandIn all [] rest = rest ≡ all
StandIn all (exchange ∷ exchanges) rest =
    (others : Option (List ℕ)) × Takes all others (Ok (Some exchange.request)) × StandIn others exchanges rest

-- no request can be taken from what is to be read for this cause, where it is told
abbrev pub RefusesTold : Option (List ℕ) → WireError → Type 0
RefusesTold rest error = IfSome rest (λ bytes. Refuses bytes error)

-- no request can be taken, and the end of what stands there can't be told; the reply is this one
pub record IsUnread (refusal : WireError → Option Reply) (rest : Option (List ℕ)) (reply : Reply) : Type 0 where
  pub error : WireError
  pub refuses : RefusesTold rest error
  pub reply_is : refusal error ≡ Some reply

-- the replies were written whole but for the last text, of which a front was
pub record WroteFront (old new : Option (List ℕ)) (whole : List Exchange) (text : List ℕ) : Type 0 where
  pub piece : List ℕ
  pub cut : IsCutOff text piece
  pub wrote : new ≡ with_bytes old (replies whole ++ piece)

-- all replies were written whole
abbrev pub WroteAll : Option (List ℕ) → Option (List ℕ) → List Exchange → Type 0
WroteAll old new exchanges = new ≡ with_bytes old (replies exchanges)

-- none of the requests is the last one, and more may come
pub record GoOn (exchanges : List Exchange) : Type 0 where
  pub open_ones : AreOpen exchanges
  pub fewer : length exchanges < most_requests

-- all replies were written whole but for the last one, of which nothing was
pub record WroteOthers (old new : Option (List ℕ)) (exchanges : List Exchange) : Type 0 where
  pub others : List Exchange
  pub exchange : Exchange
  pub are : exchanges ≡ others ++ exchange ∷ []
  pub go_on : GoOn others
  pub wrote : WroteAll old new others

-- the last reply was begun
pub record BrokeReply (old new : Option (List ℕ)) (exchanges : List Exchange) : Type 0 where
  pub others : List Exchange
  pub exchange : Exchange
  pub are : exchanges ≡ others ++ exchange ∷ []
  pub go_on : GoOn others
  pub wrote : WroteFront old new others (replied exchange)

-- the reply to what is no request was begun
pub record BrokeRefusal (refusal : WireError → Option Reply) (rest old new : Option (List ℕ)) (exchanges : List Exchange) : Type 0 where
  pub reply : Reply
  pub unread : IsUnread refusal rest reply
  pub go_on : GoOn exchanges
  pub wrote : WroteFront old new exchanges (reply_text reply)

-- what is left of a connection is what stands behind a front of these bytes
abbrev pub IsLeftOf : Option (List ℕ) → Option (List ℕ) → Type 0
IsLeftOf rest left = (got : List ℕ) × (rest ≡ in_front got left)

-- how the serving of a connection ended: by the requests that were taken and answered, the rest of its bytes, what is left
-- to be read of them, and what was written
abbrev pub Ends : (WireError → Option Reply) → List Exchange → Option (List ℕ) → Option (List ℕ) → Option (List ℕ) → Option (List ℕ) → Served → Type 0
Ends refusal exchanges rest left old new (served.Ended count) =
    GoOn exchanges × HasEnded rest × (count ≡ length exchanges) × WroteAll old new exchanges
Ends refusal exchanges rest left old new (served.Closed count) =
    AreClosed exchanges × IsLeftOf rest left × (count ≡ length exchanges) × WroteAll old new exchanges
Ends refusal exchanges rest left old new (served.Wire count) =
    GoOn exchanges
    × ((reply : Reply) × IsUnread refusal rest reply × (count ≡ length exchanges + 1) × (new ≡ with_bytes old (replies exchanges ++ reply_text reply)))
Ends refusal exchanges rest left old new (served.Cut count) =
    GoOn exchanges × RefusesTold rest errors.Cut × (count ≡ length exchanges) × WroteAll old new exchanges
Ends refusal exchanges rest left old new (served.Enough count) =
    AreOpen exchanges × (length exchanges ≡ most_requests) × IsLeftOf rest left × (count ≡ most_requests) × WroteAll old new exchanges
Ends refusal exchanges rest left old new served.ReadFault = GoOn exchanges × Waited rest left × WroteAll old new exchanges
Ends refusal exchanges rest left old new served.WriteFault = BrokeReply old new exchanges ⊎ BrokeRefusal refusal rest old new exchanges
Ends refusal exchanges rest left old new served.Memory = (GoOn exchanges × WroteAll old new exchanges) ⊎ WroteOthers old new exchanges

-- a connection was served: requests were taken from the front of its bytes and answered, each by a turn, which led from one
-- moment to another; and it ended so, with these bytes left to be read
pub record ServesLink {M : Type 0} (turn : M → Request → Reply → M → Type 0) (refusal : WireError → Option Reply) (input left old new : Option (List ℕ)) (before after : M) (how : Served) : Type 0 where
  pub exchanges : List Exchange
  pub rest : Option (List ℕ)
  pub stand : StandIn input exchanges rest
  pub chain : Chain turn exchanges before after
  pub few : length exchanges ≤ most_requests
  pub ends : Ends refusal exchanges rest left old new how

-- the same, of a connection as it was and as it is then
abbrev pub ServesOn : {L M : Type 0} → (M → Request → Reply → M → Type 0) → (WireError → Option Reply) → Tells L → L → L → M → M → Served → Type 0
ServesOn turn refusal tells line back before after how =
    ServesLink turn refusal (tells.left line) (tells.left back) (tells.contents line) (tells.contents back) before after how

-- a fault of the connection comes only where its count rose
abbrev pub IsServedCause : ℕ → ℕ → Served → Type 0
IsServedCause before now served.ReadFault = Rose before now
IsServedCause before now served.WriteFault = Rose before now
IsServedCause before now how = Unit {0}

-- all that was taken was answered, and each reply was written whole
abbrev pub IsServedWhole : Served → Type 0
IsServedWhole served.ReadFault = ⊥
IsServedWhole served.WriteFault = ⊥
IsServedWhole served.Memory = ⊥
IsServedWhole how = Unit {0}
