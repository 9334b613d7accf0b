-- What comes of one request of a connection.
use Rattle.std.specs.Prelude.{◌≡◌, ◌⊎◌, ℕ, ◌+◌, Bool, true, false, List, Option, Some, None, Result, Ok, Err, if◌then◌else◌}
use Rattle.dv_text.specs.Causes.{Rose}
use Rattle.dv_outside.specs.Bytes.{after as with_bytes, in_front}
use Rattle.dv_http.specs.Buffers.{HasEnded, held}
use Rattle.dv_http.specs.Replies.{reply_text}
use Rattle.dv_http.specs.Requests.{Takes, Waited}
use Rattle.dv_http.specs.declared.buffers.Buffer.{Buffer}
use Rattle.dv_http.specs.declared.replies.Reply.{Reply}
use Rattle.dv_http.specs.declared.requests.Request.{Request}
use Rattle.dv_http.specs.declared.requests.WireError.{WireError}
use Rattle.dv_http.specs.declared.requests.WireError.TheVariants as errors
use Rattle.dv_serving.specs.declared.steps.Came.{Came}
use Rattle.dv_serving.specs.declared.steps.Came.TheVariants as came
use Rattle.dv_serving.specs.declared.served.Served.{Served}
use Rattle.dv_serving.specs.declared.served.Served.TheVariants as served
use Rattle.dv_serving.specs.Exchanges.{Exchange, replied}
use Rattle.dv_serving.specs.Serving.{IsUnread, RefusesTold, Tells}
use Rattle.dv_serving.specs.Writing.{GotPart}

-- ---- the writing of a reply

-- the text was written whole, and this came; or a front of it was, or none for want of memory
abbrev pub Said : List ℕ → Option (List ℕ) → Option (List ℕ) → Came → Came → Type 0
Said text old new written result =
    ((result ≡ written) × (new ≡ with_bytes old text))
    ⊎ (((result ≡ came.WriteFault) × GotPart old new text) ⊎ ((result ≡ came.Memory) × (new ≡ old)))

-- what came where nothing is answered
abbrev pub quiet : WireError → Came
quiet errors.Cut = came.Cut
quiet errors.ReadFault = came.ReadFault
quiet error = came.Memory

-- what comes of a request that was answered
abbrev pub came_of : Bool → Came
came_of last = if last then came.Closed else came.Replied

-- what no request could be taken from was answered by this reply, or nothing was written; nor was it where there was no
-- memory for the reply
abbrev pub Refused : {E : Type 0} → Result (Option Reply) E → WireError → Option (List ℕ) → Option (List ℕ) → Came → Type 0
Refused (Ok (Some reply)) error old new result = Said (reply_text reply) old new came.Wire result
Refused (Ok None) error old new result = (result ≡ quiet error) × (new ≡ old)
Refused (Err memory) error old new result = (result ≡ came.Memory) × (new ≡ old)

-- a request was answered, and the reply was written
pub record RepliedTo {M : Type 0} (turn : M → Request → Reply → M → Type 0) (request : Request) (old new : Option (List ℕ)) (before after : M) (result : Came) : Type 0 where
  pub reply : Reply
  pub turned : turn before request reply after
  pub said : Said (reply_text reply) old new (came_of request.last) result

-- ---- one request

-- a request was taken from the front of what is to be read, and others stand behind it; it was answered
pub record Answered {M : Type 0} (turn : M → Request → Reply → M → Type 0) (all others : Option (List ℕ)) (before after : M) (exchange : Exchange) : Type 0 where
  pub takes : Takes all others (Ok (Some exchange.request))
  pub turned : turn before exchange.request exchange.reply after

-- no request was taken, and nothing was written
abbrev pub Nothing : {M : Type 0} → Option (List ℕ) → Option (List ℕ) → M → M → Type 0
Nothing old new before after = (new ≡ old) × (after ≡ before)

-- the reply was written whole, and is the last one or isn't
abbrev pub Replies : {M : Type 0} → (M → Request → Reply → M → Type 0) → Bool → Option (List ℕ) → Option (List ℕ) → Option (List ℕ) → Option (List ℕ) → M → M → Type 0
Replies turn last all others old new before after =
    (exchange : Exchange) × Answered turn all others before after exchange × (exchange.request.last ≡ last)
    × (new ≡ with_bytes old (replied exchange))

-- the reply was begun
abbrev pub BreaksReply : {M : Type 0} → (M → Request → Reply → M → Type 0) → Option (List ℕ) → Option (List ℕ) → Option (List ℕ) → Option (List ℕ) → M → M → Type 0
BreaksReply turn all others old new before after =
    (exchange : Exchange) × Answered turn all others before after exchange × GotPart old new (replied exchange)

-- and where no request could be taken
abbrev pub BreaksRefusal : {M : Type 0} → (WireError → Option Reply) → Option (List ℕ) → Option (List ℕ) → Option (List ℕ) → M → M → Type 0
BreaksRefusal refusal all old new before after =
    (reply : Reply) × IsUnread refusal all reply × GotPart old new (reply_text reply) × (after ≡ before)

-- it was answered, and nothing was written
abbrev pub Unsaid : {M : Type 0} → (M → Request → Reply → M → Type 0) → Option (List ℕ) → Option (List ℕ) → Option (List ℕ) → Option (List ℕ) → M → M → Type 0
Unsaid turn all others old new before after =
    (exchange : Exchange) × Answered turn all others before after exchange × (new ≡ old)

-- what a buffer holds, and what is left behind it
abbrev pub unread : Buffer → Option (List ℕ) → Option (List ℕ)
unread buffer left = in_front (held buffer) left

-- what came of one request: by the bytes that were to be read, those that the buffer then holds, what is left behind them,
-- and what was written
abbrev pub Comes : {M : Type 0} → (M → Request → Reply → M → Type 0) → (WireError → Option Reply) → Option (List ℕ) → List ℕ → Option (List ℕ) → Option (List ℕ) → Option (List ℕ) → M → M → Came → Type 0
Comes turn refusal all front left old new before after came.Replied = Replies turn false all (in_front front left) old new before after
Comes turn refusal all front left old new before after came.Closed = Replies turn true all (in_front front left) old new before after
Comes turn refusal all front left old new before after came.Wire =
    (reply : Reply) × IsUnread refusal all reply × (new ≡ with_bytes old (reply_text reply)) × (after ≡ before)
Comes turn refusal all front left old new before after came.Ended = HasEnded all × Nothing old new before after
Comes turn refusal all front left old new before after came.Cut = RefusesTold all errors.Cut × Nothing old new before after
Comes turn refusal all front left old new before after came.ReadFault = Waited all left × Nothing old new before after
Comes turn refusal all front left old new before after came.WriteFault =
    BreaksReply turn all (in_front front left) old new before after ⊎ BreaksRefusal refusal all old new before after
Comes turn refusal all front left old new before after came.Memory =
    Nothing old new before after ⊎ Unsaid turn all (in_front front left) old new before after

-- the same, of a buffer and a connection as they were and as they are then
abbrev pub ComesOn : {L M : Type 0} → (M → Request → Reply → M → Type 0) → (WireError → Option Reply) → Tells L → Buffer → Buffer → L → L → M → M → Came → Type 0
ComesOn turn refusal tells buffer buffer' line line' before after came =
    Comes turn refusal (unread buffer (tells.left line)) (held buffer') (tells.left line') (tells.contents line) (tells.contents line') before after came

-- ---- how the serving goes on

-- how the serving ends with what came of a request, behind so many that were answered; none where it goes on
abbrev pub end_with : Came → ℕ → Option Served
end_with came.Replied requests = None
end_with came.Closed requests = Some (served.Closed (requests + 1))
end_with came.Wire requests = Some (served.Wire (requests + 1))
end_with came.Ended requests = Some (served.Ended requests)
end_with came.Cut requests = Some (served.Cut requests)
end_with came.ReadFault requests = Some served.ReadFault
end_with came.WriteFault requests = Some served.WriteFault
end_with came.Memory requests = Some served.Memory

-- a fault of the connection comes only where its count rose
abbrev pub IsLinkCause : ℕ → ℕ → Came → Type 0
IsLinkCause before now came.ReadFault = Rose before now
IsLinkCause before now came.WriteFault = Rose before now
IsLinkCause before now came = Unit {0}
