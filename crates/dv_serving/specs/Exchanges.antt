-- Requests and the replies to them, one after another. What stands between two requests is a moment; a turn leads from one
-- to another: at a moment a request is answered with a reply.
use Rattle.std.specs.List.{flat_map, list_any}
use Rattle.std.specs.Prelude.{◌≡◌, ℕ, Bool, true, false, List, [], ◌∷◌, ◌++◌, Result, Ok, Err}
use Rattle.dv_http.specs.Replies.{reply_text}
use Rattle.dv_http.specs.declared.replies.Reply.{Reply}
use Rattle.dv_http.specs.declared.requests.Request.{Request}

-- a request and the reply to it
pub record Exchange : Type 0 where
  pub request : Request
  pub reply : Reply

-- a request was answered with this reply, or with one that could not be made
abbrev pub Turns : {M E : Type 0} → (M → Request → Reply → M → Type 0) → M → Request → M → Result Reply E → Type 0
Turns turn before request after (Ok reply) = turn before request reply after
Turns turn before request after (Err error) = (reply : Reply) × turn before request reply after

-- each exchange is a turn from one moment to the next
abbrev pub Chain : {M : Type 0} → (M → Request → Reply → M → Type 0) → List Exchange → M → M → Type 0
Chain turn [] before after = after ≡ before
Chain {M} turn (exchange ∷ exchanges) before after =
    (next : M) × turn before exchange.request exchange.reply next × Chain turn exchanges next after

-- the bytes of a reply
abbrev pub replied : Exchange → List ℕ
replied exchange = reply_text exchange.reply

-- the bytes of the replies, one behind another
abbrev pub replies : List Exchange → List ℕ
replies exchanges = flat_map replied exchanges

-- a request after which the connection ends
abbrev pub is_last : Exchange → Bool
is_last exchange = exchange.request.last

-- none of the requests is the last one
abbrev pub AreOpen : List Exchange → Type 0
AreOpen exchanges = list_any is_last exchanges ≡ false

-- the last of the requests, and no other, ends the connection
pub record AreClosed (exchanges : List Exchange) : Type 0 where
  pub others : List Exchange
  pub exchange : Exchange
  pub are : exchanges ≡ others ++ exchange ∷ []
  pub last : exchange.request.last ≡ true
  pub open_ones : AreOpen others
