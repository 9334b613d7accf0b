-- One more exchange behind others.
use Rattle.dv_serving.proofs.Vocabulary.{AreOpen, Bool, Chain, Exchange, GotPart, List, Ok, Option, Reply, Request, Some, StandIn, Takes, WroteAll, WroteFront, [], after-after, ap, append-nil, append_assoc, false, is_last, list_any, refl, replied, replies, subst, sym, true, with_bytes, ℕ, ◌++◌}
use Rattle.dv_serving.proofs.Vocabulary.{◌||◌, ◌∙◌, ◌∷◌, ◌≡◌}

pub stand_more : (input all others : Option (List ℕ)) (exchanges : List Exchange) (exchange : Exchange) → StandIn input exchanges all → Takes all others (Ok (Some exchange.request))
    → StandIn input (exchanges ++ exchange ∷ []) others
stand_more input all others [] exchange is takes = (others, subst (λ a. Takes a others (Ok (Some exchange.request))) is takes, refl)
stand_more input all others (first ∷ rest) exchange (next, taken, stand) takes = (next, taken, stand_more next all others rest exchange stand takes)

pub chain_more : {M : Type 0} (turn : M → Request → Reply → M → Type 0) (before mid now : M) (exchanges : List Exchange) (exchange : Exchange) → Chain turn exchanges before mid
    → turn mid exchange.request exchange.reply now → Chain turn (exchanges ++ exchange ∷ []) before now
chain_more turn before mid now [] exchange is turned = (now, rw is at turned, refl)
chain_more turn before mid now (first ∷ rest) exchange (next, taken, chain) turned = (next, taken, chain_more turn next mid now rest exchange chain turned)

open_or : (a b : Bool) → a || b ≡ false → (a ≡ false) × (b ≡ false)
open_or true b e = cc
open_or false b e = (refl, e)

pub open_more : (exchanges : List Exchange) (exchange : Exchange) → AreOpen exchanges → exchange.request.last ≡ false → AreOpen (exchanges ++ exchange ∷ [])
open_more [] exchange is last = ap (λ b. b || false) last
open_more (first ∷ rest) exchange is last =
    let parts = open_or first.request.last (list_any is_last rest) is in
    ap (λ b. b || list_any is_last (rest ++ exchange ∷ [])) parts.0 ∙ open_more rest exchange parts.1 last

replies_more : (exchanges : List Exchange) (exchange : Exchange) → replies (exchanges ++ exchange ∷ []) ≡ replies exchanges ++ replied exchange
replies_more [] exchange = append-nil (replied exchange)
replies_more (first ∷ rest) exchange = ap (λ l. replied first ++ l) (replies_more rest exchange) ∙ sym (append_assoc (replied first) (replies rest) (replied exchange))

module _ (old mid new : Option (List ℕ)) (exchanges : List Exchange) (wrote : WroteAll old mid exchanges) where
  -- a text behind the replies
  pub wrote_behind : (text : List ℕ) → new ≡ with_bytes mid text → new ≡ with_bytes old (replies exchanges ++ text)
  wrote_behind text is = is ∙ ap (λ o. with_bytes o text) wrote ∙ after-after old (replies exchanges) text

  pub wrote_more : (exchange : Exchange) → new ≡ with_bytes mid (replied exchange) → WroteAll old new (exchanges ++ exchange ∷ [])
  wrote_more exchange is = wrote_behind (replied exchange) is ∙ ap (with_bytes old) (sym (replies_more exchanges exchange))

  -- a front of a text behind them
  pub wrote_front : (text : List ℕ) → GotPart mid new text → WroteFront old new exchanges text
  wrote_front text got = record { piece = got.piece; cut = got.cut; wrote = wrote_behind got.piece got.is }
