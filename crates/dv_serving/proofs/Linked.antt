-- How the requests of a connection follow one another.
use Rattle.dv_serving.proofs.Vocabulary.{Answered, AreOpen, BreaksRefusal, BreaksReply, Came, Chain, Comes, Ends, Exchange, GoOn, IfSome, IsLeftOf, List, None, Nothing, Option, Reply, Request, Served, ServesLink, Some, StandIn, Unsaid, WireError, WroteAll, [], after-nil, arith, end_with}
use Rattle.dv_serving.proofs.Vocabulary.{in_front, inl, inr, length, length-append, most_requests, refl, replied, reply_text, subst, sym, ℕ, ◌++◌, ◌+◌, ◌<◌, ◌∙◌, ◌∷◌, ◌≡◌, ◌⊎◌}
use Rattle.dv_serving.proofs.Chained.{chain_more, open_more, stand_more, wrote_behind, wrote_front, wrote_more}
use Rattle.dv_serving.specs.declared.served.Served.TheVariants as served
use Rattle.dv_serving.specs.declared.steps.Came.TheVariants as came

-- so many requests were taken and answered, none of them the last one, and all replies were written whole
pub record Going {M : Type 0} (turn : M → Request → Reply → M → Type 0) (input all old new : Option (List ℕ)) (before now : M) (count : ℕ) : Type 0 where
  pub exchanges : List Exchange
  pub stand : StandIn input exchanges all
  pub chain : Chain turn exchanges before now
  pub open_ones : AreOpen exchanges
  pub counted : length exchanges ≡ count
  pub wrote : WroteAll old new exchanges

-- what goes on was answered
went_on : (c : Came) (count : ℕ) → end_with c count ≡ None → c ≡ came.Replied
went_on came.Replied count e = refl
went_on came.Closed count e = cc
went_on came.Wire count e = cc
went_on came.Ended count e = cc
went_on came.Cut count e = cc
went_on came.ReadFault count e = cc
went_on came.WriteFault count e = cc
went_on came.Memory count e = cc

module _ {M : Type 0} (turn : M → Request → Reply → M → Type 0) (refusal : WireError → Option Reply) (input old : Option (List ℕ)) (before : M) where
  -- memory for the buffer was lacking
  pub never_begun : (left : Option (List ℕ)) → ServesLink turn refusal input left old old before before served.Memory
  never_begun left = record {
    exchanges = [];
    rest = input;
    stand = refl;
    chain = refl;
    few = omega arith;
    ends = inl (record { open_ones = refl; fewer = omega arith }, sym (after-nil old));
  }

  pub enough : (all left new : Option (List ℕ)) (now : M) (count : ℕ) → IsLeftOf all left → Going turn input all old new before now count → count ≡ most_requests
      → ServesLink turn refusal input left old new before now (served.Enough most_requests)
  enough all left new now count behind going is = record {
    exchanges = going.exchanges;
    rest = all;
    stand = going.stand;
    chain = going.chain;
    few = omega (arith, going.counted, is);
    ends = (going.open_ones, going.counted ∙ is, behind, refl, going.wrote);
  }

  module _ (all : Option (List ℕ)) (front : List ℕ) (left mid new : Option (List ℕ)) (now next : M) (count : ℕ) (going : Going turn input all old mid before now count) where
    abbrev others : Option (List ℕ)
    others = in_front front left

    goes_on : Comes turn refusal all front left mid new now next came.Replied → Going turn input others old new before next (count + 1)
    goes_on (exchange, answered, open_one, wrote) = record {
      exchanges = going.exchanges ++ exchange ∷ [];
      stand = stand_more input all others going.exchanges exchange going.stand answered.takes;
      chain = chain_more turn before now next going.exchanges exchange going.chain answered.turned;
      open_ones = open_more going.exchanges exchange going.open_ones open_one;
      counted = omega (arith, length-append going.exchanges (exchange ∷ []), going.counted);
      wrote = wrote_more old mid new going.exchanges going.wrote exchange wrote;
    }

    pub goes_on_with : (c : Came) → Comes turn refusal all front left mid new now next c → end_with c count ≡ None → Going turn input others old new before next (count + 1)
    goes_on_with c comes e = goes_on (subst (Comes turn refusal all front left mid new now next) (went_on c count e) comes)

    module _ (less : count < most_requests) where
      go_on : GoOn going.exchanges
      go_on = record { open_ones = going.open_ones; fewer = omega (arith, going.counted, less) }

      longer : (exchange : Exchange) → length (going.exchanges ++ exchange ∷ []) ≡ count + 1
      longer exchange = omega (arith, length-append going.exchanges (exchange ∷ []), going.counted)

      -- it ends with the requests so far
      ends_here : next ≡ now → (how : Served) → Ends refusal going.exchanges all left old new how → ServesLink turn refusal input left old new before next how
      ends_here same how ends = record {
        exchanges = going.exchanges;
        rest = all;
        stand = going.stand;
        chain = subst (λ m. Chain turn going.exchanges before m) (sym same) going.chain;
        few = omega (arith, going.counted, less);
        ends = ends;
      }

      -- it ends with one more
      ends_behind : (exchange : Exchange) → Answered turn all others now next exchange → (how : Served) → Ends refusal (going.exchanges ++ exchange ∷ []) others left old new how
          → ServesLink turn refusal input left old new before next how
      ends_behind exchange answered how ends = record {
        exchanges = going.exchanges ++ exchange ∷ [];
        rest = others;
        stand = stand_more input all others going.exchanges exchange going.stand answered.takes;
        chain = chain_more turn before now next going.exchanges exchange going.chain answered.turned;
        few = omega (arith, longer exchange, less);
        ends = ends;
      }

      by_write : BreaksReply turn all others mid new now next ⊎ BreaksRefusal refusal all mid new now next → ServesLink turn refusal input left old new before next served.WriteFault
      by_write (inl (exchange, answered, got)) = ends_behind exchange answered served.WriteFault (inl (record {
        others = going.exchanges;
        exchange = exchange;
        are = refl;
        go_on = go_on;
        wrote = wrote_front old mid new going.exchanges going.wrote (replied exchange) got;
      }))
      by_write (inr (reply, unread, got, same)) = ends_here same served.WriteFault (inr (record {
        reply = reply;
        unread = unread;
        go_on = go_on;
        wrote = wrote_front old mid new going.exchanges going.wrote (reply_text reply) got;
      }))

      by_memory : Nothing mid new now next ⊎ Unsaid turn all others mid new now next → ServesLink turn refusal input left old new before next served.Memory
      by_memory (inl (unwritten, same)) = ends_here same served.Memory (inl (go_on, unwritten ∙ going.wrote))
      by_memory (inr (exchange, answered, unwritten)) =
          ends_behind exchange answered served.Memory (inr (record { others = going.exchanges; exchange = exchange; are = refl; go_on = go_on; wrote = unwritten ∙ going.wrote }))

      ended_by : (c : Came) → Comes turn refusal all front left mid new now next c → IfSome (end_with c count) (λ how. ServesLink turn refusal input left old new before next how)
      ended_by came.Replied it = tt
      ended_by came.Closed (exchange, answered, last, wrote) = ends_behind exchange answered (served.Closed (count + 1)) (
        record { others = going.exchanges; exchange = exchange; are = refl; last = last; open_ones = going.open_ones },
        (front, refl),
        sym (longer exchange),
        wrote_more old mid new going.exchanges going.wrote exchange wrote,
      )
      ended_by came.Wire (reply, unread, wrote, same) =
          ends_here same (served.Wire (count + 1)) (go_on, (reply, unread, omega (arith, going.counted), wrote_behind old mid new going.exchanges going.wrote (reply_text reply) wrote))
      ended_by came.Ended (ended, (unwritten, same)) = ends_here same (served.Ended count) (go_on, ended, sym going.counted, unwritten ∙ going.wrote)
      ended_by came.Cut (cut, (unwritten, same)) = ends_here same (served.Cut count) (go_on, cut, sym going.counted, unwritten ∙ going.wrote)
      ended_by came.ReadFault (waited, (unwritten, same)) = ends_here same served.ReadFault (go_on, waited, unwritten ∙ going.wrote)
      ended_by came.WriteFault it = by_write it
      ended_by came.Memory it = by_memory it

      -- the serving ends with what came
      pub ends_with : (c : Came) → Comes turn refusal all front left mid new now next c → (how : Served) → end_with c count ≡ Some how → ServesLink turn refusal input left old new before next how
      ends_with c comes how e = subst (λ (o : Option Served). IfSome o (λ how. ServesLink turn refusal input left old new before next how)) e (ended_by c comes)
