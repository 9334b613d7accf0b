-- A talk in states: what is answered leads from a state to a state.
use Rattle.dv_desk.proofs.Vocabulary.{Answer, AreSure, Chain, Collision, Differs, DigestFunction, Exchange, HasWidth, Hashes, IsCauseOf, IsIn, IsLeftIn, IsReplied, IsSome, IsSure, Late, LeadsInStates, List, Moment, NoFault, None, OpenOther, Option, Reply, Request, Rose, Routed, Rule, Served}
use Rattle.dv_desk.proofs.Vocabulary.{Serves, ServesOn, Some, StandsAs, State, Store, Talked, TalksIn, TooLong, [], ap, arith, false≢true, hashes_of, refl, refusal, status_of, status_of_rule, subst, sym, ℕ, ◌∙◌, ◌∷◌, ◌≡◌, ◌≤◌}
use Rattle.dv_serving.specs.Serving.{Tells}
use Rattle.dv_desk.specs.declared.answers.Answer.TheVariants as answers

-- what is told of
pub told_of : {A : Type 0} (o : Option A) → IsSome o → (x : A) × (o ≡ Some x)
told_of (Some x) some = (x, refl)
told_of None none = absurd (false≢true none)

stands_as : (hashes : Hashes) (state : State) (moment : Moment) → IsIn hashes state moment.held moment.store → IsSome moment.store → StandsAs moment.held.vault.mapping hashes state moment
stands_as hashes state moment is_in some = by (told_of moment.store some)
  where
    by : (s : Store) × (moment.store ≡ Some s) → StandsAs moment.held.vault.mapping hashes state moment
    by (s, is) = record { store = s; told_is = is; stands = is_in.store_stands s is }

-- what a call leaves, where the store is told, is what an office and its keeper stand for
in_then : (hashes : Hashes) (state : State) (moment : Moment) → IsLeftIn hashes state moment.held moment.store → IsSome moment.store → IsIn hashes state moment.held moment.store
in_then hashes state moment left some = record {
  stands = left.stands;
  told = λ stale. told_of moment.store some;
  store_stands = left.store_stands;
}

module _ (function : DigestFunction) where
  talked : (exchanges : List Exchange) (before after : Moment) → Chain (IsReplied function) exchanges before after → (state : State) → IsIn (hashes_of function) state before.held before.store
      → HasWidth function.width before → IsSome before.store → Talked before.held.vault.mapping (hashes_of function) exchanges state before after
  talked [] before after same state is_in wide some = record {
    state' = state;
    talk = (same, refl, stands_as (hashes_of function) state before is_in some);
    left = subst (λ (m : Moment). IsIn (hashes_of function) state m.held m.store) (sym same) is_in;
  }
  talked (exchange ∷ exchanges) before after (next, replied, chain) state is_in wide some =
      let turn = replied.turn in
      let led = turn.leads state is_in wide in
      let others : Talked next.held.vault.mapping (hashes_of function) exchanges led.state' next after =
      talked exchanges next after chain led.state' (in_then (hashes_of function) led.state' next led.left (turn.told some)) (turn.wide wide) (turn.told some) in
      record {
        state' = others.state';
        talk = (
          next,
          led.state',
          stands_as (hashes_of function) state before is_in some,
          record { answer = replied.answer; says = led.says; reply_is = replied.reply_is },
          subst (λ m. TalksIn m (hashes_of function) exchanges led.state' next others.state' after) turn.same_mapping others.talk,
        );
        left = others.left;
      }

  -- ---- the keeper's faults

  pub chain_later : (exchanges : List Exchange) (before after : Moment) → Chain (IsReplied function) exchanges before after → before.faults ≤ after.faults
  chain_later [] before after same = subst (λ (m : Moment). before.faults ≤ m.faults) (sym same) (omega arith)
  chain_later (exchange ∷ exchanges) before after (next, replied, chain) = omega (arith, replied.turn.later, chain_later exchanges next after chain)

  pub rose_within : (first before now last : ℕ) → first ≤ before → now ≤ last → Rose before now → Rose first last
  rose_within first before now last less more rose = omega (arith, less, more, rose)

  sure_rule : (rule : Rule) → status_of_rule rule ≡ 503 → ⊥
  sure_rule (Late last) is = omega (arith, is)
  sure_rule (OpenOther load) is = omega (arith, is)
  sure_rule (Differs load) is = omega (arith, is)
  sure_rule (Collision table first second) is = omega (arith, is)
  sure_rule (TooLong feed) is = omega (arith, is)
  sure_rule rule is = omega (arith, is)

  sure_answer : (asked : Routed) (before after : Moment) (answer : Answer) → IsCauseOf function asked before after answer → NoFault before.faults after.faults → status_of answer ≡ 503 → ⊥
  sure_answer asked before after answers.Keeper rose quiet is = quiet rose
  sure_answer asked before after (answers.Broken rule) cause quiet is = sure_rule rule is
  sure_answer asked before after answer cause quiet is = omega (arith, is)

  sure_reply : (before after : Moment) (request : Request) (reply : Reply) → IsReplied function before request reply after → NoFault before.faults after.faults → IsSure reply
  sure_reply before after request reply replied quiet = λ is. sure_answer _ before after replied.answer replied.turn.cause quiet (sym (ap (λ (r : Reply). r.status) replied.reply_is) ∙ is)

  sure : (exchanges : List Exchange) (before after : Moment) → Chain (IsReplied function) exchanges before after → NoFault before.faults after.faults → AreSure exchanges
  sure [] before after chain quiet = tt
  sure (exchange ∷ exchanges) before after (next, replied, chain) quiet =
      let later = chain_later exchanges next after chain in (
        sure_reply before next exchange.request exchange.reply replied (λ rose. quiet (rose_within before.faults before.faults next.faults after.faults (omega arith) later rose)),
        sure exchanges next after chain (λ rose. quiet (rose_within before.faults next.faults after.faults after.faults replied.turn.later (omega arith) rose)),
      )

  -- whatever requests are answered, that leads through states
  pub leads_in_states : LeadsInStates function
  leads_in_states exchanges before after chain = record { in_states = talked exchanges before after chain; sure = sure exchanges before after chain }

-- a connection that was served leads through states
pub serves_in_states : {L : Type 0} (function : DigestFunction) (tells : Tells L) (line back : L) (before after : Moment) (how : Served) → ServesOn (IsReplied function) refusal tells line back before after how
    → Serves function tells line back before after how
serves_in_states function tells line back before after how served = record { served = served; states = leads_in_states function served.exchanges before after served.chain }
