-- Serving leads from states to states.
use Rattle.dv_desk.proofs.Vocabulary.{Chain, DigestFunction, Exchange, HasWidth, Hashes, IsIn, IsReplied, IsSome, Lines, List, Moment, Option, Seen, ServedDoors, ServesEach, ServesWith, Some, Stands, StandsThen, Started, State, Status, Store, Tells, [], hashes_of, refl, refusal, subst, sym, ℕ}
use Rattle.dv_desk.proofs.Vocabulary.{◌∙◌, ◌∷◌, ◌≡◌, ◌≤◌}
use Rattle.dv_desk.proofs.Talked.{leads_in_states, told_of}

-- what stays from one moment to another
pub record Keeps (function : DigestFunction) (before after : Moment) : Type 0 where
  pub mapping : after.held.vault.mapping ≡ before.held.vault.mapping
  pub wide : HasWidth function.width before → HasWidth function.width after
  pub told : IsSome before.store → IsSome after.store

chain_keeps : (function : DigestFunction) (exchanges : List Exchange) (before after : Moment) → Chain (IsReplied function) exchanges before after → Keeps function before after
chain_keeps function [] before after same = subst (Keeps function before) (sym same) (record { mapping = refl; wide = λ w. w; told = λ t. t })
chain_keeps function (exchange ∷ exchanges) before after (next, replied, chain) =
    let others = chain_keeps function exchanges next after chain in
    record {
      mapping = others.mapping ∙ replied.turn.same_mapping;
      wide = λ w. others.wide (replied.turn.wide w);
      told = λ t. others.told (replied.turn.told t);
    }

-- a state that an office and its keeper stand for, by a mapping, where the store is told
pub record Reached (hashes : Hashes) (before after : Moment) : Type 0 where
  pub state : State
  pub is_in : IsIn hashes state after.held after.store
  pub mapping : after.held.vault.mapping ≡ before.held.vault.mapping
  pub told : IsSome after.store

each_leads : {L : Type 0} (function : DigestFunction) (tells : Tells L) (lines backs : List L) (before after : Moment) → ServesEach (IsReplied function) refusal tells lines backs before after
    → (state : State) → IsIn (hashes_of function) state before.held before.store → HasWidth function.width before → IsSome before.store → Reached (hashes_of function) before after
each_leads function tells [] [] before after same state is_in wide some =
    subst (Reached (hashes_of function) before) (sym same) (record { state = state; is_in = is_in; mapping = refl; told = some })
each_leads function tells (line ∷ lines) (back ∷ backs) before after (next, how, line_served, each) state is_in wide some =
    let serves = line_served.serves in
    let talked = (leads_in_states function serves.exchanges before next serves.chain).in_states state is_in wide some in
    let keeps = chain_keeps function serves.exchanges before next serves.chain in
    let others = each_leads function tells lines backs next after each talked.state' talked.left (keeps.wide wide) (keeps.told some) in
    record { state = others.state; is_in = others.is_in; mapping = others.mapping ∙ keeps.mapping; told = others.told }
each_leads function tells [] (back ∷ backs) before after none state is_in wide some = absurd none
each_leads function tells (line ∷ lines) [] before after none state is_in wide some = absurd none

module _ (function : DigestFunction) (store : Option Store) (began : Moment) (started : Started function store began) where
  began_in : (state : State) (s : Store) → store ≡ Some s → Stands began.held.vault.mapping (hashes_of function) state s → IsIn (hashes_of function) state began.held began.store
  began_in state s told stands = record {
    stands = λ fresh. started.stands state s told stands;
    told = λ stale. (s, began_told);
    store_stands = λ s' is. subst (Stands began.held.vault.mapping (hashes_of function) state) (same s' (sym began_told ∙ is)) stands;
  }
    where
      began_told : began.store ≡ Some s
      began_told = started.store_is ∙ told

      same : (s' : Store) → Some s ≡ Some s' → s ≡ s'
      same s' e = cc

  reached : (after : Moment) → Reached (hashes_of function) began after → StandsThen began.held.vault.mapping (hashes_of function) after.store
  reached after r = by (told_of after.store r.told)
    where
      by : (s' : Store) × (after.store ≡ Some s') → StandsThen began.held.vault.mapping (hashes_of function) after.store
      by (s', is) = (r.state, s', is, subst (λ m. Stands m (hashes_of function) r.state s') r.mapping (r.is_in.store_stands s' is))

  -- the store stands for a state when all connections were served
  pub served_leads : {L : Type 0} (tells : Tells L) (lines backs : List L) (after : Moment) → ServesEach (IsReplied function) refusal tells lines backs began after
      → (state : State) (s : Store) → store ≡ Some s → Stands began.held.vault.mapping (hashes_of function) state s → StandsThen began.held.vault.mapping (hashes_of function) after.store
  served_leads tells lines backs after each state s told stands =
      reached after (each_leads function tells lines backs began after each state (began_in state s told stands) (λ fresh. started.width_is) (subst IsSome (sym (started.store_is ∙ told)) refl))

-- an office was started, and connections were served with it
pub served_doors : {L : Type 0} (function : DigestFunction) (tells : Tells L) (old new : Option (Lines L)) (before now : ℕ) (kept : Seen Store) (err : Seen (List ℕ)) (result : Status) (began after : Moment)
    → Started function kept.old began → kept.new ≡ after.store → kept.before ≤ began.faults → kept.now ≡ after.faults → ServesWith function tells old new before now began after err result
    → ServedDoors function tells old new kept err result
served_doors function tells old new before now kept err result began after started is less now_is with = record {
  began = began;
  after = after;
  started = started;
  store = is;
  faults = (less, now_is);
  ended = with.ended;
  serves = with.serves;
  in_states = leads_in_states function;
  leads = λ state s told stands. subst (StandsThen began.held.vault.mapping (hashes_of function)) (sym is) (served_leads function kept.old began started tells with.serves.lines with.serves.backs after with.serves.each state s told stands);
  ends = with.ends;
}
