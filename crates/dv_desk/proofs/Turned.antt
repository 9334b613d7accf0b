-- How a request that was answered is a turn.
use Rattle.dv_desk.proofs.Vocabulary.{AgreesUnlessStale, Allowed, Answer, Answered, Bool, Came, CanReply, Damage, DigestFunction, Err, Faulty, Given, HasWidth, Hashes, Held, IsAllowed, IsAskedFor, IsCauseOf, IsDamageFor, IsDamageIn, IsIn, IsLeftIn, IsNamed, IsReadAs, IsReadCause, Routed}
use Rattle.dv_desk.proofs.Vocabulary.{IsReplied, IsSome, IsSound, IsStoredDamage, IsStoredFor, IsThere, Leads, Leaves, LeavesOffice, LeavesStore, List, Load, LoadAnswer, LoadLeaves, LoadOffice, Manifest, Mapping, MayBe, Moment, NotAllowed, NotFound, NotJson, Ok, Option, PostSays, Posted, Query}
use Rattle.dv_desk.proofs.Vocabulary.{Read, ReadOffice, Refreshed, RepliedTo, Reply, Request, Result, Rose, Said, Says, StaleAfter, StaleBy, State, StepsTo, Store, StoreBy, StoreFault, Told, WindowIn, answer_of, ap, arith, asked, came_of, false, false≢true, hashes_of, inl, inr, made_stale}
use Rattle.dv_desk.proofs.Vocabulary.{posted, refl, reply_of, reply_text, subst, sym, true, unrefreshed, ℕ, ◌∙◌, ◌≡◌, ◌≤◌, ◌⊎◌}
use Rattle.dv_records.specs.declared.answers.LoadAnswer.TheVariants as load
use Rattle.dv_serving.specs.declared.steps.Came.TheVariants as came
use Rattle.dv_restore.specs.declared.faults.StoreFault.TheVariants as faults
use Rattle.dv_desk.specs.declared.answers.Answer.TheVariants as answers

-- ---- what leaves the store

-- the store is as it was, and so is the office, or it is stale
pub record Stayed (before after : Moment) : Type 0 where
  pub held : (after.held ≡ before.held) ⊎ (after.held ≡ made_stale before.held)
  pub store : after.store ≡ before.store
  pub later : before.faults ≤ after.faults

pub unmoved : (moment : Moment) → Stayed moment moment
unmoved moment = record { held = inl refl; store = refl; later = omega arith }

-- what holds of an office and of the same one that is stale
staying : (P : Held → Type 0) (before after : Moment) → Stayed before after → P before.held → P (made_stale before.held) → P after.held
staying P before after stayed same stale = by stayed.held
  where
    by : (after.held ≡ before.held) ⊎ (after.held ≡ made_stale before.held) → P after.held
    by (inl is) = subst P (sym is) same
    by (inr is) = subst P (sym is) stale

module _ (function : DigestFunction) (asked : Routed) (answer : Answer) (before after : Moment) (stayed : Stayed before after) where
  left : (state : State) → IsIn (hashes_of function) state before.held before.store → IsLeftIn (hashes_of function) state after.held after.store
  left state is_in = staying (λ h. IsLeftIn (hashes_of function) state h after.store) before after stayed
      (record { stands = is_in.stands; store_stands = λ s told. is_in.store_stands s (sym stayed.store ∙ told) })
      (record { stands = λ fresh. absurd (false≢true (sym fresh)); store_stands = λ s told. is_in.store_stands s (sym stayed.store ∙ told) })

  -- this is answered, and the state is as it was
  pub stays_answered : CanReply before
      → ((state : State) → IsIn (hashes_of function) state before.held before.store → HasWidth function.width before → Says before.held.vault.mapping (hashes_of function) state before.store after.store asked answer state)
      → IsCauseOf function asked before after answer → IsAskedFor asked answer → Leaves asked answer before after → Answered function asked answer before after
  stays_answered agrees says cause asked_for leaves = record {
    turn = record {
      leads = λ state is_in wide. record { state' = state; says = says state is_in wide; left = left state is_in };
      cause = cause;
      asked_for = asked_for;
      leaves = leaves;
      same_mapping = staying (λ h. h.vault.mapping ≡ before.held.vault.mapping) before after stayed refl refl;
      wide = λ w. staying (λ h. h.stale ≡ false → h.width ≡ function.width) before after stayed w (λ f. absurd (false≢true (sym f)));
      told = λ told. subst IsSome (sym stayed.store) told;
      later = stayed.later;
    };
    agrees = staying (λ h. AgreesUnlessStale h after.store) before after stayed (subst (AgreesUnlessStale before.held) (sym stayed.store) agrees) (λ f. absurd (false≢true (sym f)));
  }

-- ---- what is no route

pub nowhere_answered : (function : DigestFunction) (moment : Moment) → CanReply moment → Answered function NotFound answers.NotFound moment moment
nowhere_answered function moment agrees =
    stays_answered function NotFound answers.NotFound moment moment (unmoved moment) agrees (λ state is_in wide. (refl, (refl, refl))) tt refl refl

pub not_allowed_answered : (function : DigestFunction) (methods : Allowed) (moment : Moment) → CanReply moment → Answered function (NotAllowed methods) (answers.NotAllowed methods) moment moment
not_allowed_answered function methods moment agrees =
    stays_answered function (NotAllowed methods) (answers.NotAllowed methods) moment moment (unmoved moment) agrees (λ state is_in wide. (refl, (refl, refl))) tt refl refl

-- ---- what is only read

read_held : (answer : Answer) (held held' : Held) → ReadOffice answer held held' → (held' ≡ held) ⊎ (held' ≡ made_stale held)
read_held answers.Keeper held held' is = inr is
read_held answer held held' is = inl is

read_stale : (answer : Answer) (held held' : Held) → held.stale ≡ false → ReadOffice answer held held' → StaleBy answer held.stale held'.stale
read_stale answers.Keeper held held' fresh is = ap (λ h. h.stale) is
read_stale (answers.Damaged damage) held held' fresh is = λ stale. sym (ap (λ (h : Held). h.stale) is) ∙ stale
read_stale answers.Memory held held' fresh is = λ stale. sym (ap (λ (h : Held). h.stale) is) ∙ stale
read_stale answer held held' fresh is = ap (λ (h : Held). h.stale) is ∙ fresh

module _ (function : DigestFunction) (query : Query) (before after : Moment) where
  read_allowed : (answer : Answer) → IsReadCause (IsStoredFor before.held.vault.mapping (Read query)) before after answer → IsAllowed answer
  read_allowed (answers.NotAllowed methods) none = absurd none
  read_allowed answer cause = tt

  read_cause : (answer : Answer) → ReadOffice answer before.held after.held → IsReadCause (IsStoredFor before.held.vault.mapping (Read query)) before after answer → IsCauseOf function (Read query) before after answer
  read_cause answers.Keeper office rose = rose
  read_cause (answers.Damaged damage) office (id, at, is_for, is, row) =
      (λ s told. inr (id, at, is_for, subst (λ (h : Held). IsStoredDamage h id at s.snapshots damage) (sym office) (is s told)), inr (id, at, is_for, row))
  read_cause answer office cause = tt

  pub read_answered : (answer : Answer) → before.held.stale ≡ false → CanReply before → IsReadAs query answer before after → Answered function (Read query) answer before after
  read_answered answer fresh agrees read =
      stays_answered function (Read query) answer before after (record { held = read_held answer before.held after.held read.office; store = read.store; later = read.later }) agrees
      (λ state is_in wide. ((λ s told. read.due_is function state s told (subst (IsIn (hashes_of function) state before.held) told is_in) (wide fresh)), (refl, read.store)))
      (read_cause answer read.office read.cause) (read_allowed answer read.cause)
      (record { stale = read_stale answer before.held after.held fresh read.office; store = read.store; office = λ f. read.office })

-- ---- the want of memory, and a keeper that failed

-- an answer that may come of any request
abbrev IsBroken : Answer → Type 0
IsBroken answer = (answer ≡ answers.Keeper) ⊎ (answer ≡ answers.Memory)

module _ (mapping : Mapping) (hashes : Hashes) (state : State) (before after : Option Store) (same : after ≡ before) (answer : Answer) where
  given_broken : (given : WindowIn) → IsBroken answer → PostSays mapping hashes state before after (Given given) answer state
  given_broken given (inl keeper) = record { came = load.KeeperFault; answer_is = keeper; sound = tt; step = inl refl; store = tt }
  given_broken given (inr memory) = record { came = load.Memory; answer_is = memory; sound = tt; step = inl refl; store = tt }

  post_broken : (found : Posted) → IsBroken answer → PostSays mapping hashes state before after found answer state
  post_broken NotJson broken = (inr broken, (refl, same))
  post_broken (Faulty place) broken = (inr broken, (refl, same))
  post_broken (Given given) broken = given_broken given broken

  says_broken : (asked : Routed) → IsThere asked → IsBroken answer → Says mapping hashes state before after asked answer state
  says_broken (Load body) is broken = post_broken (posted body) broken
  says_broken (Read query) is broken = ((λ s told. inr broken), (refl, same))
  says_broken asked none broken = absurd none

asked_there : (asked : Routed) (answer : Answer) → IsThere asked → IsAllowed answer → IsAskedFor asked answer
asked_there (Load body) answer is allowed = allowed
asked_there (Read query) answer is allowed = allowed
asked_there asked answer none allowed = absurd none

-- ---- an office that could not be refreshed

no_success : (result : Result (Unit {0}) StoreFault) (fault : StoreFault) → result ≡ Err fault → result ≡ Ok tt → ⊥
no_success (Ok other) fault failed is = cc
no_success (Err other) fault failed is = cc

-- such an office was stale
pub was_stale : (held : Held) (result : Result (Unit {0}) StoreFault) (fault : StoreFault) → result ≡ Err fault → (held.stale ≡ false → result ≡ Ok tt) → held.stale ≡ true
was_stale held result fault failed still = by held.stale refl
  where
    by : (stale : Bool) → held.stale ≡ stale → held.stale ≡ true
    by true is = is
    by false is = absurd (no_success result fault failed (still is))

module _ (function : DigestFunction) (before after : Moment) (stale : before.held.stale ≡ true) (kept : after.held ≡ before.held) (same : after.store ≡ before.store) (later : before.faults ≤ after.faults) where
  -- what a fault tells
  pub record IsUnrefreshed (fault : StoreFault) : Type 0 where
    pub rose : fault ≡ faults.KeeperFault → Rose before.faults after.faults
    pub damaged : (damage : Damage) → fault ≡ faults.Damaged damage
        → Told before.store (λ s. IsDamageFor before.held.vault.mapping (hashes_of function) function.width s damage) × IsNamed before.held.vault.mapping damage
    pub undamaged : (damage : Damage) → fault ≡ faults.Damaged damage → (state : State) → IsIn (hashes_of function) state before.held before.store → ⊥

  still_stale : after.held.stale ≡ true
  still_stale = ap (λ (h : Held). h.stale) kept ∙ stale

  broken_leaves : (asked : Routed) (answer : Answer) → IsThere asked → StaleBy answer before.held.stale after.held.stale → StoreBy answer before.store after.store → Leaves asked answer before after
  broken_leaves (Load body) answer is then store = record { stale = then; store = store; office = λ fresh. absurd (false≢true (sym fresh ∙ stale)) }
  broken_leaves (Read query) answer is then store = record { stale = then; store = same; office = λ fresh. absurd (false≢true (sym fresh ∙ stale)) }
  broken_leaves asked answer none then store = absurd none

  stays : Stayed before after
  stays = record { held = inl kept; store = same; later = later }

  pub unrefreshed_answered : (fault : StoreFault) → IsUnrefreshed fault → CanReply before → (asked : Routed) → IsThere asked → Answered function asked (unrefreshed fault) before after
  unrefreshed_answered (faults.Damaged damage) told agrees asked is =
      let found = told.damaged damage refl in
      stays_answered function asked (answers.Damaged damage) before after stays agrees (λ state is_in wide. absurd (told.undamaged damage refl state is_in))
      ((λ s t. inl (stale, found.0 s t)), inl found.1) (asked_there asked (answers.Damaged damage) is tt) (broken_leaves asked (answers.Damaged damage) is (λ s. stale) same)
  unrefreshed_answered faults.KeeperFault told agrees asked is =
      stays_answered function asked answers.Keeper before after stays agrees
      (λ state is_in wide. says_broken before.held.vault.mapping (hashes_of function) state before.store after.store same answers.Keeper asked is (inl refl))
      (told.rose refl) (asked_there asked answers.Keeper is tt) (broken_leaves asked answers.Keeper is still_stale tt)
  unrefreshed_answered faults.Memory told agrees asked is =
      stays_answered function asked answers.Memory before after stays agrees
      (λ state is_in wide. says_broken before.held.vault.mapping (hashes_of function) state before.store after.store same answers.Memory asked is (inr refl))
      tt (asked_there asked answers.Memory is tt) (broken_leaves asked answers.Memory is (λ s. stale) tt)

-- ---- a window that is to be loaded

module _ (function : DigestFunction) (body : List ℕ) (moment : Moment) (fresh : moment.held.stale ≡ false) (agrees : CanReply moment) where
  -- a body that is no window
  unposted : (found : Posted) (answer : Answer) → posted body ≡ found
      → ((state : State) → PostSays moment.held.vault.mapping (hashes_of function) state moment.store moment.store found answer state)
      → IsCauseOf function (Load body) moment moment answer → IsAllowed answer → LoadLeaves answer moment moment → Answered function (Load body) answer moment moment
  unposted found answer is says cause allowed leaves =
      stays_answered function (Load body) answer moment moment (unmoved moment) agrees
      (λ state is_in wide. subst (λ f. PostSays moment.held.vault.mapping (hashes_of function) state moment.store moment.store f answer state) (sym is) (says state)) cause allowed leaves

  pub not_json_answered : posted body ≡ NotJson → Answered function (Load body) answers.BadRequest moment moment
  not_json_answered is = unposted NotJson answers.BadRequest is (λ state. (inl refl, (refl, refl))) tt tt (record { stale = fresh; store = refl; office = λ f. refl })

  pub faulty_answered : (place : List ℕ) → posted body ≡ Faulty place → Answered function (Load body) (answers.Broken (Manifest place)) moment moment
  faulty_answered place is = unposted (Faulty place) (answers.Broken (Manifest place)) is (λ state. (inl refl, (refl, refl))) tt tt (record { stale = fresh; store = refl; office = λ f. refl })

  pub memory_answered : Answered function (Load body) answers.Memory moment moment
  memory_answered =
      unposted (posted body) answers.Memory refl (λ state. post_broken moment.held.vault.mapping (hashes_of function) state moment.store moment.store refl answers.Memory (posted body) (inr refl))
      tt tt (record { stale = λ s. s; store = tt; office = λ f. tt })

sound_of : (came : LoadAnswer) → ((damage : Damage) → came ≡ load.Damaged damage → ⊥) → IsSound came
sound_of (load.Damaged damage) none = absurd (none damage refl)
sound_of came none = tt

loaded_allowed : (came : LoadAnswer) → IsAllowed (answer_of came)
loaded_allowed (load.Loaded rows) = tt
loaded_allowed load.Repeated = tt
loaded_allowed (load.Refused rule) = tt
loaded_allowed (load.Damaged damage) = tt
loaded_allowed load.KeeperFault = tt
loaded_allowed load.Memory = tt

-- what is left, as the office says it
loaded_leaves : (came : LoadAnswer) (before after : Moment) → StaleAfter came before.held.stale after.held.stale → LeavesStore came before.store after.store → LeavesOffice came before.held after.held
    → LoadLeaves (answer_of came) before after
loaded_leaves (load.Loaded rows) before after stale store office = record { stale = stale; store = tt; office = λ f. tt }
loaded_leaves load.Repeated before after stale store office = record { stale = stale; store = store; office = λ f. office }
loaded_leaves (load.Refused rule) before after stale store office = record { stale = stale; store = store; office = λ f. office }
loaded_leaves (load.Damaged damage) before after stale store office = record { stale = λ e. stale.0; store = store; office = λ f. office }
loaded_leaves load.KeeperFault before after stale store office = record { stale = stale; store = tt; office = λ f. tt }
loaded_leaves load.Memory before after stale store office = record { stale = stale; store = tt; office = λ f. tt }

module _ (function : DigestFunction) (before after : Moment) (came : LoadAnswer) where
  -- what an office says of a window that was given to it
  pub record Gave (given : WindowIn) : Type 0 where
    pub step : (state : State) → IsIn (hashes_of function) state before.held before.store → StepsTo before.held.vault.mapping (hashes_of function) state given came after.held after.store
    pub store : LeavesStore came before.store after.store
    pub office : LeavesOffice came before.held after.held
    pub stale : StaleAfter came before.held.stale after.held.stale
    pub damaged : (damage : Damage) → came ≡ load.Damaged damage → Told before.store (λ s. IsDamageFor before.held.vault.mapping (hashes_of function) function.width s damage)
    pub formed : (damage : Damage) → came ≡ load.Damaged damage → IsNamed before.held.vault.mapping damage
    pub undamaged : (damage : Damage) → came ≡ load.Damaged damage → (state : State) → IsIn (hashes_of function) state before.held before.store → ⊥
    pub cause : came ≡ load.KeeperFault → Rose before.faults after.faults
    pub mapping : after.held.vault.mapping ≡ before.held.vault.mapping
    pub width : after.held.width ≡ before.held.width
    pub told : IsSome before.store → IsSome after.store
    pub later : before.faults ≤ after.faults
    pub agrees : CanReply after

  loaded_cause : (asked : Routed) (given : WindowIn) → Gave given → (c : LoadAnswer) → came ≡ c → StaleAfter c before.held.stale after.held.stale → IsCauseOf function asked before after (answer_of c)
  loaded_cause asked given gave load.KeeperFault is stale = gave.cause is
  loaded_cause asked given gave (load.Damaged damage) is stale = ((λ s told. inl (stale.0, gave.damaged damage is s told)), inl (gave.formed damage is))
  loaded_cause asked given gave (load.Loaded rows) is stale = tt
  loaded_cause asked given gave load.Repeated is stale = tt
  loaded_cause asked given gave (load.Refused rule) is stale = tt
  loaded_cause asked given gave load.Memory is stale = tt

  pub load_answered : (body : List ℕ) (given : WindowIn) → posted body ≡ Given given → before.held.stale ≡ false → Gave given → Answered function (Load body) (answer_of came) before after
  load_answered body given is fresh gave = record {
    turn = record {
      leads = λ state is_in wide. by state is_in (gave.step state is_in);
      cause = loaded_cause (Load body) given gave came refl gave.stale;
      asked_for = loaded_allowed came;
      leaves = loaded_leaves came before after gave.stale gave.store gave.office;
      same_mapping = gave.mapping;
      wide = λ w fresh_then. gave.width ∙ w fresh;
      told = gave.told;
      later = gave.later;
    };
    agrees = gave.agrees;
  }
    where
      by : (state : State) → IsIn (hashes_of function) state before.held before.store → StepsTo before.held.vault.mapping (hashes_of function) state given came after.held after.store
          → Leads (hashes_of function) state before after (Load body) (answer_of came)
      by state is_in (state', steps, left) = record {
        state' = state';
        says = subst (λ found. PostSays before.held.vault.mapping (hashes_of function) state before.store after.store found (answer_of came) state') (sym is)
            (record { came = came; answer_is = refl; sound = sound_of came (λ damage broken. gave.undamaged damage broken state is_in); step = steps; store = gave.store });
        left = left;
      }

-- ---- an answer behind a refresh

module _ (function : DigestFunction) (asked : Routed) (before mid after : Moment) (there : IsThere asked) (refreshed : Refreshed function before mid) where
  mid_wide : HasWidth function.width before → HasWidth function.width mid
  mid_wide wide = by before.held.stale refl
    where
      by : (stale : Bool) → before.held.stale ≡ stale → HasWidth function.width mid
      by false is = λ fresh. ap (λ (h : Held). h.width) (refreshed.still is) ∙ wide is
      by true is = λ fresh. refreshed.width is

  damage_behind : (s : Store) (damage : Damage) → IsDamageIn function asked mid after s damage → IsDamageIn function asked before after s damage
  damage_behind s damage (inl read) = absurd (false≢true (sym refreshed.fresh ∙ read.0))
  damage_behind s damage (inr (id, at, is_for, stored)) = inr (id, at, subst (λ (m : Mapping). IsStoredFor m asked id at) refreshed.mapping is_for, stored)

  cause_behind : (answer : Answer) → IsCauseOf function asked mid after answer → IsCauseOf function asked before after answer
  cause_behind answers.Keeper rose = omega (arith, refreshed.later, rose)
  cause_behind (answers.Damaged damage) is =
      (λ s told. damage_behind s damage (is.0 s (refreshed.store ∙ told)), subst (λ (m : Mapping). MayBe m asked damage) refreshed.mapping is.1)
  cause_behind answer cause = tt

  stale_behind : (answer : Answer) → StaleBy answer mid.held.stale after.held.stale → StaleBy answer before.held.stale after.held.stale
  stale_behind answers.Keeper stale = stale
  stale_behind (answers.Damaged damage) stale = λ is. absurd (false≢true (sym refreshed.fresh ∙ stale is))
  stale_behind answers.Memory stale = λ is. absurd (false≢true (sym refreshed.fresh ∙ stale is))
  stale_behind answer stale = stale

  leads_behind : (answer : Answer) (state : State) → Leads (hashes_of function) state mid after asked answer → Leads (hashes_of function) state before after asked answer
  leads_behind answer state led = record {
    state' = led.state';
    says = subst (λ m. Says m (hashes_of function) state before.store after.store asked answer led.state') refreshed.mapping
        (subst (λ store. Says mid.held.vault.mapping (hashes_of function) state store after.store asked answer led.state') refreshed.store led.says);
    left = led.left;
  }

leaves_behind : (function : DigestFunction) (asked : Routed) (answer : Answer) (before mid after : Moment) → IsThere asked → Refreshed function before mid → Leaves asked answer mid after → Leaves asked answer before after
leaves_behind function (Load body) answer before mid after there refreshed leaves = record {
  stale = stale_behind function (Load body) before mid after there refreshed answer leaves.stale;
  store = subst (λ store. StoreBy answer store after.store) refreshed.store leaves.store;
  office = λ f. subst (λ (h : Held). LoadOffice answer h after.held) (refreshed.still f) (leaves.office refreshed.fresh);
}
leaves_behind function (Read query) answer before mid after there refreshed leaves = record {
  stale = stale_behind function (Read query) before mid after there refreshed answer leaves.stale;
  store = leaves.store ∙ refreshed.store;
  office = λ f. subst (λ (h : Held). ReadOffice answer h after.held) (refreshed.still f) (leaves.office refreshed.fresh);
}
leaves_behind function asked answer before mid after none refreshed leaves = absurd none

pub answered_behind : (function : DigestFunction) (asked : Routed) (answer : Answer) (before mid after : Moment) → IsThere asked → Refreshed function before mid → Answered function asked answer mid after
    → Answered function asked answer before after
answered_behind function asked answer before mid after there refreshed answered =
    let turn = answered.turn in
    record {
      turn = record {
        leads = λ state is_in wide. leads_behind function asked before mid after there refreshed answer state (turn.leads state (refreshed.stands state is_in) (mid_wide function asked before mid after there refreshed wide));
        cause = cause_behind function asked before mid after there refreshed answer turn.cause;
        asked_for = turn.asked_for;
        leaves = leaves_behind function asked answer before mid after there refreshed turn.leaves;
        same_mapping = turn.same_mapping ∙ refreshed.mapping;
        wide = λ w. turn.wide (mid_wide function asked before mid after there refreshed w);
        told = λ told. turn.told (subst IsSome (sym refreshed.store) told);
        later = omega (arith, refreshed.later, turn.later);
      };
      agrees = answered.agrees;
    }

-- ---- a moment that is another one

-- a moment is what it tells
same_moment : (a b : Moment) → a.held ≡ b.held → a.store ≡ b.store → a.faults ≡ b.faults → a ≡ b
same_moment a b held store faults =
    ap (λ (h : Held). record a { held = h }) held ∙ ap (λ (s : Option Store). record a { held = b.held; store = s }) store ∙ ap (λ (n : ℕ). record b { faults = n }) faults

pub at_moment : (P : Moment → Type 0) (a b : Moment) → a.held ≡ b.held → a.store ≡ b.store → a.faults ≡ b.faults → P b → P a
at_moment P a b held store faults is = subst P (sym (same_moment a b held store faults)) is

pub agrees_at : (held held' : Held) (store store' : Option Store) → held ≡ held' → store ≡ store' → AgreesUnlessStale held' store' → AgreesUnlessStale held store
agrees_at held held' store store' same same_store agrees = subst (λ (h : Held). AgreesUnlessStale h store) (sym same) (subst (AgreesUnlessStale held') (sym same_store) agrees)

-- what is asked for in other words is answered too
pub answered_for : (function : DigestFunction) (asked asked' : Routed) (answer : Answer) (before after : Moment) → asked ≡ asked' → Answered function asked answer before after → Answered function asked' answer before after
answered_for function asked asked' answer before after same answered = subst (λ (a : Routed). Answered function a answer before after) same answered

-- ---- the reply

module _ (function : DigestFunction) (request : Request) (answer : Answer) (before after : Moment) (answered : Answered function (asked request) answer before after) where
  -- the reply was made, and written or not
  pub replied : (reply : Reply) → reply ≡ reply_of answer request.last → (old new : Option (List ℕ)) (result : Came) → Said (reply_text reply) old new (came_of request.last) result
      → RepliedTo (IsReplied function) request old new before after result
  replied reply is old new result said = record { reply = reply; turned = record { answer = answer; turn = answered.turn; reply_is = is }; said = said }

  -- there was no memory for it
  pub unsaid : (old : Option (List ℕ)) → RepliedTo (IsReplied function) request old old before after came.Memory
  unsaid old = replied (reply_of answer request.last) refl old old came.Memory (inr (inr (refl, refl)))
