-- What comes of a load, and of the completion of the open window.
use Rattle.dv_app.proofs.Vocabulary.{Arrival, ArrivalStep, Arrived, Arrives, Bool, Brings, Broken, Brought, CompletesTo, Damage, DigestFunction, Does, Ending, Err, Gave, Hashes, Held, IsBrought, IsIn, IsOpen, IsStep, LeavesStill, List, Load, LoadAnswer, LoadBroke, LoadStep, Mapping, NamedFile}
use Rattle.dv_app.proofs.Vocabulary.{None, NothingOpen, Ok, Opening, Option, Places, Reply, Result, Resume, ResumeAnswer, ResumeStep, Rose, Rule, Seen, Some, StaleAfter, StaleThen, StandsAt, StandsForWhole, State, Stays, StepsTo, Store, Tells, Told, WindowIn, Works, [], ap, append-nil, arith}
use Rattle.dv_app.proofs.Vocabulary.{arrival, arrival_of, false, hashes_of, inl, inr, load_said, outcome, refl, refusal_text, resume_said, rose_later, said_of, subst, sym, true, window_line, ℕ, ◌∙◌, ◌≡◌, ◌≤◌, ◌⊎◌}
use Rattle.dv_window.specs.Offices.{LeavesStore}
use Rattle.dv_given.specs.Tried.{Absent}
use Rattle.dv_app.proofs.OpenSteps.{Facts, left_stands, memory_left, opened_does, steps_come}
use Rattle.dv_app.proofs.WorkSteps.{done_sound, keeper_cause, keeper_sound, memory_cause, memory_sound, read_fault_sound, refused_sound}
use Rattle.dv_records.specs.declared.answers.LoadAnswer.TheVariants as load
use Rattle.dv_records.specs.declared.answers.Outcome.TheVariants as outcomes
use Rattle.dv_records.specs.declared.answers.ResumeAnswer.TheVariants as resume
use Rattle.dv_given.specs.declared.endings.Ending.TheVariants as endings

-- ---- the completion of the open window

resume_facts : (at : Places) (answer : ResumeAnswer) → LeavesStill answer at.keeper.old at.keeper.new → (is : Bool) → StaleThen answer false is → (answer ≡ resume.KeeperFault → Rose at.keeper.before at.keeper.now)
    → Facts Resume at (resume_said answer)
resume_facts at (resume.Loaded rows) left is stale rose = record { cause = tt; leaves = inr (inl (rows, refl)); sound = done_sound }
resume_facts at resume.NothingOpen left is stale rose = record { cause = inl (NothingOpen, ([], refl)); leaves = inl left; sound = refused_sound }
resume_facts at (resume.Damaged damage) left is stale rose = let no : false ≡ true = stale.0 in cc
resume_facts at resume.KeeperFault left is stale rose = record { cause = keeper_cause at (rose refl); leaves = inr (inr (inl refl)); sound = keeper_sound }
resume_facts at resume.Memory left is stale rose = record { cause = memory_cause at; leaves = inr (inr (inr refl)); sound = memory_sound }

module _ (function : DigestFunction) (at : Places) (kept : at.folder.new ≡ at.folder.old) (same : at.folder.now ≡ at.folder.before) (office : Held) (mid : Option Store) (between : ℕ)
    (opening : Opening function (record { old = at.keeper.old; new = mid; before = at.keeper.before; now = between }) (Ok office)) where
  pub resume_works : (answer : ResumeAnswer) (held : Held) → ((state : State) → IsIn (hashes_of function) state office mid → CompletesTo office.vault.mapping (hashes_of function) state answer held at.keeper.new)
      → held.vault.mapping ≡ office.vault.mapping → LeavesStill answer mid at.keeper.new → StaleThen answer office.stale held.stale → (answer ≡ resume.KeeperFault → Rose between at.keeper.now) → between ≤ at.keeper.now
      → (result : Result Reply Ending) → Tells (resume_said answer) result → Works Resume function at result
  resume_works answer held completes mapped left stale rose later result tells = record {
    comes = steps_come Resume tt function at office opening.opens (ResumeStep office.vault.mapping (hashes_of function)) resume_said answer (λ store said so. so)
        (λ state is_in. let to : CompletesTo office.vault.mapping (hashes_of function) state answer held at.keeper.new = completes state (subst (IsIn (hashes_of function) state office) (sym opening.left) is_in) in
        (to.0, to.1, left_stands office.vault.mapping (hashes_of function) to.0 held at.keeper.new mapped to.2))
        (resume_facts at answer (subst (λ m. LeavesStill answer m at.keeper.new) opening.left left) held.stale (subst (λ was. StaleThen answer was held.stale) opening.opens.fresh stale)
        (λ is. rose_later at.keeper.before between at.keeper.now opening.later (rose is)))
        (inr (inr (inr refl))) result tells;
    later = record { kept = kept; folder = omega (arith, same); keeper = omega (arith, opening.later, later) };
  }

-- ---- a load of what is read of a manifest's files is that of the whole files

module _ (mapping : Mapping) (hashes : Hashes) (state : State) (given whole : WindowIn) (stands : StandsForWhole given whole) where
  whole_loads : outcome mapping hashes state given ≡ outcomes.Load → given ≡ whole
  whole_loads loads = stands.same mapping hashes state (sym (stands.outcome_is mapping hashes state) ∙ loads)

  broke_whole : (state' : State) → LoadBroke mapping hashes state given state' → LoadBroke mapping hashes state whole state'
  broke_whole state' (inl is) = inl is
  broke_whole state' (inr opens) = subst (λ window. LoadBroke mapping hashes state window state') (whole_loads opens.0) (inr opens)

  step_whole : (answer : LoadAnswer) (state' : State) → LoadStep mapping hashes state given answer state' → LoadStep mapping hashes state whole answer state'
  step_whole (load.Loaded rows) state' step = subst (λ window. LoadStep mapping hashes state window (load.Loaded rows) state') (whole_loads step.0) step
  step_whole load.Repeated state' (is, same) = (sym (stands.outcome_is mapping hashes state) ∙ is, same)
  step_whole (load.Refused rule) state' (is, same) = (sym (stands.outcome_is mapping hashes state) ∙ is, same)
  step_whole (load.Damaged damage) state' same = same
  step_whole load.KeeperFault state' broke = broke_whole state' broke
  step_whole load.Memory state' broke = broke_whole state' broke

-- what a manifest brings: what the folder tells, of which the code has as much as it needs; or, where it tells nothing, what the code has
abbrev IsAsGood : Arrived → Arrival → Type 0
IsAsGood came whole = Brings whole came ⊎ (whole ≡ arrival_of came)

whole_brought : (told : Option (List NamedFile)) (name : List ℕ) (came : Arrived) → Told told (λ files. Brings (arrival files name) came) → (whole : Arrival) × IsBrought told name whole × IsAsGood came whole
whole_brought None name came brings = (arrival_of came, (λ files e. let no : None ≡ Some files = e in cc), inr refl)
whole_brought (Some files) name came brings = (arrival files name, (λ others e. ap (λ f. arrival f name) (same e)), inl (brings files refl))
  where
    same : {others : List NamedFile} → Some files ≡ Some others → files ≡ others
    same e = cc

good_step : (mapping : Mapping) (hashes : Hashes) (state : State) (came : Arrived) (whole : Arrival) → IsAsGood came whole → (answer : LoadAnswer) (state' : State)
    → ArrivalStep mapping hashes state (arrival_of came) answer state' → ArrivalStep mapping hashes state whole answer state'
good_step mapping hashes state came whole (inr same) answer state' step = subst (λ a. ArrivalStep mapping hashes state a answer state') (sym same) step
good_step mapping hashes state came (Absent file) (inl none) answer state' step = absurd none
good_step mapping hashes state came (Broken rule) (inl is) answer state' step = subst (λ c. ArrivalStep mapping hashes state (arrival_of c) answer state') is step
good_step mapping hashes state came (Brought whole) (inl (given, is, stands)) answer state' step =
    step_whole mapping hashes state given whole stands answer state' (subst (λ c. ArrivalStep mapping hashes state (arrival_of c) answer state') is step)

-- ---- a load

load_facts : (name : List ℕ) (at : Places) (answer : LoadAnswer) → LeavesStore answer at.keeper.old at.keeper.new → ((damage : Damage) → answer ≡ load.Damaged damage → ⊥)
    → (answer ≡ load.KeeperFault → Rose at.keeper.before at.keeper.now) → Facts (Load name) at (load_said name answer)
load_facts name at (load.Loaded rows) left undamaged rose = record { cause = tt; leaves = inr (inl (rows, refl)); sound = done_sound }
load_facts name at load.Repeated left undamaged rose = record { cause = tt; leaves = inl left; sound = done_sound }
load_facts name at (load.Refused rule) left undamaged rose =
    record { cause = inr ([], name, rule, [], sym (append-nil (window_line name (refusal_text rule)))); leaves = inl left; sound = refused_sound }
load_facts name at (load.Damaged damage) left undamaged rose = absurd (undamaged damage refl)
load_facts name at load.KeeperFault left undamaged rose = record { cause = keeper_cause at (rose refl); leaves = inr (inr (inl refl)); sound = keeper_sound }
load_facts name at load.Memory left undamaged rose = record { cause = memory_cause at; leaves = inr (inr (inr refl)); sound = memory_sound }

module _ (name : List ℕ) (function : DigestFunction) (at : Places) (office : Held) where
  -- the manifest brings nothing
  unbrought_does : IsOpen function at.keeper.old office → Stays at → (ending : Ending) → Arrives name at.folder (Err ending) → Does (Load name) function at (said_of ending)
  unbrought_does is_open left (endings.Absent file) reads = opened_does (Load name) tt function at office is_open (said_of (endings.Absent file))
      (λ store e. inr (Absent file, (λ files t. sym (reads.ends files t)), λ state stands. inl (file, refl, refl))) (record { cause = (file, inl ([], refl)); leaves = inl left; sound = read_fault_sound })
  unbrought_does is_open left (endings.Unread file) reads = opened_does (Load name) tt function at office is_open (said_of (endings.Unread file))
      (λ store e. inl (file, reads.ends, reads.cause, refl)) (record { cause = (file, inr (([], refl), reads.cause)); leaves = inl left; sound = read_fault_sound })
  unbrought_does is_open left endings.Memory reads = memory_left (Load name) tt function at left
  unbrought_does is_open left ending reads = absurd reads.cause

  pub unbrought_works : Opening function at.keeper (Ok office) → (ending : Ending) → Arrives name at.folder (Err ending) → Works (Load name) function at (Err ending)
  unbrought_works opening ending reads = record {
    comes = (unbrought_does opening.opens opening.left ending reads, memory_left (Load name) tt function at opening.left);
    later = record { kept = reads.kept; folder = reads.later; keeper = opening.later };
  }

  -- what it brings is given to the office
  module _ (mid : Option Store) (between : ℕ) (opening : Opening function (record { old = at.keeper.old; new = mid; before = at.keeper.before; now = between }) (Ok office))
      (came : Arrived) (reads : Arrives name at.folder (Ok came)) (answer : LoadAnswer)
      (gave : Gave (hashes_of function) office (arrival_of came) (record { old = mid; new = at.keeper.new; before = between; now = at.keeper.now }) answer) where
    whole : (arrival : Arrival) × IsBrought at.folder.old name arrival × IsAsGood came arrival
    whole = whole_brought at.folder.old name came reads.ok

    pub load_works : (result : Result Reply Ending) → Tells (load_said name answer) result → Works (Load name) function at result
    load_works result tells = record {
      comes = steps_come (Load name) tt function at office opening.opens (λ state. ArrivalStep office.vault.mapping (hashes_of function) state whole.0) (load_said name) answer
          (λ store said so. inr (whole.0, whole.1, λ state stands. inr (so state stands)))
          (λ state is_in. let is : IsStep office.vault.mapping (hashes_of function) state (arrival_of came) (record { old = mid; new = at.keeper.new; before = between; now = at.keeper.now }) answer =
          gave.steps state (subst (IsIn (hashes_of function) state office) (sym opening.left) is_in) in
          (is.state', good_step office.vault.mapping (hashes_of function) state came whole.0 whole.2 answer is.state' is.step, is.stands))
          (load_facts name at answer (subst (λ m. LeavesStore answer m at.keeper.new) opening.left gave.leaves) gave.undamaged (λ is. rose_later at.keeper.before between at.keeper.now opening.later (gave.cause is)))
          (inr (inr (inr refl))) result tells;
      later = record { kept = reads.kept; folder = reads.later; keeper = omega (arith, opening.later, gave.later) };
    }

-- a window that is given to the office
pub gave_window : (hashes : Hashes) (office : Held) (given : WindowIn) (keeper : Seen Store) (answer : LoadAnswer) (held : Held) → ((state : State) → IsIn hashes state office keeper.old → StepsTo office.vault.mapping hashes state given answer held keeper.new)
    → held.vault.mapping ≡ office.vault.mapping → LeavesStore answer keeper.old keeper.new → office.stale ≡ false → StaleAfter answer office.stale held.stale → (answer ≡ load.KeeperFault → Rose keeper.before keeper.now) → keeper.before ≤ keeper.now
    → Gave hashes office (Brought given) keeper answer
gave_window hashes office given keeper answer held steps mapped leaves fresh stale rose later = record {
  steps = λ state is_in. let to : StepsTo office.vault.mapping hashes state given answer held keeper.new = steps state is_in in
      record { state' = to.0; step = to.1; stands = left_stands office.vault.mapping hashes to.0 held keeper.new mapped to.2 };
  leaves = leaves;
  undamaged = λ damage is. fresh_undamaged answer (subst (λ was. StaleAfter answer was held.stale) fresh stale) damage is;
  cause = rose;
  later = later;
}
  where
    fresh_undamaged : (a : LoadAnswer) → StaleAfter a false held.stale → (damage : Damage) → a ≡ load.Damaged damage → ⊥
    fresh_undamaged (load.Loaded rows) so damage is = cc
    fresh_undamaged load.Repeated so damage is = cc
    fresh_undamaged (load.Refused rule) so damage is = cc
    fresh_undamaged (load.Damaged other) so damage is = let no : false ≡ true = so.0 in cc
    fresh_undamaged load.KeeperFault so damage is = cc
    fresh_undamaged load.Memory so damage is = cc

-- a manifest that breaks a rule is not given to it
pub gave_rule : (hashes : Hashes) (office : Held) (rule : Rule) (keeper : Seen Store) → keeper.new ≡ keeper.old → keeper.now ≡ keeper.before → Gave hashes office (Broken rule) keeper (load.Refused rule)
gave_rule hashes office rule keeper left same = record {
  steps = λ state is_in. record { state' = state; step = (refl, refl); stands = subst (StandsAt office.vault.mapping hashes state) (sym left) is_in.store_stands };
  leaves = left;
  undamaged = λ damage is. let no : load.Refused rule ≡ load.Damaged damage = is in cc;
  cause = λ is. absurd (let no : load.Refused rule ≡ load.KeeperFault = is in cc);
  later = omega (arith, same);
}
