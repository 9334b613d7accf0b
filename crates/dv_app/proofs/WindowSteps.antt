-- How what an office takes is a step of the run.
use Rattle.dv_app.proofs.Vocabulary.{Arrival, Arrived, Bool, Brings, Broken, Brought, HasRefusal, HasRows, Hashes, Held, IsReady, List, LoadAnswer, Loading, Mapping, None, Ok, Outcome, Progress, Rule, StaleAfter, StandsFor, StandsForWhole, State, StepsTo, Taken, TookArrival, TookLine, TookWindow}
use Rattle.dv_app.proofs.Vocabulary.{WindowIn, [], ap, append-nil, append_assoc, arrival_of, false, is_refused, outcome, outcome_of, outcome_text, refl, refusal_text, state_after, step_by, subst, sym, taken_text, true, window_line, with_outcome, with_refusal, ℕ, ◌++◌, ◌||◌, ◌∙◌, ◌≡◌}
use Rattle.dv_given.specs.Tried.{Absent, loaded_text}
use Rattle.dv_given.specs.declared.windows.Taken.TheVariants as taken
use Rattle.dv_records.specs.declared.answers.LoadAnswer.TheVariants as answers
use Rattle.dv_records.specs.declared.answers.Outcome.TheVariants as outcomes

-- ---- a window

-- the office's answer of which this came
abbrev answer_of : Taken → LoadAnswer
answer_of (taken.Loaded rows) = answers.Loaded rows
answer_of taken.Repeated = answers.Repeated
answer_of (taken.Refused rule) = answers.Refused rule

module _ (hashes : Hashes) (given : WindowIn) (held held' : Held) (mapping_is : held'.vault.mapping ≡ held.vault.mapping) (fresh : held'.stale ≡ false) where
  abbrev Steps : LoadAnswer → Type 0
  Steps answer = (state : State) → StandsFor hashes state held → StepsTo held.vault.mapping hashes state given answer held' None

  ready_then : (state state' : State) → state' ≡ state → StandsFor hashes state' held' → IsReady hashes state held'
  ready_then state state' same stands = record { stands = subst (λ (s : State). StandsFor hashes s held') same stands; fresh = fresh }

  by_step : (came_of : Taken) → Steps (answer_of came_of) → TookWindow hashes given held held' came_of
  by_step (taken.Loaded rows) steps state ready =
      let (state', (is_load, same, rows_are), left) = steps state ready.stands in
      record { outcome_is = is_load; rows_are = rows_are; mapping_is = mapping_is; ready = ready_then _ state' same (left.stands fresh) }
  by_step taken.Repeated steps state ready =
      let (state', (is_repeated, same), left) = steps state ready.stands in
      record { outcome_is = is_repeated; rows_are = tt; mapping_is = mapping_is; ready = ready_then _ state' same (left.stands fresh) }
  by_step (taken.Refused rule) steps state ready =
      let (state', (is_refused, same), left) = steps state ready.stands in
      record { outcome_is = is_refused; rows_are = tt; mapping_is = mapping_is; ready = ready_then _ state' same (left.stands fresh) }

-- an office that has answered so is fresh
fresh_after : (came_of : Taken) (was is : Bool) → StaleAfter (answer_of came_of) was is → is ≡ false
fresh_after (taken.Loaded rows) was is stale = stale
fresh_after taken.Repeated was is stale = stale
fresh_after (taken.Refused rule) was is stale = stale

-- what came of a window, by the office's answer
pub window_taken : (hashes : Hashes) (given : WindowIn) (held held' : Held) (answer : LoadAnswer) (came_of : Taken) → answer ≡ answer_of came_of → held'.vault.mapping ≡ held.vault.mapping
    → StaleAfter answer held.stale held'.stale
    → (held.stale ≡ false → (state : State) → StandsFor hashes state held → StepsTo held.vault.mapping hashes state given answer held' None) → TookWindow hashes given held held' came_of
window_taken hashes given held held' answer came_of is mapping_is stale steps state ready =
    by_step hashes given held held' mapping_is (fresh_after came_of held.stale held'.stale (subst (λ a. StaleAfter a held.stale held'.stale) is stale)) came_of
    (λ s stands. subst (λ a. StepsTo held.vault.mapping hashes s given a held' None) is (steps ready.fresh s stands))
    state ready

-- ---- its line

-- the lines of a run tell it where a window was refused
abbrev Tells : Progress → Type 0
Tells p = p.refused ≡ true → HasRefusal p.lines

-- behind another line they do
refusal_more : (p : Progress) (line : List ℕ) → HasRefusal p.lines → HasRefusal (p.lines ++ line)
refusal_more p line (front, name, rule, behind, is) =
    (front, name, rule, behind ++ line, ap (λ l. l ++ line) is ∙ append_assoc (front ++ window_line name (refusal_text rule)) behind line)

-- and the line of a refusal does
refusal_here : (p : Progress) (name : List ℕ) (rule : Rule) → HasRefusal (p.lines ++ window_line name (refusal_text rule))
refusal_here p name rule = (p.lines, name, rule, [], sym (append-nil (p.lines ++ window_line name (refusal_text rule))))

or_false : (b : Bool) → (b || false) ≡ b
or_false true = refl
or_false false = refl

or_true : (b : Bool) → (b || true) ≡ true
or_true true = refl
or_true false = refl

tells_more : (mapping : Mapping) (hashes : Hashes) (name : List ℕ) (given : WindowIn) (p : Progress) (o : Outcome) → Tells p → Tells (with_outcome mapping hashes name given p o)
tells_more mapping hashes name given p outcomes.Load tells so = refusal_more p _ (tells (sym (or_false p.refused) ∙ so))
tells_more mapping hashes name given p outcomes.Repeated tells so = refusal_more p _ (tells (sym (or_false p.refused) ∙ so))
tells_more mapping hashes name given p (outcomes.Refused rule) tells so = refusal_here p name rule

module _ (hashes : Hashes) (name : List ℕ) (loading loading' : Loading) (line : List ℕ) where
  -- the words of a line
  window_text : (mapping : Mapping) (state : State) (given : WindowIn) (came_of : Taken) → HasRows mapping hashes state given came_of
      → taken_text came_of ≡ outcome_text mapping hashes state given (outcome_of came_of)
  window_text mapping state given (taken.Loaded rows) rows_are = ap loaded_text rows_are
  window_text mapping state given taken.Repeated rows_are = refl
  window_text mapping state given (taken.Refused rule) rows_are = refl

  -- what a manifest brought is taken, and its line is made
  pub line_taken : (came : Arrival) (came_of : Taken) → TookArrival hashes came loading.office loading'.office came_of → loading'.refused ≡ (loading.refused || is_refused (outcome_of came_of))
      → line ≡ window_line name (taken_text came_of) → TookLine hashes name came loading loading' line
  line_taken (Absent file) came_of took refused line_is mapping p loaded = absurd (took p.state loaded.ready)
  line_taken (Broken rule) came_of took refused line_is mapping p loaded =
      let takes = took p.state loaded.ready in
      record {
        next = with_refusal name rule p;
        step_is = refl;
        loaded_is = record {
          mapping_is = ap (λ (h : Held). h.vault.mapping) takes.1 ∙ loaded.mapping_is;
          refused_is = refused ∙ ap (λ t. loading.refused || is_refused (outcome_of t)) takes.0 ∙ or_true loading.refused;
          ready = subst (λ (h : Held). IsReady hashes p.state h) (sym takes.1) loaded.ready;
          refusal = λ so. refusal_here p name rule;
        };
        lines_are = ap (λ l. p.lines ++ l) (sym (line_is ∙ ap (λ t. window_line name (taken_text t)) takes.0));
      }
  line_taken (Brought given) came_of took refused line_is mapping p loaded =
      let takes = took p.state loaded.ready in
      record {
        next = with_outcome mapping hashes name given p (outcome_of came_of);
        step_is = ap (λ o. Ok (with_outcome mapping hashes name given p o)) (ap (λ m. outcome m hashes p.state given) (sym loaded.mapping_is) ∙ takes.outcome_is);
        loaded_is = record {
          mapping_is = takes.mapping_is ∙ loaded.mapping_is;
          refused_is = refused ∙ ap (λ b. b || is_refused (outcome_of came_of)) loaded.refused_is;
          ready = subst (λ m. IsReady hashes (state_after m given (outcome_of came_of) p.state) loading'.office) loaded.mapping_is takes.ready;
          refusal = tells_more mapping hashes name given p (outcome_of came_of) loaded.refusal;
        };
        lines_are = ap (λ l. p.lines ++ l)
            (sym (line_is ∙ ap (window_line name) (window_text mapping p.state given came_of (subst (λ m. HasRows m hashes p.state given came_of) loaded.mapping_is takes.rows_are))));
      }

-- ---- what is read, and the whole files

-- a window as it is read leads the run where that of the whole files leads it
module _ (mapping : Mapping) (hashes : Hashes) (name : List ℕ) (p : Progress) where
  same_by : (given whole : WindowIn) → StandsForWhole given whole → (o : Outcome) → outcome mapping hashes p.state whole ≡ o
      → with_outcome mapping hashes name given p o ≡ with_outcome mapping hashes name whole p o
  same_by given whole stands outcomes.Load e = ap (λ w. with_outcome mapping hashes name w p outcomes.Load) (stands.same mapping hashes p.state e)
  same_by given whole stands outcomes.Repeated e = refl
  same_by given whole stands (outcomes.Refused rule) e = refl

  pub whole_step : (came : Arrival) (came_so : Arrived) → Brings came came_so → step_by mapping hashes name came p ≡ step_by mapping hashes name (arrival_of came_so) p
  whole_step (Absent file) came_so brings = absurd brings
  whole_step (Broken rule) came_so brings = ap (λ a. step_by mapping hashes name (arrival_of a) p) (sym brings)
  whole_step (Brought whole) came_so brings =
      ap Ok (sym (ap (with_outcome mapping hashes name brings.0 p) (brings.2.outcome_is mapping hashes p.state) ∙ same_by brings.0 whole brings.2 (outcome mapping hashes p.state whole) refl))
      ∙ ap (λ a. step_by mapping hashes name (arrival_of a) p) (sym brings.1)
