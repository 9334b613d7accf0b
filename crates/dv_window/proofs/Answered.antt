-- What comes of a window in the state that an office stands for, told from what was decided of it.
use Rattle.dv_window.proofs.Vocabulary.{AreApart, Begun, Bool, Collides, Decides, Decides-and, Fits, Hashes, Held, IsAgain, IsOpenAgain, IsOpenBehind, IsPlan, IsTooMuch, List, Mapping, NRow, None, Option, RawVault, Rule, Some, Staged, StandsFor, State, Stop, Stops, Window, WindowIn, []}
use Rattle.dv_window.proofs.Vocabulary.{added_behind, all_windows, and_parts, ap, apart_is_free, are_dates_valid, are_windows_valid, clash_collides, collision, differs_from, eqb-true, false, has_same_extracts, if◌then◌else◌, inl, inr, is_valid, is_window, last_same, last_sealed, late_after}
use Rattle.dv_window.proofs.Vocabulary.{not_full, open_other, option_map_or, option_to_list, outcome, pointwise, refl, row_eq, row_eq-Decides, rules, slice_eq-Decides, staged_eq, subst, sym, true, valid_with, window_of, ◌++◌, ◌==◌, ◌∙◌, ◌∷◌, ◌≡◌}
use Rattle.dv_vault.proofs.AddedWindows.{full_with}
use Rattle.dv_window.proofs.{Growths.CanAdd, OutcomeSteps.again_says, OutcomeSteps.early_refused, OutcomeSteps.new_collides, OutcomeSteps.new_full, OutcomeSteps.new_loads, OutcomeSteps.open_says, PlanFacts.early_parts, PlanFacts.not_late, PlanFacts.read_whole, SealedAgain.read_again}
use Rattle.dv_records.specs.declared.answers.Outcome.TheVariants as outcomes
use Rattle.dv_window.specs.declared.stops.Stop.TheVariants as stop

-- what a stop says of the outcome
abbrev pub StopSays : Mapping → Hashes → State → WindowIn → Stop → Type 0
StopSays mapping hashes state given stop.Repeated = outcome mapping hashes state given ≡ outcomes.Repeated
StopSays mapping hashes state given (stop.Refused rule) = outcome mapping hashes state given ≡ outcomes.Refused rule
StopSays mapping hashes state given stop.Memory = Unit {0}

-- ---- windows of one load date and the same extracts are one

rows_same : (a b : List NRow) → Decides (pointwise row_eq a b) (a ≡ b)
rows_same a b = slice_eq-Decides row_eq-Decides a b _ refl

staged_same : (a b : Staged) → Decides (staged_eq a b) (a ≡ b)
staged_same a b = search (rules, Decides-and, rows_same)

same_window : (some other : Window) → some.load ≡ other.load → differs_from (Some some) other ≡ None → some ≡ other
same_window some other loads same = by (has_same_extracts some other) refl same
  where
    by : (b : Bool) → has_same_extracts some other ≡ b → (if b then None else Some (Rule.Differs some.load)) ≡ None → some ≡ other
    by true e n = λ i. record { load = loads i; extracts = (slice_eq-Decides staged_same some.extracts other.extracts _ refl).0 e i }
    by false e n = cc

module _ (hashes : Hashes) (state : State) (held : Held) (stands : StandsFor hashes state held) (valid_mapping : is_valid held.vault.mapping ≡ true) (given : WindowIn) where
  abbrev raw : RawVault
  raw = held.vault

  abbrev window : Window
  window = window_of raw.mapping given

  free : AreApart hashes raw window → collision raw.mapping hashes (state.sealed ++ window ∷ []) ≡ None
  free apart = apart_is_free hashes state.sealed raw stands.sealed_are valid_mapping window apart

  -- ---- a window that is not loaded

  again : (differs : Option Rule) → IsAgain raw state.begun given differs → outcome raw.mapping hashes state given ≡ option_map_or (λ rule. outcomes.Refused rule) differs outcomes.Repeated
  again differs is =
      again_says hashes state raw stands.sealed_are.heads_are given differs is (λ sealed at same. read_again hashes state.sealed raw stands.sealed_are valid_mapping given.load is.head sealed at same)

  collides : (rule : Rule) → Collides hashes raw state.begun given rule → outcome raw.mapping hashes state given ≡ outcomes.Refused rule
  collides rule is =
      new_collides hashes state raw stands.sealed_are.heads_are given is.passes is.none_open (record { table = is.names.table; pair = is.names.pair })
      (clash_collides hashes state.sealed raw stands.sealed_are valid_mapping window is.names.table is.names.pair is.names.first)
      ∙ ap (λ (rule : Rule). outcomes.Refused rule) (sym is.names.rule_is)

  too_much : (rule : Rule) → IsTooMuch hashes raw state.begun given rule → outcome raw.mapping hashes state given ≡ outcomes.Refused rule
  too_much rule is =
      new_full hashes state raw stands.sealed_are.heads_are given is.passes is.none_open (free is.apart) rule
      (sym (full_with hashes state.sealed raw stands.sealed_are valid_mapping window (read_whole raw state.begun given valid_mapping is.passes.early) (not_late raw state.begun given is.passes) is.apart) ∙ is.rule_is)

  pub stopped : (why : Stop) → Stops hashes raw state.begun given why → StopSays raw.mapping hashes state given why
  stopped stop.Repeated is = again None is
  stopped (stop.Refused rule) (inl early) = early_refused hashes state raw stands.sealed_are.heads_are given rule early
  stopped (stop.Refused rule) (inr (inl is)) = again (Some rule) is
  stopped (stop.Refused rule) (inr (inr (inl is))) = open_says hashes state raw stands.sealed_are.heads_are given (Some rule) is
  stopped (stop.Refused rule) (inr (inr (inr (inl is)))) = collides rule is
  stopped (stop.Refused rule) (inr (inr (inr (inr is)))) = too_much rule is
  stopped stop.Memory is = tt

  -- ---- a new window that is to be loaded

  module _ (begun : Begun) (is : IsPlan hashes raw state.begun given begun) where
    whole : is_window raw.mapping window ≡ true
    whole = read_whole raw state.begun given valid_mapping is.passes.early

    late : late_after (last_sealed raw.heads) window.load ≡ None
    late = not_late raw state.begun given is.passes

    pub can_add : CanAdd hashes state.sealed raw window begun
    can_add = record {
      valid = valid_with hashes state.sealed raw stands.sealed_are valid_mapping window whole late is.adds.apart begun is.adds is.not_full;
      late = ap (λ last. late_after last window.load) (last_same state.sealed ∙ ap last_sealed (sym stands.sealed_are.heads_are)) ∙ late;
      behind = added_behind hashes state.sealed raw stands.sealed_are valid_mapping window whole late is.adds.apart begun is.adds;
    }

    pub loads : outcome raw.mapping hashes state given ≡ outcomes.Load
    loads =
        new_loads hashes state raw stands.sealed_are.heads_are given is.passes is.none_open (free is.adds.apart)
        (not_full hashes state.sealed raw stands.sealed_are valid_mapping window whole late is.adds.apart begun is.adds is.not_full)

  -- ---- the open window again

  module _ (is : IsOpenAgain raw state.begun given None) where
    pub completes : outcome raw.mapping hashes state given ≡ outcomes.Load
    completes = open_says hashes state raw stands.sealed_are.heads_are given None is

    -- it is the window that is given
    pub is_given : is.window ≡ window
    is_given =
        let no_other = subst (λ begun. open_other begun given ≡ None) is.is_open (early_parts raw state.begun given is.passes.early).no_other in
        same_window is.window window (by (is.window.load == given.load) refl no_other) is.differs_is
      where
        by : (b : Bool) → (is.window.load == given.load) ≡ b → (if b then None else Some (Rule.OpenOther is.window.load)) ≡ None → is.window.load ≡ given.load
        by true e n = eqb-true _ _ e
        by false e n = cc

-- what an office has begun may be taken by its vault
pub begun_adds : (hashes : Hashes) (state : State) (held : Held) → StandsFor hashes state held → (begun : Begun) → held.begun ≡ Some begun → Fits held.vault begun
    → (window : Window) × (state.begun ≡ Some window) × CanAdd hashes state.sealed held.vault window begun
begun_adds hashes state held stands begun is fits = by state.begun refl (subst (IsOpenBehind held.vault.mapping hashes state.sealed state.begun) is stands.begun_is)
  where
    by : (staged_now : Option Window) → state.begun ≡ staged_now → IsOpenBehind held.vault.mapping hashes state.sealed staged_now (Some begun)
        → (window : Window) × (state.begun ≡ Some window) × CanAdd hashes state.sealed held.vault window begun
    by None e behind = absurd behind
    by (Some window) e behind = (
      window,
      e,
      record {
        valid = subst (λ staged_now. are_windows_valid held.vault.mapping hashes (state.sealed ++ option_to_list staged_now) ≡ true) e
            (and_parts (are_windows_valid held.vault.mapping hashes (all_windows state)) (are_dates_valid held.vault.mapping hashes state) stands.valid).0;
        late = ap (λ last. late_after last window.load) (last_same state.sealed ∙ ap last_sealed (sym stands.sealed_are.heads_are))
            ∙ subst (λ (w : Window). late_after (last_sealed held.vault.heads) w.load ≡ None) behind.window_is fits.later;
        behind = behind;
      },
    )
