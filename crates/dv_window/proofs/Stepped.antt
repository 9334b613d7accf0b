-- The answer to a window, or to the completion of the open one, is a step of the machine.
use Rattle.dv_window.proofs.Vocabulary.{Begun, CompletesAs, CompletesTo, Err, Failed, Hashes, Held, IsIn, IsLeftIn, IsOpenAgain, IsOpenBehind, IsPlan, KeeperError, List, LoadBroke, Mapping, Memory, None, NothingOpen, Ok, Option, Result, Some, StandsFor, State, StepsTo, Stop, Stops, Store}
use Rattle.dv_window.proofs.Vocabulary.{TookOrBroke, Window, WindowIn, answer_of, ap, false, inl, inr, is_valid, load_answer, loaded, opened, option_map, outcome, refl, resume_answer, same_Some, sealed_with, staged, subst, sym, true, window_of, ℕ, ◌∙◌, ◌≡◌, ◌⊎◌}
use Rattle.dv_window.proofs.{Agreed.none_staged, Answered.StopSays, Answered.begun_adds, Answered.can_add, Answered.completes, Answered.is_given, Answered.loads, Answered.stopped, BrokenOff.LeftState, BrokenOff.broken, BrokenOff.taken, Growths.CanAdd}
use Rattle.dv_records.specs.declared.answers.Outcome.TheVariants as outcomes
use Rattle.dv_window.specs.declared.stops.Stop.TheVariants as stop

-- the open window of an office is that of the state
staged_behind : (mapping : Mapping) (hashes : Hashes) (sealed : List Window) (staged_now : Option Window) (begun : Option Begun) → IsOpenBehind mapping hashes sealed staged_now begun → option_map (λ (b : Begun). b.window) begun ≡ staged_now
staged_behind mapping hashes sealed None None is = refl
staged_behind mapping hashes sealed None (Some begun) is = absurd is
staged_behind mapping hashes sealed (Some window) None is = absurd is
staged_behind mapping hashes sealed (Some window) (Some begun) is = ap Some is.window_is

module _ (hashes : Hashes) (state : State) (held : Held) (valid_mapping : is_valid held.vault.mapping ≡ true) (before : Option Store) (fresh : held.stale ≡ false) (is_in : IsIn hashes state held before) where
  stands : StandsFor hashes state held
  stands = is_in.stands fresh

  still_in : IsLeftIn hashes state held before
  still_in = record { stands = is_in.stands; store_stands = is_in.store_stands }

  begun_same : staged held ≡ state.begun
  begun_same = staged_behind held.vault.mapping hashes state.sealed state.begun held.begun stands.begun_is

  -- ---- a window that is not loaded

  module _ (given : WindowIn) (why : Stop) (stops : Stops hashes held.vault (staged held) given why) where
    said : StopSays held.vault.mapping hashes state given why
    said = stopped hashes state held stands valid_mapping given why (subst (λ begun. Stops hashes held.vault begun given why) begun_same stops)

    pub stopped_step : (after : Option Store) → after ≡ before → StepsTo held.vault.mapping hashes state given (answer_of why) held after
    stopped_step after same = by why said
      where
        left : IsLeftIn hashes state held after
        left = subst (IsLeftIn hashes state held) (sym same) still_in

        by : (why : Stop) → StopSays held.vault.mapping hashes state given why → StepsTo held.vault.mapping hashes state given (answer_of why) held after
        by stop.Repeated is = (state, (is, refl), left)
        by (stop.Refused rule) is = (state, (is, refl), left)
        by stop.Memory is = (state, inl refl, left)

  -- ---- a new window

  module _ (given : WindowIn) (begun : Begun) (plan : IsPlan hashes held.vault (staged held) given begun) where
    abbrev window : Window
    window = window_of held.vault.mapping given

    plan_here : IsPlan hashes held.vault state.begun given begun
    plan_here = subst (λ staged_now. IsPlan hashes held.vault staged_now given begun) begun_same plan

    can : CanAdd hashes state.sealed held.vault window begun
    can = can_add hashes state held stands valid_mapping given begun plan_here

    to_load : outcome held.vault.mapping hashes state given ≡ outcomes.Load
    to_load = loads hashes state held stands valid_mapping given begun plan_here

    none_begun : held.begun ≡ None
    none_begun = none_staged held plan.none_open

    broke_load : (state' : State) → LeftState state window state' → LoadBroke held.vault.mapping hashes state given state'
    broke_load state' (inl same) = inl same
    broke_load state' (inr left) = inr (to_load, left)

    pub new_step : (held' : Held) (after : Option Store) (result : Result ℕ KeeperError) → TookOrBroke false begun held held' before after result → StepsTo held.vault.mapping hashes state given (load_answer result) held' after
    new_step held' after (Ok count) (rows_are, is, took) = (
      sealed_with window state,
      (to_load, refl, rows_are ∙ can.behind.rows_are),
      taken hashes state held stands valid_mapping window begun can before is_in.store_stands held' after is took,
    )
    new_step held' after (Err Failed) broke =
        let (state', left, is_left) = broken hashes state held stands valid_mapping window begun can before is_in.store_stands false Failed held' after fresh broke (λ e. none_begun) in
        (state', broke_load state' left, is_left)
    new_step held' after (Err Memory) broke =
        let (state', left, is_left) = broken hashes state held stands valid_mapping window begun can before is_in.store_stands false Memory held' after fresh broke (λ e. none_begun) in
        (state', broke_load state' left, is_left)

  -- ---- the open window

  module _ (held' : Held) (after : Option Store) (result : Result ℕ KeeperError) (came : CompletesAs held held' before after result) where
    abbrev begun : Begun
    begun = came.begun

    adds : (window : Window) × (state.begun ≡ Some window) × CanAdd hashes state.sealed held.vault window begun
    adds = begun_adds hashes state held stands begun came.begun_is came.may_be

    abbrev open_window : Window
    open_window = adds.0

    reopened : opened open_window state ≡ state
    reopened = λ i. record state { begun = sym adds.1 i }

    open_rows : begun.rows ≡ loaded held.vault.mapping hashes state.sealed open_window
    open_rows = adds.2.behind.rows_are

    -- where it was broken off, the state is as before, or has it sealed
    abbrev Resumed : Result ℕ KeeperError → State → Type 0
    Resumed (Ok count) state' = (state' ≡ sealed_with open_window state) × (count ≡ loaded held.vault.mapping hashes state.sealed open_window)
    Resumed (Err error) state' = (state' ≡ state) ⊎ (state' ≡ sealed_with open_window state)

    left_so : (state' : State) → (state' ≡ state) ⊎ ((state' ≡ opened open_window state) ⊎ (state' ≡ sealed_with open_window state)) → (state' ≡ state) ⊎ (state' ≡ sealed_with open_window state)
    left_so state' (inl same) = inl same
    left_so state' (inr (inl opened)) = inl (opened ∙ reopened)
    left_so state' (inr (inr sealed)) = inr sealed

    resumed : (result : Result ℕ KeeperError) → TookOrBroke true begun held held' before after result → (state' : State) × Resumed result state' × IsLeftIn hashes state' held' after
    resumed (Ok count) (rows_are, is, took) =
        (sealed_with open_window state, (refl, rows_are ∙ open_rows), taken hashes state held stands valid_mapping open_window begun adds.2 before is_in.store_stands held' after is took)
    resumed (Err error) broke =
        let (state', left, is_left) = broken hashes state held stands valid_mapping open_window begun adds.2 before is_in.store_stands true error held' after fresh broke (λ no. cc) in
        (state', left_so state' left, is_left)

    pub open_completes : CompletesTo held.vault.mapping hashes state (resume_answer result) held' after
    open_completes = by result (resumed result came.came)
      where
        by : (result : Result ℕ KeeperError) → (state' : State) × Resumed result state' × IsLeftIn hashes state' held' after → CompletesTo held.vault.mapping hashes state (resume_answer result) held' after
        by (Ok count) (state', (same, count_is), left) = (state', (open_window, adds.1, same, count_is), left)
        by (Err Failed) (state', inl same, left) = (state', inl same, left)
        by (Err Failed) (state', inr sealed, left) = (state', inr (open_window, adds.1, sealed), left)
        by (Err Memory) (state', inl same, left) = (state', inl same, left)
        by (Err Memory) (state', inr sealed, left) = (state', inr (open_window, adds.1, sealed), left)

    -- given again it is completed
    pub open_step : (given : WindowIn) → IsOpenAgain held.vault (staged held) given None → StepsTo held.vault.mapping hashes state given (load_answer result) held' after
    open_step given again = by result (resumed result came.came)
      where
        again_here : IsOpenAgain held.vault state.begun given None
        again_here = subst (λ begun. IsOpenAgain held.vault begun given None) begun_same again

        to_load : outcome held.vault.mapping hashes state given ≡ outcomes.Load
        to_load = completes hashes state held stands valid_mapping given again_here

        same_window : open_window ≡ window_of held.vault.mapping given
        same_window = same_Some open_window again_here.window (sym adds.1 ∙ again_here.is_open) ∙ is_given hashes state held stands valid_mapping given again_here

        by : (result : Result ℕ KeeperError) → (state' : State) × Resumed result state' × IsLeftIn hashes state' held' after → StepsTo held.vault.mapping hashes state given (load_answer result) held' after
        by (Ok count) (state', (same, count_is), left) = (
          state',
          (
            to_load,
            same ∙ ap (λ (w : Window). sealed_with w state) same_window,
            count_is ∙ ap (loaded held.vault.mapping hashes state.sealed) same_window,
          ),
          left,
        )
        by (Err Failed) (state', inl same, left) = (state', inl same, left)
        by (Err Failed) (state', inr sealed, left) = (state', inr (to_load, inr (sealed ∙ ap (λ (w : Window). sealed_with w state) same_window)), left)
        by (Err Memory) (state', inl same, left) = (state', inl same, left)
        by (Err Memory) (state', inr sealed, left) = (state', inr (to_load, inr (sealed ∙ ap (λ (w : Window). sealed_with w state) same_window)), left)

  -- nothing is open
  pub nothing_completes : held.begun ≡ None → (after : Option Store) → after ≡ before → CompletesTo held.vault.mapping hashes state NothingOpen held after
  nothing_completes none after same =
      (state, (sym begun_same ∙ ap (option_map (λ (b : Begun). b.window)) none, refl), subst (IsLeftIn hashes state held) (sym same) still_in)
