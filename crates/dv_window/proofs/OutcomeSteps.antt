-- What comes of a window in a state, told from the heads of the sealed windows and the open window.
use Rattle.dv_window.proofs.Vocabulary.{Bool, Collision, Found, Hashes, IsAgain, IsNewWindow, IsOpenAgain, List, None, OpenOther, Option, Outcome, RawVault, Rule, Some, State, Window, WindowIn, [], accepted, all_windows, ap, collides, collision, differs, differs_from, early_rule, false}
use Rattle.dv_window.proofs.Vocabulary.{feed_twice, first_of, full_at, head_at, head_of, if_new, if◌then◌else◌, is_none, is_some, last_same, last_sealed, late, late_after, late_by, length, made_of, map, no_extracts, none_before_map, open_other, option_map, option_map_or, option_or, option_or-none}
use Rattle.dv_window.proofs.Vocabulary.{option_to_list, outcome, refl, refusal, subst, sym, table_name, too_long, true, unknown_feed, vault_full, vault_weight, window_at, window_of, window_read, window_rule, ℕ, ◌++◌, ◌==◌, ◌∙◌, ◌∷◌, ◌≡◌}
use Rattle.dv_window.proofs.PlanFacts.{early_parts}
use Rattle.dv_records.specs.declared.answers.Outcome.TheVariants as outcomes

-- the first of many rules is one of the early ones, or of the rest
early_first : (early : List (Option Rule)) (last : Option Rule) (rest : List (Option Rule)) → first_of (early ++ last ∷ rest) ≡ option_or (first_of (first_of early ∷ last ∷ [])) (first_of rest)
early_first [] None rest = refl
early_first [] (Some rule) rest = refl
early_first (Some rule ∷ early) last rest = refl
early_first (None ∷ early) last rest = early_first early last rest

-- heads are those of the windows
heads_found : (load : ℕ) (windows : List Window) → head_at load (map head_of windows) ≡ option_map head_of (window_at load windows)
heads_found load [] = refl
heads_found load (window ∷ windows) = go (window.load == load) (heads_found load windows)
  where
    go : (b : Bool) → head_at load (map head_of windows) ≡ option_map head_of (window_at load windows)
        → (if b then Some (head_of window) else head_at load (map head_of windows)) ≡ option_map head_of (if b then Some window else window_at load windows)
    go true behind = refl
    go false behind = behind

still_some : {X Y : Type 0} (f : X → Y) (found : Option X) → is_some (option_map f found) ≡ is_some found
still_some f None = refl
still_some f (Some x) = refl

-- a window that is found among some is found among more, and one that isn't is looked for in the rest
found_first : (load : ℕ) (windows more : List Window) (window : Window) → window_at load windows ≡ Some window → window_at load (windows ++ more) ≡ Some window
found_first load [] more window at = cc
found_first load (other ∷ windows) more window at = by (other.load == load) at (found_first load windows more window)
  where
    by : (b : Bool) → (if b then Some other else window_at load windows) ≡ Some window → (window_at load windows ≡ Some window → window_at load (windows ++ more) ≡ Some window)
        → (if b then Some other else window_at load (windows ++ more)) ≡ Some window
    by true at behind = at
    by false at behind = behind at

found_behind : (load : ℕ) (windows more : List Window) → window_at load windows ≡ None → window_at load (windows ++ more) ≡ window_at load more
found_behind load [] more none = refl
found_behind load (other ∷ windows) more none = by (other.load == load) none (found_behind load windows more)
  where
    by : (b : Bool) → (if b then Some other else window_at load windows) ≡ None → (window_at load windows ≡ None → window_at load (windows ++ more) ≡ window_at load more)
        → (if b then Some other else window_at load (windows ++ more)) ≡ window_at load more
    by true none behind = cc
    by false none behind = behind none

-- the open window is found where the load date is no other
open_found : (window : Window) (given : WindowIn) → open_other (Some window) given ≡ None → window_at given.load (window ∷ []) ≡ Some window
open_found window given none = by (window.load == given.load) none
  where
    by : (b : Bool) → (if b then None else Some (OpenOther window.load)) ≡ None → (if b then Some window else None) ≡ Some window
    by true e = refl
    by false e = cc

module _ (hashes : Hashes) (state : State) (raw : RawVault) (heads_are : raw.heads ≡ map head_of state.sealed) (given : WindowIn) where
  abbrev window : Window
  window = window_of raw.mapping given

  abbrev outcome_here : Outcome
  outcome_here = outcome raw.mapping hashes state given

  abbrev all_sealed : List Window
  all_sealed = state.sealed ++ window ∷ []

  head_known : head_at given.load raw.heads ≡ option_map head_of (window_at given.load state.sealed)
  head_known = ap (head_at given.load) heads_are ∙ heads_found given.load state.sealed

  late_known : late_by raw.heads given.load ≡ late state given
  late_known =
      ap (λ b. if b then None else late_after (last_sealed raw.heads) given.load) (ap is_some head_known ∙ still_some head_of (window_at given.load state.sealed))
      ∙ ap (λ last. if is_some (window_at given.load state.sealed) then None else late_after last given.load) (ap last_sealed heads_are ∙ sym (last_same state.sealed))

  -- what is asked behind the early rules
  abbrev late_rules : List (Option Rule)
  late_rules =
      differs state window ∷ if_new state window (collides raw.mapping hashes state window) ∷ if_new state window (vault_full raw.mapping hashes state window) ∷ []

  -- all rules in their order, by what is asked of the last load date
  abbrev all_rules : Option Rule → Option Rule
  all_rules late =
      first_of (
      no_extracts given ∷ unknown_feed raw.mapping given ∷ feed_twice given ∷ late ∷ open_other state.begun given ∷ too_long given ∷ window_rule raw.mapping given ∷ late_rules)

  -- a window breaks an early rule, or the rest decides
  refusal_is : refusal raw.mapping hashes state given ≡ option_or (early_rule raw state.begun given) (first_of late_rules)
  refusal_is =
      ap all_rules (sym late_known)
      ∙ early_first (no_extracts given ∷ unknown_feed raw.mapping given ∷ feed_twice given ∷ late_by raw.heads given.load ∷ open_other state.begun given ∷ too_long given ∷ []) (window_rule raw.mapping given) late_rules

  pub early_refused : (rule : Rule) → early_rule raw state.begun given ≡ Some rule → outcome_here ≡ outcomes.Refused rule
  early_refused rule e =
      ap (λ (refusal : Option Rule). option_map_or (λ rule. outcomes.Refused rule) refusal (accepted state given.load)) (refusal_is ∙ ap (λ early. option_or early (first_of late_rules)) e)

  -- what decides behind them, by the window of the load date, and whether it is sealed
  abbrev by_found : Option Window → Bool → Outcome
  by_found found sealed =
      option_map_or (λ rule. outcomes.Refused rule)
      (first_of (
      differs_from found window
      ∷ (if is_none found then collides raw.mapping hashes state window else None)
      ∷ (if is_none found then vault_full raw.mapping hashes state window else None) ∷ []))
      (if sealed then outcomes.Repeated else outcomes.Load)

  decided : early_rule raw state.begun given ≡ None → (sealed found : Option Window) → window_at given.load state.sealed ≡ sealed → window_at given.load (all_windows state) ≡ found → outcome_here ≡ by_found found (is_some sealed)
  decided e sealed found at_sealed at =
      ap (λ (refusal : Option Rule). option_map_or (λ rule. outcomes.Refused rule) refusal (accepted state given.load)) (refusal_is ∙ ap (λ early. option_or early (first_of late_rules)) e)
      ∙ ap (λ (found : Option Window). by_found found (is_some (window_at given.load state.sealed))) at
      ∙ ap (λ (sealed : Option Window). by_found found (is_some sealed)) at_sealed

  none_sealed : IsNewWindow raw state.begun given → window_at given.load state.sealed ≡ None
  none_sealed passes = none_before_map head_of (window_at given.load state.sealed) (sym head_known ∙ passes.is_new)

  -- ---- a new load date: a collision, a vault that is too full, and neither

  abbrev by_new : Option Found → Option Rule → Outcome
  by_new collision full =
      option_map_or (λ rule. outcomes.Refused rule)
      (option_or (option_map (λ found. Collision (table_name raw.mapping found.table) found.pair.first found.pair.second) collision) (option_or full None)) outcomes.Load

  module _ (passes : IsNewWindow raw state.begun given) (none_open : state.begun ≡ None) where
    new_decided : outcome_here ≡ by_new (collision raw.mapping hashes all_sealed) (vault_full raw.mapping hashes state window)
    new_decided =
        decided passes.early None None (none_sealed passes)
        (found_behind given.load state.sealed (option_to_list state.begun) (none_sealed passes) ∙ ap (λ begun. window_at given.load (option_to_list begun)) none_open)

    pub new_collides : (found : Found) → collision raw.mapping hashes all_sealed ≡ Some found → outcome_here ≡ outcomes.Refused (Collision (table_name raw.mapping found.table) found.pair.first found.pair.second)
    new_collides found is = new_decided ∙ ap (λ found. by_new found (vault_full raw.mapping hashes state window)) is

    pub new_full : collision raw.mapping hashes all_sealed ≡ None → (rule : Rule) → full_at (vault_weight raw.mapping hashes all_sealed) (length state.sealed) ≡ Some rule → outcome_here ≡ outcomes.Refused rule
    new_full apart rule full = new_decided ∙ ap (λ found. by_new found (vault_full raw.mapping hashes state window)) apart ∙ ap (by_new None) full

    pub new_loads : collision raw.mapping hashes all_sealed ≡ None → full_at (vault_weight raw.mapping hashes all_sealed) (length state.sealed) ≡ None → outcome_here ≡ outcomes.Load
    new_loads apart full = new_decided ∙ ap (λ found. by_new found (vault_full raw.mapping hashes state window)) apart ∙ ap (by_new None) full

  -- ---- a sealed load date, and that of the open window

  abbrev by_difference : Option Rule → Outcome → Outcome
  by_difference differs same = option_map_or (λ rule. outcomes.Refused rule) differs same

  -- a sealed window again, read back as it was
  pub again_says : (differs : Option Rule) (again : IsAgain raw state.begun given differs)
      → ((sealed : Window) → window_at given.load state.sealed ≡ Some sealed → head_of sealed ≡ again.head → window_read raw again.head ≡ sealed)
      → outcome_here ≡ by_difference differs outcomes.Repeated
  again_says differs again reads =
      let (sealed, at, same) = made_of head_of (window_at given.load state.sealed) again.head (sym head_known ∙ again.is_head) in
      decided again.early (Some sealed) (Some sealed) at (found_first given.load state.sealed (option_to_list state.begun) sealed at)
      ∙ ap (λ differs. by_difference differs outcomes.Repeated) (option_or-none (differs_from (Some sealed) window))
      ∙ ap (λ (sealed : Window). by_difference (differs_from (Some sealed) window) outcomes.Repeated) (sym (reads sealed at same))
      ∙ ap (λ differs. by_difference differs outcomes.Repeated) again.differs_is

  -- the open window again
  pub open_says : (differs : Option Rule) → IsOpenAgain raw state.begun given differs → outcome_here ≡ by_difference differs outcomes.Load
  open_says differs again =
      let none = none_sealed again.passes in
      let no_other = subst (λ begun. open_other begun given ≡ None) again.is_open (early_parts raw state.begun given again.passes.early).no_other in
      decided again.passes.early None (Some again.window) none
      (found_behind given.load state.sealed (option_to_list state.begun) none ∙ ap (λ begun. window_at given.load (option_to_list begun)) again.is_open ∙ open_found again.window given no_other)
      ∙ ap (λ differs. by_difference differs outcomes.Load) (option_or-none (differs_from (Some again.window) window))
      ∙ ap (λ differs. by_difference differs outcomes.Load) again.differs_is
