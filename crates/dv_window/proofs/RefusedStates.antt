-- The refusals of a snapshot, told from the last sealed load date and the heads of the stored ones, are those of a state.
use Rattle.dv_window.proofs.Vocabulary.{Hashes, List, Mapping, None, Option, Repeated, SnapAnswer, SnapHead, Some, State, TooLarge, [], ap, arith, early_refusal, first_large, first_of, full_with, future, heads_weight, if◌then◌else◌, last_load, late_refusal, length-map, list_any-map, map}
use Rattle.dv_window.proofs.Vocabulary.{option_map, option_or, refl, snapshot, snapshot_refusal, snapshots_full, snapshots_weight, sum_by, sum_by-append, sum_by-cons, sym, taken, taken_among, too_large, ℕ, ◌++◌, ◌+◌, ◌==◌, ◌∙◌, ◌∷◌, ◌≡◌}

-- what is made of items weighs what each weighs
sum_by-map : {X Y : Type 0} (w : Y → ℕ) (f : X → Y) (xs : List X) → sum_by w (map f xs) ≡ sum_by (λ x. w (f x)) xs
sum_by-map w f [] = refl
sum_by-map w f (x ∷ xs) = sum_by-cons w (f x) (map f xs) ∙ ap (λ n. w (f x) + n) (sum_by-map w f xs) ∙ sym (sum_by-cons (λ x. w (f x)) x xs)

-- the later two of four answers, where neither of the first two is given
in_turn : {X : Type 0} (a b c late : Option X) → option_or a (option_or b None) ≡ None → option_or a (option_or b (option_or c (option_or late None))) ≡ option_or c late
in_turn (Some x) b c late none = cc
in_turn None (Some y) c late none = cc
in_turn None None (Some z) late none = refl
in_turn None None None (Some w) none = refl
in_turn None None None None none = refl

-- one of the two that come first
first_given : {X : Type 0} (a b late : Option X) (x : X) → option_or a (option_or b None) ≡ Some x → option_or a (option_or b late) ≡ Some x
first_given (Some y) b late x e = e
first_given None (Some y) late x e = e
first_given None None late x e = cc

module _ (mapping : Mapping) (hashes : Hashes) (state : State) (date : ℕ) where
  abbrev head_on : ℕ → SnapHead
  head_on d = (snapshot mapping hashes state.sealed d).head

  abbrev heads : List SnapHead
  heads = map head_on state.dates

  taken_is : taken state date ≡ taken_among heads date
  taken_is = ap (λ there. if there then Some Repeated else None) (sym (list_any-map (λ (head : SnapHead). head.date == date) head_on state.dates))

  weighs : snapshots_weight mapping hashes state.sealed (state.dates ++ date ∷ []) ≡ heads_weight heads + (head_on date).weight
  weighs =
      sum_by-append (λ d. (head_on d).weight) state.dates (date ∷ [])
      ∙ (λ i. sym (sum_by-map (λ (head : SnapHead). head.weight) head_on state.dates) i + sum_one i)
    where
      sum_one : sum_by (λ d. (head_on d).weight) (date ∷ []) ≡ (head_on date).weight
      sum_one = sum_by-cons (λ d. (head_on d).weight) date [] ∙ omega arith

  full_is : snapshots_full mapping hashes state date ≡ late_refusal heads (head_on date)
  full_is = (λ i. full_with (sym (length-map state.dates head_on) i) (weighs i))

  too_large_is : (path : Option ℕ) → first_large mapping state.sealed date ≡ path → too_large mapping state date ≡ option_map (λ path. TooLarge path) path
  too_large_is path large = ap (option_map (λ path. TooLarge path)) large

  -- a refusal that is told before the tables are made
  pub refused_first : (answer : SnapAnswer) → early_refusal (last_load state.sealed) heads date ≡ Some answer → snapshot_refusal mapping hashes state date ≡ Some answer
  refused_first answer early =
      (λ i. option_or (future state date) (option_or (taken_is i) (first_of (too_large mapping state date ∷ snapshots_full mapping hashes state date ∷ []))))
      ∙ first_given (future state date) (taken_among heads date) (first_of (too_large mapping state date ∷ snapshots_full mapping hashes state date ∷ [])) answer early

  module _ (early : early_refusal (last_load state.sealed) heads date ≡ None) (path : Option ℕ) (large : first_large mapping state.sealed date ≡ path) where
    refusal_is : snapshot_refusal mapping hashes state date ≡ option_or (option_map (λ path. TooLarge path) path) (late_refusal heads (head_on date))
    refusal_is =
        (λ i. option_or (future state date) (option_or (taken_is i) (option_or (too_large_is path large i) (option_or (full_is i) None))))
        ∙ in_turn (future state date) (taken_among heads date) (option_map (λ path. TooLarge path) path) (late_refusal heads (head_on date)) early

  -- a path that is too large, where none is told before
  pub refused_large : (path : ℕ) → early_refusal (last_load state.sealed) heads date ≡ None → first_large mapping state.sealed date ≡ Some path → snapshot_refusal mapping hashes state date ≡ Some (TooLarge path)
  refused_large path early large = refusal_is early (Some path) large

  -- what the head tells, where none is told before, and no path is too large
  pub refusal_told : early_refusal (last_load state.sealed) heads date ≡ None → first_large mapping state.sealed date ≡ None → snapshot_refusal mapping hashes state date ≡ late_refusal heads (head_on date)
  refusal_told early large = refusal_is early None large
