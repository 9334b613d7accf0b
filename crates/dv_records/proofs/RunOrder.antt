-- The runs of a reference list begin at different dates.
use Rattle.dv_records.proofs.Vocabulary.{Bool, Contains, Contains-append_cases, Contains-cons_cases, Contains-cons_here, Contains-cons_there, Contains-nil, Extract, Key, List, None, Option, Some, Span, [], ap, arith, delivers, ended, ended_runs, false, inl, inr, open_end, open_run, refl}
use Rattle.dv_records.proofs.Vocabulary.{run_begin, runs, subst, sym, true, ℕ, ◌<◌, ◌∙◌, ◌∷◌, ◌≡◌}
use Rattle.dv_records.proofs.{EffectTies.begins_before, Reversing.AllBefore, Reversing.IsNewestFirst}

-- an extract ends the run that was open, if it doesn't hold the list
ends_open : (load : ℕ) (was : Option ℕ) (now : Bool) (span : Span) → Contains (ended load was now) span → (was ≡ Some span.begin) × (now ≡ false) × (span.end ≡ load)
ends_open load None now span has = Contains-nil span has
ends_open load (Some begin) true span has = Contains-nil span has
ends_open load (Some begin) false span has =
    elim (Contains-cons_cases (record { begin = begin; end = load }) [] span has) [
      | inl same ↦ (ap (λ (s : Span). Some s.begin) same, refl, ap (λ (s : Span). s.end) (sym same))
      | inr none ↦ Contains-nil span none
    ]

-- the open run is the one that the newest extract is in
is_open : (was : Option ℕ) (span : Span) → Contains (open_run was) span → (was ≡ Some span.begin) × (span.end ≡ open_end)
is_open None span has = Contains-nil span has
is_open (Some begin) span has =
    elim (Contains-cons_cases (record { begin = begin; end = open_end }) [] span has) [
      | inl same ↦ (ap (λ (s : Span). Some s.begin) same, ap (λ (s : Span). s.end) (sym same))
      | inr none ↦ Contains-nil span none
    ]

module _ (refs : List Key) where
  abbrev InOrder : List Extract → Type 0
  InOrder all = IsNewestFirst (λ (extract : Extract). extract.load) all

  -- a run that has an end began before it, and ended before any date that all extracts are before
  pub run_ordered : (all : List Extract) → InOrder all → (span : Span) → Contains (ended_runs all refs) span → span.begin < span.end
  run_ordered [] order span has = Contains-nil span has
  run_ordered (newest ∷ older) order span has =
      elim (Contains-append_cases (ended newest.load (run_begin older refs) (delivers newest.rows refs)) (ended_runs older refs) span has) [
        | inl now ↦
            let (was, gone, end) = ends_open newest.load (run_begin older refs) (delivers newest.rows refs) span now in
            subst (λ n. span.begin < n) (sym end) (begins_before refs newest.load older order.0 span.begin was)
        | inr before ↦ run_ordered older order.1 span before
      ]

  pub run_ended : (limit : ℕ) (all : List Extract) → AllBefore (λ (extract : Extract). extract.load) limit all → (span : Span) → Contains (ended_runs all refs) span → span.end < limit
  run_ended limit [] early span has = Contains-nil span has
  run_ended limit (newest ∷ older) early span has =
      elim (Contains-append_cases (ended newest.load (run_begin older refs) (delivers newest.rows refs)) (ended_runs older refs) span has) [
        | inl now ↦
            let (was, gone, end) = ends_open newest.load (run_begin older refs) (delivers newest.rows refs) span now in
            subst (λ n. n < limit) (sym end) (early newest (Contains-cons_here newest older))
        | inr before ↦ run_ended limit older (λ extract member. early extract (Contains-cons_there newest older extract member)) span before
      ]

  -- the open run began after those that have an end
  pub open_later : (all : List Extract) → InOrder all → (begin : ℕ) → run_begin all refs ≡ Some begin → (span : Span) → Contains (ended_runs all refs) span → span.end < begin
  open_later [] order begin is span has = Contains-nil span has
  open_later (newest ∷ older) order begin is span has = by (delivers newest.rows refs) (run_begin older refs) refl refl (open_later older order.1)
    where
      by : (now : Bool) (was : Option ℕ) → delivers newest.rows refs ≡ now → run_begin older refs ≡ was
          → ((b : ℕ) → run_begin older refs ≡ Some b → (span : Span) → Contains (ended_runs older refs) span → span.end < b) → span.end < begin
      by false was n w later = let no : None ≡ Some begin = rw n at is in cc
      by true None n w later =
          let made : Some newest.load ≡ Some begin = rw (n, w) at is in
          let same : newest.load ≡ begin = cc in
          let old : Contains (ended_runs older refs) span = rw w at has in
          subst (λ b. span.end < b) same (run_ended newest.load older order.0 span old)
      by true (Some first) n w later =
          let made : Some first ≡ Some begin = rw (n, w) at is in
          let same : first ≡ begin = cc in
          let old : Contains (ended_runs older refs) span = rw (w, n) at has in
          subst (λ b. span.end < b) same (later first w span old)

  -- so none of them begins where the open one does
  pub apart : (all : List Extract) → InOrder all → (begin : ℕ) (span : Span) → run_begin all refs ≡ Some begin → Contains (ended_runs all refs) span → begin ≡ span.begin → ⊥
  apart all order begin span is has same =
      let less = run_ordered all order span has in
      let later = open_later all order begin is span has in
      omega (arith, less, later, same)

  -- and those that have an end begin at different dates
  one_ended : (all : List Extract) → InOrder all → (a b : Span) → Contains (ended_runs all refs) a → Contains (ended_runs all refs) b → a.begin ≡ b.begin → a.end ≡ b.end
  one_ended [] order a b a_in b_in same = Contains-nil a a_in
  one_ended (newest ∷ older) order a b a_in b_in same =
      elim (Contains-append_cases (ended newest.load (run_begin older refs) (delivers newest.rows refs)) (ended_runs older refs) a a_in) [
        | inl a_now ↦
            let (was, gone, a_end) = ends_open newest.load (run_begin older refs) (delivers newest.rows refs) a a_now in
            elim (Contains-append_cases (ended newest.load (run_begin older refs) (delivers newest.rows refs)) (ended_runs older refs) b b_in) [
              | inl b_now ↦ a_end ∙ sym (ends_open newest.load (run_begin older refs) (delivers newest.rows refs) b b_now).2
              | inr b_before ↦ absurd (apart older order.1 a.begin b was b_before same)
            ]
        | inr a_before ↦
            elim (Contains-append_cases (ended newest.load (run_begin older refs) (delivers newest.rows refs)) (ended_runs older refs) b b_in) [
              | inl b_now ↦
                  let (was, gone, b_end) = ends_open newest.load (run_begin older refs) (delivers newest.rows refs) b b_now in
                  absurd (apart older order.1 b.begin a was a_before (sym same))
              | inr b_before ↦ one_ended older order.1 a b a_before b_before same
            ]
      ]

  -- so runs that begin at one date are one
  pub one_run : (all : List Extract) → InOrder all → (a b : Span) → Contains (runs all refs) a → Contains (runs all refs) b → a.begin ≡ b.begin → a.end ≡ b.end
  one_run all order a b a_in b_in same =
      elim (Contains-append_cases (open_run (run_begin all refs)) (ended_runs all refs) a a_in) [
        | inl a_open ↦
            let (is, a_end) = is_open (run_begin all refs) a a_open in
            elim (Contains-append_cases (open_run (run_begin all refs)) (ended_runs all refs) b b_in) [
              | inl b_open ↦ a_end ∙ sym (is_open (run_begin all refs) b b_open).1
              | inr b_ended ↦ absurd (apart all order a.begin b is b_ended same)
            ]
        | inr a_ended ↦
            elim (Contains-append_cases (open_run (run_begin all refs)) (ended_runs all refs) b b_in) [
              | inl b_open ↦
                  let (is, b_end) = is_open (run_begin all refs) b b_open in
                  absurd (apart all order b.begin a is a_ended (sym same))
              | inr b_ended ↦ one_ended all order a b a_ended b_ended same
            ]
      ]
