-- The runs of a reference list are the longest periods in which it is present, up to a date that all extracts have come to.
use Rattle.dv_laws.proofs.Vocabulary.{AllBefore, Bool, Contains, Contains-append_cases, Contains-append_left, Contains-append_right, Contains-cons_cases, Contains-cons_here, Contains-cons_there, Contains-nil, Extract, IsEndedPeriod, IsNewestFirst, IsOpenPeriod, IsPeriod, Key, List, None, Option}
use Rattle.dv_laws.proofs.Vocabulary.{Some, Span, [], ap, arith, begins_before, common_steps, delivers, ended, ended_runs, false, false≢true, filter-all, inl, inr, le-leb, leb_tells, lt-leb, nat_le, newest_rows, open_end, open_run, refl, rules, run_begin, runs, subst, sym, true, up_to, ℕ, ◌+◌}
use Rattle.dv_laws.proofs.Vocabulary.{◌-◌, ◌<◌, ◌∙◌, ◌∷◌, ◌≡◌, ◌≤◌, ◌⊎◌}

-- ---- periods of a test of dates

pub never_both : (b : Bool) → b ≡ true → b ≡ false → ⊥
never_both b t f = false≢true (sym f ∙ t)

-- of two dates the first is less, or it isn't
pub by_less : (a b : ℕ) {G : Type 0} → (a < b → G) → (b ≤ a → G) → G
by_less a b less not_less = elim (leb_tells b a) [ inl le ↦ not_less le.1 | inr lt ↦ less lt.1 ]

module _ (p : ℕ → Bool) (date : ℕ) where
  not_earlier : (b c : ℕ) → IsOpenPeriod p date b → IsOpenPeriod p date c → b < c → ⊥
  not_earlier b c first second less = let within = second.not_later in never_both (p (c - 1)) (first.during (c - 1) (omega arith) (omega arith)) (second.before (c - 1) (omega arith))

  pub open_once : (b c : ℕ) → IsOpenPeriod p date b → IsOpenPeriod p date c → b ≡ c
  open_once b c first second = omega (arith, not_earlier b c first second, not_earlier c b second first)

-- ---- the runs of a list

-- whether extracts deliver a list at a date
abbrev pub present : List Extract → List Key → ℕ → Bool
present all refs t = delivers (newest_rows (up_to t all)) refs

pub all_reached : (t : ℕ) (all : List Extract) → ((x : Extract) → Contains all x → x.load ≤ t) → up_to t all ≡ all
all_reached t all reached = filter-all (λ (x : Extract). nat_le x.load t) all (λ x has. le-leb x.load t (reached x has))

-- all extracts have come to a date
abbrev pub Reached : ℕ → List Extract → Type 0
Reached date all = (x : Extract) → Contains all x → x.load ≤ date

pub reached-older : (date : ℕ) (newest : Extract) (older : List Extract) → Reached date (newest ∷ older) → Reached date older
reached-older date newest older reached x has = reached x (Contains-cons_there newest older x has)

module _ (refs : List Key) (date : ℕ) where
  -- a list that is in no run isn't there
  no_run : (all : List Extract) → run_begin all refs ≡ None → delivers (newest_rows all) refs ≡ false
  no_run all h1 = search (rules)

  module _ (newest : Extract) (older : List Extract) (early : AllBefore (λ (x : Extract). x.load) newest.load older) (up : newest.load ≤ date) where
    -- from its load date on the newest extract decides, and before it the older ones do
    late : (t : ℕ) → newest.load ≤ t → present (newest ∷ older) refs t ≡ delivers newest.rows refs
    late t le = let reached = le-leb newest.load t le in rw reached

    soon : (t : ℕ) → t < newest.load → present (newest ∷ older) refs t ≡ present older refs t
    soon t lt = let later = lt-leb newest.load t lt in rw later

    -- just before it, and later, the older ones are all reached
    settled : (t : ℕ) → newest.load ≤ t + 1 → present older refs t ≡ delivers (newest_rows older) refs
    settled t le = ap (λ all. delivers (newest_rows all) refs) (all_reached t older (λ x has. let lt = early x has in omega arith))

    -- a run that was open goes on, or begins
    open_more : (b : ℕ) → IsOpenPeriod (present older refs) date b → run_begin older refs ≡ Some b → delivers newest.rows refs ≡ true → IsOpenPeriod (present (newest ∷ older) refs) date b
    open_more b was is now =
        let lt = begins_before refs newest.load older early b is in
        record {
          not_later = was.not_later;
          before = λ t e. soon t (omega arith) ∙ was.before t e;
          during = λ t le within. by_less t newest.load (λ less. soon t less ∙ was.during t le within) (λ reached. late t reached ∙ now);
        }

    open_new : run_begin older refs ≡ None → delivers newest.rows refs ≡ true → IsOpenPeriod (present (newest ∷ older) refs) date newest.load
    open_new none now = record { not_later = up; before = λ t e. soon t (omega arith) ∙ settled t (omega arith) ∙ no_run older none; during = λ t le within. late t le ∙ now }

    -- or it ends
    ended_now : (b : ℕ) → IsOpenPeriod (present older refs) date b → run_begin older refs ≡ Some b → delivers newest.rows refs ≡ false → IsEndedPeriod (present (newest ∷ older) refs) date b newest.load
    ended_now b was is gone =
        let lt = begins_before refs newest.load older early b is in
        record {
          not_later = up;
          ordered = lt;
          before = λ t e. soon t (omega arith) ∙ was.before t e;
          during = λ t le less. soon t less ∙ was.during t le (omega arith);
          after = late newest.load (omega arith) ∙ gone;
        }

    -- an ended one stays
    ends_before : (b e : ℕ) → IsEndedPeriod (present older refs) date b e → newest.load ≤ e → ⊥
    ends_before b e was le =
        let in_order = was.ordered in
        let at_end = settled e (omega arith) in
        let at_last = settled (e - 1) (omega arith) in
        never_both (delivers (newest_rows older) refs) (sym at_last ∙ was.during (e - 1) (omega arith) (omega arith)) (sym at_end ∙ was.after)

    ended_more : (b e : ℕ) → IsEndedPeriod (present older refs) date b e → IsEndedPeriod (present (newest ∷ older) refs) date b e
    ended_more b e was = by_less e newest.load (λ less. record {
      not_later = was.not_later;
      ordered = was.ordered;
      before = λ t is. let in_order = was.ordered in soon t (omega arith) ∙ was.before t is;
      during = λ t le lt. soon t (omega arith) ∙ was.during t le lt;
      after = soon e less ∙ was.after;
    }) (λ le. absurd (ends_before b e was le))

    -- and the other way round
    ended_cases : (b e : ℕ) → IsEndedPeriod (present (newest ∷ older) refs) date b e → IsEndedPeriod (present older refs) date b e ⊎ ((e ≡ newest.load) × (delivers newest.rows refs ≡ false) × IsOpenPeriod (present older refs) date b)
    ended_cases b e is =
        let in_order = is.ordered in
        let up_to_date = is.not_later in
        by_less e newest.load
        (λ less. inl (record {
          not_later = is.not_later;
          ordered = is.ordered;
          before = λ t same. sym (soon t (omega arith)) ∙ is.before t same;
          during = λ t le lt. sym (soon t (omega arith)) ∙ is.during t le lt;
          after = sym (soon e less) ∙ is.after;
        }))
        (λ reached. by_less newest.load e
        (λ past. absurd (never_both (delivers newest.rows refs) (sym (late (e - 1) (omega arith)) ∙ is.during (e - 1) (omega arith) (omega arith)) (sym (late e reached) ∙ is.after)))
        (λ not_past.
        let same : e ≡ newest.load = omega arith in
        let last : present older refs (newest.load - 1) ≡ true = sym (soon (newest.load - 1) (omega arith)) ∙ is.during (newest.load - 1) (omega arith) (omega arith) in
        let was : delivers (newest_rows older) refs ≡ true = sym (settled (newest.load - 1) (omega arith)) ∙ last in
        inr (
          same,
          sym (late e reached) ∙ is.after,
          record {
            not_later = omega arith;
            before = λ t is_before. sym (soon t (omega arith)) ∙ is.before t is_before;
            during = λ t le within. by_less t newest.load (λ less. sym (soon t less) ∙ is.during t le (omega arith)) (λ le_t. settled t (omega arith) ∙ was);
          },
        )))

  -- the newest run is open exactly where it is said to be
  pub opened : (all : List Extract) → IsNewestFirst (λ (x : Extract). x.load) all → Reached date all → (b : ℕ) → run_begin all refs ≡ Some b → IsOpenPeriod (present all refs) date b
  opened [] order reached b e = cc
  opened (newest ∷ older) order reached b e = by (delivers newest.rows refs) (run_begin older refs) refl refl (opened older order.1 (reached-older date newest older reached))
    where
      by : (now : Bool) (was : Option ℕ) → delivers newest.rows refs ≡ now → run_begin older refs ≡ was → ((c : ℕ) → run_begin older refs ≡ Some c → IsOpenPeriod (present older refs) date c)
          → IsOpenPeriod (present (newest ∷ older) refs) date b
      by false was f g later = let no : None ≡ Some b = rw f at e in cc
      by true None f g later =
          let is : Some newest.load ≡ Some b = rw (f, g) at e in
          let same : newest.load ≡ b = cc in
          subst (IsOpenPeriod (present (newest ∷ older) refs) date) same (open_new newest older order.0 (reached newest (Contains-cons_here newest older)) g f)
      by true (Some c) f g later =
          let is : Some c ≡ Some b = rw (f, g) at e in
          let same : c ≡ b = cc in
          subst (IsOpenPeriod (present (newest ∷ older) refs) date) same (open_more newest older order.0 (reached newest (Contains-cons_here newest older)) c (later c g) g f)

  pub is_opened : (all : List Extract) → IsNewestFirst (λ (x : Extract). x.load) all → Reached date all → (b : ℕ) → IsOpenPeriod (present all refs) date b → run_begin all refs ≡ Some b
  is_opened all order reached b is = by (run_begin all refs) refl
    where
      there : delivers (newest_rows all) refs ≡ true
      there = sym (ap (λ xs. delivers (newest_rows xs) refs) (all_reached date all reached)) ∙ is.during date is.not_later (omega arith)

      by : (o : Option ℕ) → run_begin all refs ≡ o → run_begin all refs ≡ Some b
      by None e = absurd (never_both (delivers (newest_rows all) refs) there (no_run all e))
      by (Some c) e = e ∙ ap Some (open_once (present all refs) date c b (opened all order reached c e) is)

  -- the runs that have an end are those that have one
  pub ended_there : (all : List Extract) → IsNewestFirst (λ (x : Extract). x.load) all → Reached date all → (span : Span) → Contains (ended_runs all refs) span → IsEndedPeriod (present all refs) date span.begin span.end
  ended_there [] order reached span has = Contains-nil span has
  ended_there (newest ∷ older) order reached span has =
      elim (Contains-append_cases (ended newest.load (run_begin older refs) (delivers newest.rows refs)) (ended_runs older refs) span has) [
        | inl now ↦ by (run_begin older refs) (delivers newest.rows refs) refl refl now
        | inr rest ↦ ended_more newest older order.0 (reached newest (Contains-cons_here newest older)) span.begin span.end (ended_there older order.1 (reached-older date newest older reached) span rest)
      ]
    where
      by : (was : Option ℕ) (now : Bool) → run_begin older refs ≡ was → delivers newest.rows refs ≡ now → Contains (ended newest.load was now) span → IsEndedPeriod (present (newest ∷ older) refs) date span.begin span.end
      by None now f g within = Contains-nil span within
      by (Some b) true f g within = Contains-nil span within
      by (Some b) false f g within =
          let open_one = opened older order.1 (reached-older date newest older reached) b f in
          let ends = ended_now newest older order.0 (reached newest (Contains-cons_here newest older)) b open_one f g in
          elim (Contains-cons_cases (record { begin = b; end = newest.load }) [] span within) [
            | inl same ↦ subst (λ (s : Span). IsEndedPeriod (present (newest ∷ older) refs) date s.begin s.end) same ends
            | inr none ↦ Contains-nil span none
          ]

  pub is_ended : (all : List Extract) → IsNewestFirst (λ (x : Extract). x.load) all → Reached date all → (b e : ℕ) → IsEndedPeriod (present all refs) date b e → Contains (ended_runs all refs) (record { begin = b; end = e })
  is_ended [] order reached b e is = let in_order = is.ordered in absurd (false≢true (is.during b (omega arith) in_order))
  is_ended (newest ∷ older) order reached b e is =
      elim (ended_cases newest older order.0 (reached newest (Contains-cons_here newest older)) b e is) [
        | inl was ↦
            let early = is_ended older order.1 (reached-older date newest older reached) b e was in
            Contains-append_right (ended newest.load (run_begin older refs) (delivers newest.rows refs)) (ended_runs older refs) (record { begin = b; end = e }) early
        | inr now ↦ Contains-append_left (ended newest.load (run_begin older refs) (delivers newest.rows refs)) (ended_runs older refs) (record { begin = b; end = e }) (here now)
      ]
    where
      here : (e ≡ newest.load) × (delivers newest.rows refs ≡ false) × IsOpenPeriod (present older refs) date b → Contains (ended newest.load (run_begin older refs) (delivers newest.rows refs)) (record { begin = b; end = e })
      here (same, gone, was) =
          rw (is_opened older order.1 (reached-older date newest older reached) b was, gone, same) (Contains-cons_here (record { begin = b; end = newest.load }) [])

  -- so the runs are the periods in which the list is present
  pub runs_there : (all : List Extract) → IsNewestFirst (λ (x : Extract). x.load) all → Reached date all → (span : Span) → Contains (runs all refs) span → IsPeriod (present all refs) date span.begin span.end
  runs_there all order reached span has =
      elim (Contains-append_cases (open_run (run_begin all refs)) (ended_runs all refs) span has) [
        | inl now ↦ inl (by (run_begin all refs) refl now)
        | inr rest ↦ inr (ended_there all order reached span rest)
      ]
    where
      by : (o : Option ℕ) → run_begin all refs ≡ o → Contains (open_run o) span → (span.end ≡ open_end) × IsOpenPeriod (present all refs) date span.begin
      by None e within = Contains-nil span within
      by (Some b) e within =
          elim (Contains-cons_cases (record { begin = b; end = open_end }) [] span within) [
            | inl same ↦ (ap (λ (s : Span). s.end) (sym same), subst (λ (s : Span). IsOpenPeriod (present all refs) date s.begin) same (opened all order reached b e))
            | inr none ↦ Contains-nil span none
          ]

  pub is_run : (all : List Extract) → IsNewestFirst (λ (x : Extract). x.load) all → Reached date all → (b e : ℕ) → IsPeriod (present all refs) date b e → Contains (runs all refs) (record { begin = b; end = e })
  is_run all order reached b e (inl open_one) = grind (arith, common_steps, is_opened all order reached b open_one.1)
  is_run all order reached b e (inr ended_one) = search (rules, Contains-append_right, is_ended)
