-- What is offered of the items of a range of numbers.
use Rattle.dv_window_keys.proofs.Vocabulary.{All-push, AreOffered, AreRanges, AreUpTo, Bool, HaveAllOffered, HaveOffered, IsFullAt, IsOfTask, Item, ItemRange, List, None, OffersMore, Option, Some, [], ap, arith, cases_eq, cases_lt, cond, false, false≢true, get_or-append_seam, get_or_append_left}
use Rattle.dv_window_keys.proofs.Vocabulary.{get_or_from_slice_get, got_from, if◌then◌else◌, inl, inr, is_missing, length, length-append, list_all, ne_eqb, offers_with, refl, same_Some, slice_get, slice_get-get_or, slice_get_within, subst, sym, times, times-append, times_last, times_miss, true}
use Rattle.dv_window_keys.proofs.Vocabulary.{ℕ, ⊎_elim, ◌++◌, ◌+◌, ◌<◌, ◌∙◌, ◌∷◌, ◌≡◌, ◌≤◌}

module _ (items : List Item) where
  pub more_none : (from : ℕ) (before : List ℕ) → OffersMore items from from before before
  more_none from before = record { kept = λ n has. has; only = λ n has. inl has; each = λ n low high full. absurd (omega (arith, low, high)) }

  module _ (from to : ℕ) (before after : List ℕ) (more : OffersMore items from to before after) where
    -- an item whose keys are all missing is passed over
    more_passed : (IsFullAt items to → ⊥) → OffersMore items from (to + 1) before after
    more_passed none = record {
      kept = more.kept;
      only = λ n has. ⊎_elim
          (λ (was : 1 ≤ times n before). inl was)
          (λ (new : (from ≤ n) × (n < to) × IsFullAt items n). let high = new.1 in inr (new.0, omega (arith, high), new.2))
          (more.only n has);
      each = λ n low high full. ⊎_elim
          (λ (under : n < to). more.each n low under full)
          (λ (over : to ≤ n). let at : n ≡ to = omega (arith, over, high) in absurd (none (subst (IsFullAt items) at full)))
          (cases_lt n to);
    }

    -- another one is put behind
    more_put : from ≤ to → IsFullAt items to → OffersMore items from (to + 1) before (after ++ to ∷ [])
    more_put up here = record {
      kept = λ n has. let was = more.kept n has in let both = times-append n after (to ∷ []) in omega (arith, was, both);
      only = λ n has. ⊎_elim
          (λ (at : to ≡ n). let high : n < to + 1 = omega (arith, at) in inr (subst (λ n. from ≤ n) at up, high, subst (IsFullAt items) at here))
          (λ (apart : to ≡ n → ⊥).
          let none = ap {B = ℕ} (λ (b : Bool). cond b 1 0) (ne_eqb to n apart) in
          let both = times-append n after (to ∷ []) in
          let in_after : 1 ≤ times n after = omega (arith, has, none, both) in
          ⊎_elim
          (λ (was : 1 ≤ times n before). inl was)
          (λ (new : (from ≤ n) × (n < to) × IsFullAt items n). let high = new.1 in inr (new.0, omega (arith, high), new.2))
          (more.only n in_after))
          (cases_eq to n);
      each = λ n low high full. ⊎_elim
          (λ (under : n < to). let was = more.each n low under full in let both = times-append n after (to ∷ []) in omega (arith, was, both))
          (λ (over : to ≤ n). let at : to ≡ n = omega (arith, over, high) in subst (λ n. 1 ≤ times n (after ++ to ∷ [])) at (times_last after to))
          (cases_lt n to);
    }

    -- the numbers of the items that follow are put behind
    pub more_both : (end : ℕ) (numbers : List ℕ) → from ≤ to → to ≤ end → OffersMore items to end [] numbers → OffersMore items from end before (after ++ numbers)
    more_both end numbers low high next = record {
      kept = λ n has. let was = more.kept n has in let both = times-append n after numbers in omega (arith, was, both);
      only = λ n has. let both = times-append n after numbers in ⊎_elim
          (λ (first : 0 < times n after). ⊎_elim
          (λ (was : 1 ≤ times n before). inl was)
          (λ (new : (from ≤ n) × (n < to) × IsFullAt items n). let under = new.1 in inr (new.0, omega (arith, under, high), new.2))
          (more.only n (omega (arith, first))))
          (λ (none : times n after ≤ 0). ⊎_elim
          (λ (was : 1 ≤ times n []). absurd (omega (arith, was)))
          (λ (new : (to ≤ n) × (n < end) × IsFullAt items n). let over = new.0 in inr (omega (arith, over, low), new.1, new.2))
          (next.only n (omega (arith, has, both, none))))
          (cases_lt 0 (times n after));
      each = λ n over under full. let both = times-append n after numbers in ⊎_elim
          (λ (first : n < to). let was = more.each n over first full in omega (arith, was, both))
          (λ (second : to ≤ n). let was = next.each n second under full in omega (arith, was, both))
          (cases_lt n to);
    }

    -- one number more
    pub more_step : from ≤ to → OffersMore items from (to + 1) before (offers_with to (slice_get items to) after)
    more_step up = by (slice_get items to) refl
      where
        by : (item : Option Item) → slice_get items to ≡ item → OffersMore items from (to + 1) before (offers_with to item after)
        by None at = more_passed (λ full. let no : None ≡ Some full.0 = sym at ∙ full.1 in cc)
        by (Some item) at = of (list_all is_missing item.refs) refl
          where
            of : (b : Bool) → list_all is_missing item.refs ≡ b → OffersMore items from (to + 1) before (if b then after else after ++ to ∷ [])
            of true missing = more_passed (λ full. false≢true (sym full.2 ∙ (ap (λ (item : Item). list_all is_missing item.refs) (same_Some full.0 item (sym full.1 ∙ at)) ∙ missing)))
            of false full = more_put up (item, at, full)

  -- all items are offered
  pub all_offered : (offers : List ℕ) → OffersMore items 0 (length items) [] offers → AreOffered items offers
  all_offered offers more = record {
    only = λ n has. ⊎_elim
        (λ (none : 1 ≤ times n []). absurd (omega (arith, none)))
        (λ (new : (0 ≤ n) × (n < length items) × IsFullAt items n). new.2)
        (more.only n has);
    each = λ n full. more.each n (omega arith) (slice_get_within items n full.0 full.1) full;
  }

  -- ---- the items of tasks

  -- nothing is offered of no task
  pub none_offered : (ranges : List ItemRange) (offers : List ℕ) → offers ≡ [] → HaveOffered items ranges [] offers
  none_offered ranges offers none = record {
    only = λ n has. let are = ap (times n) none in absurd (omega (arith, has, are));
    each = λ task has. absurd (omega (arith, has));
  }

  -- what two workers have offered, put together
  pub both_offered : (ranges : List ItemRange) (done more offers others : List ℕ) → HaveOffered items ranges done offers → HaveOffered items ranges more others → HaveOffered items ranges (done ++ more) (offers ++ others)
  both_offered ranges done more offers others one other = record {
    only = λ n has. let both = times-append n offers others in ⊎_elim
        (λ (first : 0 < times n offers). one.only n (omega (arith, first)))
        (λ (second : times n offers ≤ 0). other.only n (omega (arith, has, both, second)))
        (cases_lt 0 (times n offers));
    each = λ task has n of full. let tasks = times-append task done more in let both = times-append n offers others in ⊎_elim
        (λ (first : 0 < times task done). let was = one.each task (omega (arith, first)) n of full in omega (arith, was, both))
        (λ (second : times task done ≤ 0). let was = other.each task (omega (arith, has, tasks, second)) n of full in omega (arith, was, both))
        (cases_lt 0 (times task done));
  }

  -- one task more
  pub task_offered : (ranges : List ItemRange) (task : ℕ) (done before after : List ℕ) → task < length ranges → HaveOffered items ranges done before
      → ((range : ItemRange) → slice_get ranges task ≡ Some range → OffersMore items range.from range.to before after) → HaveOffered items ranges (done ++ task ∷ []) after
  task_offered ranges task done before after under were each_range =
      let (range, at) = got_from ranges task under in
      let more = each_range range at in record {
        only = λ n has. ⊎_elim
            (λ (was : 1 ≤ times n before). were.only n was)
            (λ (new : (range.from ≤ n) × (n < range.to) × IsFullAt items n). new.2)
            (more.only n has);
        each = λ other has n of full. let tasks = times-append other done (task ∷ []) in ⊎_elim
            (λ (first : 0 < times other done). more.kept n (were.each other (omega (arith, first)) n of full))
            (λ (second : times other done ≤ 0).
            let same : task ≡ other = times_miss other task (omega (arith, has, tasks, second)) in
            let own : IsOfTask ranges task n = subst (λ task. IsOfTask ranges task n) (sym same) of in
            (each_range own.0 own.1).each n own.2 own.3 full)
            (cases_lt 0 (times other done));
      }

  -- the items of all tasks, and those behind them
  pub whole_offered : (ranges : List ItemRange) (end : ℕ) (before after : List ℕ) → AreUpTo ranges end → HaveAllOffered items ranges before → OffersMore items end (length items) before after → AreOffered items after
  whole_offered ranges end before after up all more = record {
    only = λ n has. ⊎_elim
        (λ (was : 1 ≤ times n before). all.only n was)
        (λ (new : (end ≤ n) × (n < length items) × IsFullAt items n). new.2)
        (more.only n has);
    each = λ n full. ⊎_elim
        (λ (under : n < end). let (task, of) = up n under in more.kept n (all.each task n of full))
        (λ (over : end ≤ n). more.each n over (slice_get_within items n full.0 full.1) full)
        (cases_lt n end);
  }

-- ---- the ranges of tasks

pub none_up_to : (ranges : List ItemRange) → AreUpTo ranges 0
none_up_to ranges n under = absurd (omega (arith, under))

pub range_put : (count : ℕ) (ranges : List ItemRange) (range : ItemRange) → AreRanges count ranges → range.from ≤ range.to → range.to ≤ count → AreRanges count (ranges ++ range ∷ [])
range_put count ranges range are up under = All-push (λ (range : ItemRange). (range.from ≤ range.to) × (range.to ≤ count)) ranges range are (up, under)

pub ranges_put : (ranges : List ItemRange) (range : ItemRange) (end : ℕ) → range.from ≡ end → AreUpTo ranges end → AreUpTo (ranges ++ range ∷ []) range.to
ranges_put ranges range end begins up n under =
    ⊎_elim
    (λ (before : n < end).
    let (task, (one, at, low, high)) = up n before in
    let within = slice_get_within ranges task one at in
    let long = length-append ranges (range ∷ []) in
    let there : slice_get (ranges ++ range ∷ []) task ≡ Some one =
    slice_get-get_or (ranges ++ range ∷ []) task one (omega (arith, within, long))
    ∙ ap (λ r. Some r) (get_or_append_left ranges (range ∷ []) one task within ∙ get_or_from_slice_get ranges task one one at) in
    (task, (one, there, low, high)))
    (λ (behind : end ≤ n).
    let long = length-append ranges (range ∷ []) in
    let there : slice_get (ranges ++ range ∷ []) (length ranges) ≡ Some range =
    slice_get-get_or (ranges ++ range ∷ []) (length ranges) range (omega (arith, long))
    ∙ ap (λ r. Some r) (get_or-append_seam ranges range [] range) in
    (length ranges, (range, there, omega (arith, behind, begins), under)))
    (cases_lt n end)
