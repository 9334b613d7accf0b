-- The last rows of the runs in an effectivity table are the runs of its feed's extracts.
use Rattle.dv_records.proofs.Vocabulary.{Bool, Contains, Contains-append_right, Contains-cons_cases, Contains-cons_here, Contains-cons_there, Contains-nil, EffectRow, Extract, Hashes, IsApart, IsEffectBatch, IsStrictlySortedBy, Key, Less, List, None, Option, Some, Span, [], all_refs, and_from}
use Rattle.dv_records.proofs.Vocabulary.{and_parts, ap, append-nil, appended, arith, bytes_eq, bytes_eq-Decides, delivers, digest_cmp, effect_batch, effect_cmp, effect_row, ended_runs, eq-eqb, eqb-true, false, false≢true, filter, filter-all, filter-append, filter-none, inl, inr, irreflexive}
use Rattle.dv_records.proofs.Vocabulary.{is_of_one_run, last_of_runs, leb-true, list_any, list_any-append, lists_of, made_of, member_of_all, nat_le, nat_list_cmp_total, newest_rows, open_end, refl, run_begin, runs, some_passes, some_passes_at, span_between, subst, sym, true, up_to, ℕ, ◌++◌, ◌<◌}
use Rattle.dv_records.proofs.Vocabulary.{◌==◌, ◌∙◌, ◌∷◌, ◌≡◌, ◌⊎◌}
use Rattle.dv_records.proofs.{BatchTies.batch_made, EffectTies.effect_parent, EffectTies.effect_stands, EffectTies.effect_tied, LastChange.IsOwn, LastChange.all_up_to, Reversing.IsNewestFirst, RunOrder.apart as apart_open, RunOrder.run_ended, RunOrder.run_ordered, StatusReconstruct.both_lists}

-- ---- the last rows of runs

-- of two lists, the last rows of the first that have no row of their run in the second, and those of the second
last_cases : (xs ys : List EffectRow) (row : EffectRow) → Contains (last_of_runs (xs ++ ys)) row
    → (Contains (last_of_runs xs) row × (list_any (is_of_one_run row) ys ≡ false)) ⊎ Contains (last_of_runs ys) row
last_cases [] ys row has = inr has
last_cases (x ∷ xs) ys row has = by (list_any (is_of_one_run x) xs) (list_any (is_of_one_run x) ys) refl refl (last_cases xs ys row)
  where
    Cases : List EffectRow → Type 0
    Cases rows = (Contains rows row × (list_any (is_of_one_run row) ys ≡ false)) ⊎ Contains (last_of_runs ys) row

    there : Cases (last_of_runs xs) → Cases (x ∷ last_of_runs xs)
    there (inl (first, none)) = inl (Contains-cons_there x (last_of_runs xs) row first, none)
    there (inr second) = inr second

    by : (a b : Bool) → list_any (is_of_one_run x) xs ≡ a → list_any (is_of_one_run x) ys ≡ b → (Contains (last_of_runs (xs ++ ys)) row → Cases (last_of_runs xs)) → Cases (last_of_runs (x ∷ xs))
    by true b e f later =
        let whole : list_any (is_of_one_run x) (xs ++ ys) ≡ true = list_any-append (is_of_one_run x) xs ys ∙ rw e refl in
        let old : Contains (last_of_runs (xs ++ ys)) row = rw whole at has in
        rw e (later old)
    by false true e f later =
        let whole : list_any (is_of_one_run x) (xs ++ ys) ≡ true = list_any-append (is_of_one_run x) xs ys ∙ rw (e, f) refl in
        let old : Contains (last_of_runs (xs ++ ys)) row = rw whole at has in
        rw e (there (later old))
    by false false e f later =
        let whole : list_any (is_of_one_run x) (xs ++ ys) ≡ false = list_any-append (is_of_one_run x) xs ys ∙ rw (e, f) refl in
        let all : Contains (x ∷ last_of_runs (xs ++ ys)) row = rw whole at has in
        rw e (elim (Contains-cons_cases x (last_of_runs (xs ++ ys)) row all) [
          | inl same ↦ inl (subst (Contains (x ∷ last_of_runs xs)) same (Contains-cons_here x (last_of_runs xs)), ap (λ r. list_any (is_of_one_run r) ys) (sym same) ∙ f)
          | inr rest ↦ there (later rest)
        ])

last_before : (xs ys : List EffectRow) (row : EffectRow) → Contains (last_of_runs xs) row → list_any (is_of_one_run row) ys ≡ false → Contains (last_of_runs (xs ++ ys)) row
last_before [] ys row has none = Contains-nil row has
last_before (x ∷ xs) ys row has none = by (list_any (is_of_one_run x) xs) (list_any (is_of_one_run x) ys) refl refl (λ old. last_before xs ys row old none)
  where
    by : (a b : Bool) → list_any (is_of_one_run x) xs ≡ a → list_any (is_of_one_run x) ys ≡ b → (Contains (last_of_runs xs) row → Contains (last_of_runs (xs ++ ys)) row) → Contains (last_of_runs ((x ∷ xs) ++ ys)) row
    by true b e f later =
        let whole : list_any (is_of_one_run x) (xs ++ ys) ≡ true = list_any-append (is_of_one_run x) xs ys ∙ rw e refl in
        let old : Contains (last_of_runs xs) row = rw e at has in
        rw whole (later old)
    by false true e f later =
        let whole : list_any (is_of_one_run x) (xs ++ ys) ≡ true = list_any-append (is_of_one_run x) xs ys ∙ rw (e, f) refl in
        let all : Contains (x ∷ last_of_runs xs) row = rw e at has in
        rw whole (elim (Contains-cons_cases x (last_of_runs xs) row all) [
          | inl same ↦ absurd (false≢true (sym none ∙ ap (λ r. list_any (is_of_one_run r) ys) (sym same) ∙ f))
          | inr rest ↦ later rest
        ])
    by false false e f later =
        let whole : list_any (is_of_one_run x) (xs ++ ys) ≡ false = list_any-append (is_of_one_run x) xs ys ∙ rw (e, f) refl in
        let all : Contains (x ∷ last_of_runs xs) row = rw e at has in
        rw whole (elim (Contains-cons_cases x (last_of_runs xs) row all) [
          | inl same ↦ subst (Contains (x ∷ last_of_runs (xs ++ ys))) same (Contains-cons_here x (last_of_runs (xs ++ ys)))
          | inr rest ↦ Contains-cons_there x (last_of_runs (xs ++ ys)) row (later rest)
        ])

last_behind : (xs ys : List EffectRow) (row : EffectRow) → Contains (last_of_runs ys) row → Contains (last_of_runs (xs ++ ys)) row
last_behind [] ys row has = has
last_behind (x ∷ xs) ys row has = by (list_any (is_of_one_run x) (xs ++ ys)) refl (last_behind xs ys row has)
  where
    by : (b : Bool) → list_any (is_of_one_run x) (xs ++ ys) ≡ b → Contains (last_of_runs (xs ++ ys)) row → Contains (last_of_runs ((x ∷ xs) ++ ys)) row
    by true e later = rw e later
    by false e later = rw e (Contains-cons_there x (last_of_runs (xs ++ ys)) row later)

-- rows of which no two have one parent are all the last ones
apart_rows : (rows : List EffectRow) → IsStrictlySortedBy effect_cmp rows → last_of_runs rows ≡ rows
unfolding IsStrictlySortedBy
apart_rows [] up = refl
apart_rows (row ∷ rows) up = by (list_any (is_of_one_run row) rows) refl (apart_rows rows up.1)
  where
    by : (b : Bool) → list_any (is_of_one_run row) rows ≡ b → last_of_runs rows ≡ rows → last_of_runs (row ∷ rows) ≡ row ∷ rows
    by false e rest = rw e (ap (λ later. row ∷ later) rest)
    by true e rest =
        let (other, has, one) = some_passes (is_of_one_run row) rows e in
        let same : row.parent ≡ other.parent = (bytes_eq-Decides row.parent other.parent).0 (and_parts (bytes_eq row.parent other.parent) (row.begin == other.begin) one).0 in
        let less : effect_cmp row other ≡ Less = member_of_all (λ y. effect_cmp row y ≡ Less) rows other up.0 has in
        absurd (irreflexive nat_list_cmp_total row.parent (subst (λ digest. digest_cmp row.parent digest ≡ Less) (sym same) less))

-- ---- the rows of an extract

module _ (hashes : Hashes) (source : List ℕ) where
  abbrev rows_after : List Extract → List EffectRow
  rows_after all = appended (effect_batch hashes source) all

  -- a last row is of a run of a list that the extracts deliver
  abbrev OfRun : List Extract → EffectRow → Type 0
  OfRun all row = (refs : List Key) × Contains (lists_of all) refs × (row.parent ≡ hashes.hash refs) × Contains (runs all refs) (record { begin = row.begin; end = row.end })

  -- and a run has a last row
  abbrev HasRow : List Extract → List Key → Span → Type 0
  HasRow all refs span = (row : EffectRow) × Contains (last_of_runs (rows_after all)) row × (row.parent ≡ hashes.hash refs) × (row.begin ≡ span.begin) × (row.end ≡ span.end)

  module _ (newest : Extract) (older : List Extract) (order : IsNewestFirst (λ (extract : Extract). extract.load) (newest ∷ older)) (apart : IsApart hashes (lists_of (newest ∷ older))) where
    abbrev batch : List EffectRow
    batch = effect_batch hashes source older newest

    is_batch : IsEffectBatch hashes source older newest batch
    is_batch = (effect_tied hashes source older newest (λ a b a_in b_in. apart a b (both_lists newest older a a_in) (both_lists newest older b b_in)) batch).0 refl

    -- an ended run of the older extracts began before the newest one, and isn't the open one
    early : (refs : List Key) (span : Span) → Contains (ended_runs older refs) span → span.begin < newest.load
    early refs span has = let less = run_ordered refs older order.1 span has in let within = run_ended refs newest.load older order.0 span has in omega (arith, less, within)

    not_open : (refs : List Key) (begin : ℕ) (span : Span) → run_begin older refs ≡ Some begin → Contains (ended_runs older refs) span → span.begin ≡ begin → ⊥
    not_open refs begin span going has same = apart_open refs older order.1 begin span going has (sym same)

    -- the row that opens a run, and the one that closes it
    opening : (refs : List Key) → run_begin older refs ≡ None → delivers newest.rows refs ≡ true
        → Contains batch (record { parent = hashes.hash refs; load = newest.load; source = source; begin = newest.load; end = open_end })
    opening refs was now = is_batch.each refs (record { parent = hashes.hash refs; load = newest.load; source = source; begin = newest.load; end = open_end }) (rw (was, now) refl)

    closing : (refs : List Key) (begin : ℕ) → run_begin older refs ≡ Some begin → delivers newest.rows refs ≡ false
        → Contains batch (record { parent = hashes.hash refs; load = newest.load; source = source; begin = begin; end = newest.load })
    closing refs begin was now = is_batch.each refs (record { parent = hashes.hash refs; load = newest.load; source = source; begin = begin; end = newest.load }) (rw (was, now) refl)

    -- a row of the batch is a last one
    in_batch : (row : EffectRow) → Contains batch row → Contains (last_of_runs (rows_after older ++ batch)) row
    in_batch row has = last_behind (rows_after older) batch row (subst (λ (rows : List EffectRow). Contains rows row) (sym (apart_rows batch is_batch.ascending)) has)

    -- a row of the batch is of a run
    made_run : (row : EffectRow) → Contains batch row → OfRun (newest ∷ older) row
    made_run row has =
        let (refs, gives) = is_batch.only row has in
        (refs, both_lists newest older refs (effect_stands hashes source older newest refs row gives), effect_parent hashes source older newest refs row gives, by refs gives (run_begin older refs) (delivers newest.rows refs) refl refl)
      where
        by : (refs : List Key) → effect_row hashes source older newest refs ≡ Some row → (was : Option ℕ) (now : Bool) → run_begin older refs ≡ was → delivers newest.rows refs ≡ now
            → Contains (runs (newest ∷ older) refs) (record { begin = row.begin; end = row.end })
        by refs gives None false w n = let no : None ≡ Some row = rw (w, n) at gives in cc
        by refs gives (Some begin) true w n = let no : None ≡ Some row = rw (w, n) at gives in cc
        by refs gives None true w n =
            let made : Some (record { parent = hashes.hash refs; load = newest.load; source = source; begin = newest.load; end = open_end }) ≡ Some row = rw (w, n) at gives in
            let is : record { parent = hashes.hash refs; load = newest.load; source = source; begin = newest.load; end = open_end } ≡ row = cc in
            subst (λ (r : EffectRow). Contains (runs (newest ∷ older) refs) (record { begin = r.begin; end = r.end })) is
            (rw (w, n) (Contains-cons_here (record { begin = newest.load; end = open_end }) (ended_runs older refs)))
        by refs gives (Some begin) false w n =
            let made : Some (record { parent = hashes.hash refs; load = newest.load; source = source; begin = begin; end = newest.load }) ≡ Some row = rw (w, n) at gives in
            let is : record { parent = hashes.hash refs; load = newest.load; source = source; begin = begin; end = newest.load } ≡ row = cc in
            subst (λ (r : EffectRow). Contains (runs (newest ∷ older) refs) (record { begin = r.begin; end = r.end })) is
            (rw (w, n) (Contains-cons_here (record { begin = begin; end = newest.load }) (ended_runs older refs)))

    -- a last row of before that has no row of its run in the batch is still of a run
    kept_run : (row : EffectRow) → list_any (is_of_one_run row) batch ≡ false → OfRun older row → OfRun (newest ∷ older) row
    kept_run row none (refs, member, parent, has) =
        (refs, Contains-append_right (all_refs newest.rows) (lists_of older) refs member, parent, by (run_begin older refs) (delivers newest.rows refs) refl refl)
      where
        span : Span
        span = record { begin = row.begin; end = row.end }

        by : (was : Option ℕ) (now : Bool) → run_begin older refs ≡ was → delivers newest.rows refs ≡ now → Contains (runs (newest ∷ older) refs) span
        by None false w n = let old : Contains (ended_runs older refs) span = rw w at has in rw (w, n) old
        by None true w n = let old : Contains (ended_runs older refs) span = rw w at has in rw (w, n) (Contains-cons_there (record { begin = newest.load; end = open_end }) (ended_runs older refs) span old)
        by (Some begin) true w n = let old : Contains (record { begin = begin; end = open_end } ∷ ended_runs older refs) span = rw w at has in rw (w, n) old
        by (Some begin) false w n =
            let old : Contains (record { begin = begin; end = open_end } ∷ ended_runs older refs) span = rw w at has in
            rw (w, n) (Contains-cons_there (record { begin = begin; end = newest.load }) (ended_runs older refs) span (
            elim (Contains-cons_cases (record { begin = begin; end = open_end }) (ended_runs older refs) span old) [
              | inl same ↦
                  let begins : row.begin ≡ begin = ap (λ (s : Span). s.begin) (sym same) in
                  let one = and_from (bytes_eq row.parent (hashes.hash refs)) (row.begin == begin) ((bytes_eq-Decides row.parent (hashes.hash refs)).1 parent) (eq-eqb row.begin begin begins) in
                  let some = some_passes_at (is_of_one_run row) batch (record { parent = hashes.hash refs; load = newest.load; source = source; begin = begin; end = newest.load }) (closing refs begin w n) one in
                  absurd (false≢true (sym none ∙ some))
              | inr rest ↦ rest
            ]))

    module _ (refs : List Key) (own : IsOwn hashes refs (newest ∷ older)) where
      -- a run of before whose begin no row of the batch has, has its last row still
      still : (span : Span) → ((other : EffectRow) → effect_row hashes source older newest refs ≡ Some other → other.begin ≡ span.begin → ⊥) → HasRow older refs span → HasRow (newest ∷ older) refs span
      still span differs (row, has, parent, begin, end) = (row, last_before (rows_after older) batch row has (by (list_any (is_of_one_run row) batch) refl), parent, begin, end)
        where
          by : (b : Bool) → list_any (is_of_one_run row) batch ≡ b → list_any (is_of_one_run row) batch ≡ false
          by false e = e
          by true e =
              let (other, member, one) = some_passes (is_of_one_run row) batch e in
              let (parents, begins) = and_parts (bytes_eq row.parent other.parent) (row.begin == other.begin) one in
              let (its, gives) = is_batch.only other member in
              let there = both_lists newest older its (effect_stands hashes source older newest its other gives) in
              let hashed : hashes.hash its ≡ hashes.hash refs = sym (effect_parent hashes source older newest its other gives) ∙ sym ((bytes_eq-Decides row.parent other.parent).0 parents) ∙ parent in
              let same : its ≡ refs = own its there hashed in
              absurd (differs other (ap (effect_row hashes source older newest) (sym same) ∙ gives) (sym (eqb-true row.begin other.begin begins) ∙ begin))

      each_run : ((span : Span) → Contains (runs older refs) span → HasRow older refs span) → (span : Span) → Contains (runs (newest ∷ older) refs) span → HasRow (newest ∷ older) refs span
      each_run before span has = by (run_begin older refs) (delivers newest.rows refs) refl refl
        where
          by : (was : Option ℕ) (now : Bool) → run_begin older refs ≡ was → delivers newest.rows refs ≡ now → HasRow (newest ∷ older) refs span
          by None false w n =
              let old : Contains (ended_runs older refs) span = rw (w, n) at has in
              still span (λ other gives begins. let no : None ≡ Some other = rw (w, n) at gives in cc) (before span (rw w old))
          by (Some begin) true w n =
              let old : Contains (record { begin = begin; end = open_end } ∷ ended_runs older refs) span = rw (w, n) at has in
              still span (λ other gives begins. let no : None ≡ Some other = rw (w, n) at gives in cc) (before span (rw w old))
          by None true w n =
              let all : Contains (record { begin = newest.load; end = open_end } ∷ ended_runs older refs) span = rw (w, n) at has in
              elim (Contains-cons_cases (record { begin = newest.load; end = open_end }) (ended_runs older refs) span all) [
                | inl same ↦ (
                  record { parent = hashes.hash refs; load = newest.load; source = source; begin = newest.load; end = open_end },
                  in_batch (record { parent = hashes.hash refs; load = newest.load; source = source; begin = newest.load; end = open_end }) (opening refs w n),
                  refl,
                  ap (λ (s : Span). s.begin) same,
                  ap (λ (s : Span). s.end) same,
                )
                | inr old ↦
                    still span
                    (λ other gives begins.
                    let made : Some (record { parent = hashes.hash refs; load = newest.load; source = source; begin = newest.load; end = open_end }) ≡ Some other = rw (w, n) at gives in
                    let is : record { parent = hashes.hash refs; load = newest.load; source = source; begin = newest.load; end = open_end } ≡ other = cc in
                    let same : newest.load ≡ span.begin = ap (λ (r : EffectRow). r.begin) is ∙ begins in
                    let lt = early refs span old in
                    omega (arith, same, lt))
                    (before span (rw w old))
              ]
          by (Some begin) false w n =
              let all : Contains (record { begin = begin; end = newest.load } ∷ ended_runs older refs) span = rw (w, n) at has in
              elim (Contains-cons_cases (record { begin = begin; end = newest.load }) (ended_runs older refs) span all) [
                | inl same ↦ (
                  record { parent = hashes.hash refs; load = newest.load; source = source; begin = begin; end = newest.load },
                  in_batch (record { parent = hashes.hash refs; load = newest.load; source = source; begin = begin; end = newest.load }) (closing refs begin w n),
                  refl,
                  ap (λ (s : Span). s.begin) same,
                  ap (λ (s : Span). s.end) same,
                )
                | inr old ↦
                    still span
                    (λ other gives begins.
                    let made : Some (record { parent = hashes.hash refs; load = newest.load; source = source; begin = begin; end = newest.load }) ≡ Some other = rw (w, n) at gives in
                    let is : record { parent = hashes.hash refs; load = newest.load; source = source; begin = begin; end = newest.load } ≡ other = cc in
                    not_open refs begin span w old (sym (ap (λ (r : EffectRow). r.begin) is ∙ begins)))
                    (before span (rw w (Contains-cons_there (record { begin = begin; end = open_end }) (ended_runs older refs) span old)))
              ]

  -- ---- all extracts

  apart-tail : (newest : Extract) (older : List Extract) → IsApart hashes (lists_of (newest ∷ older)) → IsApart hashes (lists_of older)
  apart-tail newest older apart a b a_in b_in = apart a b (Contains-append_right (all_refs newest.rows) (lists_of older) a a_in) (Contains-append_right (all_refs newest.rows) (lists_of older) b b_in)

  pub only_runs : (all : List Extract) → IsNewestFirst (λ (extract : Extract). extract.load) all → IsApart hashes (lists_of all) → (row : EffectRow) → Contains (last_of_runs (rows_after all)) row → OfRun all row
  only_runs [] order apart row has = Contains-nil row has
  only_runs (newest ∷ older) order apart row has =
      elim (last_cases (rows_after older) (effect_batch hashes source older newest) row has) [
        | inl before ↦ kept_run newest older order apart row before.1 (only_runs older order.1 (apart-tail newest older apart) row before.0)
        | inr now ↦ made_run newest older order apart row (subst (λ (rows : List EffectRow). Contains rows row) (apart_rows (effect_batch hashes source older newest) (is_batch newest older order apart).ascending) now)
      ]

  pub all_runs : (all : List Extract) → IsNewestFirst (λ (extract : Extract). extract.load) all → IsApart hashes (lists_of all) → (refs : List Key) → IsOwn hashes refs all → (span : Span) → Contains (runs all refs) span → HasRow all refs span
  all_runs [] order apart refs own span has = Contains-nil span has
  all_runs (newest ∷ older) order apart refs own span has =
      each_run newest older order apart refs own
      (all_runs older order.1 (apart-tail newest older apart) refs (λ other there same. own other (Contains-append_right (all_refs newest.rows) (lists_of older) other there) same)) span has

  -- ---- up to a date

  batch_load : (newest : Extract) (older : List Extract) (row : EffectRow) → Contains (effect_batch hashes source older newest) row → row.load ≡ newest.load
  batch_load newest older row has =
      let (refs, member, gives) = batch_made effect_cmp (effect_row hashes source older newest) (all_refs (newest_rows older) ++ all_refs newest.rows) row has in
      let (span, found, made) = made_of _ (span_between newest.load (run_begin older refs) (delivers newest.rows refs)) row gives in
      ap (λ (r : EffectRow). r.load) (sym made)

  pub rows_up_to : (date : ℕ) (all : List Extract) → IsNewestFirst (λ (extract : Extract). extract.load) all → filter (λ row. nat_le row.load date) (rows_after all) ≡ rows_after (up_to date all)
  rows_up_to date [] order = refl
  rows_up_to date (newest ∷ older) order = filter-append (λ (row : EffectRow). nat_le row.load date) (rows_after older) (effect_batch hashes source older newest) ∙ by (nat_le newest.load date) refl (rows_up_to date older order.1)
    where
      test : EffectRow → Bool
      test row = nat_le row.load date

      by : (b : Bool) → nat_le newest.load date ≡ b → filter test (rows_after older) ≡ rows_after (up_to date older)
          → filter test (rows_after older) ++ filter test (effect_batch hashes source older newest) ≡ rows_after (up_to date (newest ∷ older))
      by true e rest =
          let whole : up_to date older ≡ older = all_up_to newest.load date older order.0 (leb-true newest.load date e) in
          let now : filter test (effect_batch hashes source older newest) ≡ effect_batch hashes source older newest = filter-all test (effect_batch hashes source older newest) (λ row has. rw (batch_load newest older row has) e) in
          rw (e, now, rest, whole) refl
      by false e rest =
          let now : filter test (effect_batch hashes source older newest) ≡ [] = filter-none test (effect_batch hashes source older newest) (λ row has. rw (batch_load newest older row has) e) in
          rw (e, now, rest) (append-nil (rows_after (up_to date older)))
