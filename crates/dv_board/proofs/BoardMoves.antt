-- Each step keeps the rule.
use Rattle.dv_board.proofs.Vocabulary.{Allows, BoardView, Bool, Joins, List, Me, Sizes, Splits, State, [], ap, arith, at_set, both_of, cases_Bool, cond, drawn, false, false≢true, get_elem?, keeps, length, less, min, mod-eq_of_lt, nat_lt, nobody, noted, once_below, or_cases, portion, refl, set}
use Rattle.dv_board.proofs.Vocabulary.{slice_index, some, some-injective, some-ne-none, subst, sym, times, total, true, true≢false, ℕ, ⊎_elim, ◌%◌, ◌++◌, ◌+◌, ◌-◌, ◌<◌, ◌^◌, ◌||◌, ◌∙◌, ◌∷◌, ◌≡◌, ◌≢◌, ◌≤◌}
use Rattle.dv_board.proofs.Sums.{total_set, total_snoc, all_set, all_snoc, total_at, times-append, sole}
use Rattle.dv_board.specs.BoardRule.{Fits, Holds}

noted_le : (v : BoardView) → noted v ≤ v.share
noted_le v = elim v.had_none as (λ b. cond b v.share 0 ≤ v.share) [ true ↦ omega arith | false ↦ omega arith ]

total_noted : (views : List BoardView) → total noted views ≤ total (λ v. v.share) views
total_noted [] = omega arith
total_noted (x ∷ xs) = let t = total_noted xs in let u = noted_le x in omega (arith, t, u)

-- one view, where the word has risen
fits_on : (k : Sizes) (n m : ℕ) (v : BoardView) → n ≤ m → Fits k n v → Fits k m v
fits_on k n m v le fit = record { spent = fit.spent; sizes = fit.sizes; some_share = fit.some_share; past = λ h. let t = fit.past h in omega (arith, t) }

set_first : (ws : List ℕ) (m : ℕ) → length ws ≡ 1 → (slice_index (set ws 0 m) 0 ≡ m) × (length (set ws 0 m) ≡ 1)
set_first [] m e = absurd (omega (arith, e))
set_first (w ∷ ws) m e = (refl, e)

-- the rule after a step of one seat on the word
module _ (k : Sizes) (s : State ℕ BoardView) (id : ℕ) (v w : BoardView) (m : ℕ) where
  holds_after : Holds k s → get_elem? s.views id ≡ some v → slice_index s.words 0 ≤ m → Fits k m w → w.share ≡ v.share
      → ((x : ℕ) → times x w.claims + once_below x (min (slice_index s.words 0) k.tasks) ≡ times x v.claims + once_below x (min m k.tasks))
      → m ≤ k.tasks + (total noted s.views + noted w - noted v)
      → noted v ≤ noted w
      → Holds k record { words = set s.words 0 m; homes = s.homes; views = set s.views id w }
  holds_after h at le fits share claims high more =
      let first = set_first s.words m h.one_word in record {
        each = λ j u e. subst (λ n. Fits k n u) (sym first.0) (all_set (Fits k m) s.views id w (λ j u e. fits_on k (slice_index s.words 0) m u le (h.each j u e)) fits j u e);
        shares = (let t = total_set (λ u. u.share) s.views id v w at in let p = h.shares in omega (arith, t, p, share));
        claimed = λ x. subst (λ n. total (λ u. times x u.claims) (set s.views id w) ≡ once_below x (min n k.tasks)) (sym first.0)
            (let t = total_set (λ u. times x u.claims) s.views id v w at in let p = h.claimed x in let q = claims x in omega (arith, t, p, q));
        one_word = first.1;
        high = subst (λ n. n ≤ k.tasks + total noted (set s.views id w)) (sym first.0)
            (let t = total_set noted s.views id v w at in let q = total_at noted s.views id v at in omega (arith, t, q, high, more));
      }

-- what a claim does, by whether the number is below the tasks
claimed_by : (b : Bool) (k : Sizes) (s : State ℕ BoardView) (id : ℕ) (v : BoardView) → nat_lt (slice_index s.words 0) v.tasks ≡ b
    → v.had_none ≡ false → v.is_spent ≡ false → v.tasks ≡ k.tasks → Holds k s → get_elem? s.views id ≡ some v
    → Holds k record { words = set s.words 0 (slice_index s.words 0 + 1); homes = s.homes; views = set s.views id (cond b (record v { claims = v.claims ++ slice_index s.words 0 ∷ [] }) (record v { had_none = true })) }
claimed_by true k s id v lt fresh live tasks h at =
    let n = slice_index s.words 0 in
    let below : n < k.tasks = grind (arith, lt, tasks) in
    let fit = h.each id v at in
    let w : BoardView = record v { claims = v.claims ++ n ∷ [] } in
    let none_v : noted v ≡ 0 = ap (λ b. cond b v.share 0) fresh in
    holds_after k s id v w (n + 1) h at (omega arith)
    record { spent = λ e. absurd (false≢true (sym live ∙ e)); sizes = fit.sizes; some_share = fit.some_share; past = λ e. absurd (false≢true (sym fresh ∙ e)) }
    refl
    (λ x. let t = times-append x v.claims (n ∷ []) in grind (arith, t, below))
    (omega (arith, below))
    (omega arith)
claimed_by false k s id v lt fresh live tasks h at =
    let n = slice_index s.words 0 in
    let above : k.tasks ≤ n = grind (arith, lt, tasks) in
    let fit = h.each id v at in
    let w : BoardView = record v { had_none = true } in
    let none_v : noted v ≡ 0 = ap (λ b. cond b v.share 0) fresh in
    let one = fit.some_share live in
    let high = h.high in
    holds_after k s id v w (n + 1) h at (omega arith)
    record { spent = λ e. absurd (false≢true (sym live ∙ e)); sizes = fit.sizes; some_share = fit.some_share; past = λ e. omega (arith, above) }
    refl
    (λ x. grind (arith, above))
    (omega (arith, none_v, one, high))
    (omega (arith, none_v))

below_word : (k : Sizes) (s : State ℕ BoardView) (id : ℕ) (v : BoardView) → Holds k s → get_elem? s.views id ≡ some v → (x : ℕ) → 1 ≤ times x v.claims → x < slice_index s.words 0
below_word k s id v h at x one =
    let t = total_at (λ u. times x u.claims) s.views id v at in
    let p = h.claimed x in
    grind (arith, t, p, one)

pub claims : (k : Sizes) (slots id : ℕ) (me : Me ℕ BoardView) → me.0.had_none ≡ false → me.0.is_spent ≡ false → me.0.tasks ≡ k.tasks → k.tasks + k.workers < 2 ^ 63
    → Allows (Holds k) slots id me 0 (λ n. (n + 1) % 2 ^ 64) (λ n after. (after ≡ (drawn me.0 n, me.1)) × ((x : ℕ) → 1 ≤ times x me.0.claims → x < n))
claims k slots id me fresh live tasks small s h len at below =
    let n = slice_index s.words 0 in
    let t = total_noted s.views in
    let shares = h.shares in
    let high = h.high in
    let fits : (n + 1) % 2 ^ 64 ≡ n + 1 = mod-eq_of_lt (omega (arith, t, shares, high, small)) in
    let b = nat_lt n me.0.tasks in
    (drawn me.0 n, keeps, tt, subst (λ m. Holds k record { words = set s.words 0 m; homes = s.homes; views = set s.views id (drawn me.0 n) }) (sym fits) (claimed_by b k s id me.0 refl fresh live tasks h at), (refl, λ x one. below_word k s id me.0 h at x one))

noted_cut : (b : Bool) (share part : ℕ) → part < share → cond b (share - part) 0 + cond b part 0 ≡ cond b share 0
noted_cut b share part lt = grind (arith, lt)

pub splits : (k : Sizes) (id part : ℕ) (v : BoardView) → v.is_spent ≡ false → 1 ≤ part → part < v.share → Splits (Holds k) id v (less part v) (portion part v)
splits k id part v live one lt s h at =
    let n = slice_index s.words 0 in
    let fit = h.each id v at in
    let l = less part v in
    let r = portion part v in
    let fits_l : Fits k n l = record { spent = λ e. absurd (false≢true (sym live ∙ e)); sizes = fit.sizes; some_share = λ _. omega (arith, lt); past = fit.past } in
    let fits_r : Fits k n r = record { spent = λ e. absurd (false≢true (sym live ∙ e)); sizes = fit.sizes; some_share = λ _. one; past = fit.past } in record {
      each = all_snoc (Fits k n) (set s.views id l) r (all_set (Fits k n) s.views id l h.each fits_l) fits_r;
      shares = (let t = total_set (λ u. u.share) s.views id v l at in let q = total_snoc (λ u. u.share) (set s.views id l) r in let p = h.shares in omega (arith, t, q, p, lt));
      claimed = λ x. (let t = total_set (λ u. times x u.claims) s.views id v l at in let q = total_snoc (λ u. times x u.claims) (set s.views id l) r in let p = h.claimed x in omega (arith, t, q, p));
      one_word = h.one_word;
      high = (let t = total_set noted s.views id v l at in let q = total_snoc noted (set s.views id l) r in let p = h.high in let c = noted_cut v.had_none v.share part lt in omega (arith, t, q, p, c));
    }

noted_glued : (b c : Bool) (m n : ℕ) → cond b m 0 + cond c n 0 ≤ cond (b || c) (m + n) 0
noted_glued b c m n = grind arith

nobody_fits : (k : Sizes) (n : ℕ) → Fits k n nobody
nobody_fits k n = record { spent = λ _. refl; sizes = λ e. absurd (true≢false e); some_share = λ e. absurd (true≢false e); past = λ e. absurd (false≢true e) }

pub joins : (k : Sizes) (id other : ℕ) (v w : BoardView) → v.is_spent ≡ false → w.is_spent ≡ false → Joins (Holds k) id v other w (both_of v w) nobody
joins k id other v w live live_w s h at apart there =
    let n = slice_index s.words 0 in
    let b = both_of v w in
    let fit = h.each id v at in
    let at_other = ⊎_elim (λ (t : (other ≡ id) × (b ≡ w)). absurd (apart t.0)) (λ (t : (other ≢ id) × (get_elem? s.views other ≡ some w)). t.1) (at_set s.views id other b w there) in
    let fit_w = h.each other w at_other in
    let one = fit.some_share live in
    let fits_b : Fits k n b = record { spent = λ e. absurd (false≢true (sym live ∙ e)); sizes = fit.sizes; some_share = λ _. omega (arith, one); past = λ e. ⊎_elim fit.past fit_w.past (or_cases v.had_none w.had_none e) } in record {
      each = all_set (Fits k n) (set s.views id b) other nobody (all_set (Fits k n) s.views id b h.each fits_b) (nobody_fits k n);
      shares = (let t = total_set (λ u. u.share) s.views id v b at in let q = total_set (λ u. u.share) (set s.views id b) other w nobody there in let p = h.shares in omega (arith, t, q, p));
      claimed = λ x. (let t = total_set (λ u. times x u.claims) s.views id v b at in let q = total_set (λ u. times x u.claims) (set s.views id b) other w nobody there in let p = h.claimed x in let a = times-append x v.claims w.claims in omega (arith, t, q, p, a));
      one_word = h.one_word;
      high = (let t = total_set noted s.views id v b at in let q = total_set noted (set s.views id b) other w nobody there in let p = h.high in let g = noted_glued v.had_none w.had_none v.share w.share in omega (arith, t, q, p, g));
    }

pub closes : (k : Sizes) (s : State ℕ BoardView) (id : ℕ) (v : BoardView) → Holds k s → get_elem? s.views id ≡ some v → v.share ≡ k.workers → (x : ℕ) → times x v.claims ≡ once_below x (min (slice_index s.words 0) k.tasks)
closes k s id v h at whole x =
    let alone = sole (λ u. u.share) (λ u. times x u.claims) s.views id v at (h.shares ∙ sym whole)
    (λ j u e none. ⊎_elim
    (λ spent. ap (λ (y : BoardView). times x y.claims) ((h.each j u e).spent spent))
    (λ live. let o = (h.each j u e).some_share live in absurd (omega (arith, o, none)))
    (cases_Bool u.is_spent)) in
    sym alone ∙ h.claimed x

pub first_word : (ws : List ℕ) (n : ℕ) → get_elem? ws 0 ≡ some n → slice_index ws 0 ≡ n
first_word [] n e = absurd (some-ne-none n (sym e))
first_word (w ∷ ws) n e = some-injective w n e
