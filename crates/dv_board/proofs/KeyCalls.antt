-- What the steps of a key table ask: an exchange and a `fetch_min` of an offer, a split and a join.
use Rattle.dv_board.proofs.Vocabulary.{Allows, AreLawful, AreOthers, Bool, Fits, HasSlot, Holds, IsKept, IsOffered, IsUnderWay, Joins, KeyView, Keys, List, Me, Splits, State, Tells, [], ap, arith, at_longer, at_set, begun, cases_Bool, cases_eq, cases_lt, class_of, cond, either, eq-eqb, eqb}
use Rattle.dv_board.proofs.Vocabulary.{exchanged, false, false≢true, fresh_view, get_elem?, get_or, home_of, inl, inr, keeps, length, met_by, min, ne_eqb, offered, refl, replicate, set, set-get_or, set_else, set_here, some, some-injective, subst, suc, sym, times, true, true≢false, word_at, zero}
use Rattle.dv_board.proofs.Vocabulary.{ℕ, ⊎_elim, ◌*◌, ◌++◌, ◌+◌, ◌-◌, ◌<◌, ◌∙◌, ◌∷◌, ◌≡◌, ◌≢◌, ◌≤◌, ◌⊎◌}
use Rattle.dv_board.proofs.{Sums.total_set, Sums.total_snoc, Sums.all_set, Sums.all_snoc, Sums.at_only, Sums.times-append, KeyMoves.in_range, KeyMoves.offered_set, KeyMoves.Stands, KeyMoves.stands, KeyMoves.views_change, KeyMoves.wins, KeyMoves.lowers, KeyMoves.begins, KeyMoves.SameBut}
use Rattle.dv_board.proofs.{KeyRoom.room_left}
use Rattle.dv_board.specs.KeyRule.{nobody, less, portion, both_of}

set_set : (views : List KeyView) (i : ℕ) (a b : KeyView) → set (set views i a) i b ≡ set views i b
set_set [] i a b = refl
set_set (x ∷ xs) zero a b = refl
set_set (x ∷ xs) (suc i) a b = ap (λ l. x ∷ l) (set_set xs i a b)

-- a probe that was under way, or a new one
begun_cases : (P : KeyView → Type 0) (v : KeyView) (a : ℕ) → (v.is_probing ≡ true → P v) → (v.is_probing ≡ false → P record v { is_probing = true; item = a; passed = 0; has_met = false }) → P (begun v a)
begun_cases P v a on none =
    let Q : Bool → Type 0 = λ c. P (cond c v (record v { is_probing = true; item = a; passed = 0; has_met = false })) in
    ⊎_elim (λ (is : v.is_probing ≡ true). subst Q (sym is) (on is)) (λ (is : v.is_probing ≡ false). subst Q (sym is) (none is)) (cases_Bool v.is_probing)

pub begun_same : (v : KeyView) (a : ℕ) → SameBut v (begun v a)
begun_same v a = begun_cases (SameBut v) v a (λ _. (refl, refl, refl, refl, refl)) (λ _. (refl, refl, refl, refl, refl))

pub begun_on : (v : KeyView) (a : ℕ) → (begun v a).is_probing ≡ true
begun_on v a = begun_cases (λ w. w.is_probing ≡ true) v a (λ on. on) (λ _. refl)

-- an exchange by what it found: an empty slot, an item that is the same, or another one
met_empty : (b : KeyView) (n : ℕ) → n ≡ 0 → met_by b n ≡ offered b
met_empty b n empty = rw (eq-eqb n 0 empty) refl

pub met_same : (b : KeyView) (n : ℕ) → n ≢ 0 → get_or b.classes (n - 1) 0 ≡ get_or b.classes b.item 0 → met_by b n ≡ record b { has_met = true }
met_same b n full same = rw (ne_eqb n 0 full, eq-eqb (get_or b.classes (n - 1) 0) (get_or b.classes b.item 0) same) refl

met_other : (b : KeyView) (n : ℕ) → n ≢ 0 → get_or b.classes (n - 1) 0 ≢ get_or b.classes b.item 0 → met_by b n ≡ record b { passed = b.passed + 1 }
met_other b n full apart = rw (ne_eqb n 0 full, ne_eqb (get_or b.classes (n - 1) 0) (get_or b.classes b.item 0) apart) refl

pub meets : (k : Keys) → AreLawful k → (slots id : ℕ) (v : KeyView) (carried : List (ℕ × ℕ)) (p a : ℕ) → v.is_spent ≡ false → a < length k.classes → (begun v a).item ≡ a → (begun v a).has_met ≡ false
    → p ≡ home_of k a + (begun v a).passed → p < 3 * length k.classes + 1
    → Allows (Holds k) slots id (v, carried) p (λ n. either (eqb n 0) (a + 1) n) (Tells v a carried)
meets k law slots id v carried p a live below item fresh is room s h len at _ =
    let b = begun v a in
    let n = word_at s.words p in
    let but = begun_same v a in
    let probe = begun_cases (IsUnderWay k s.words) v a (h.probing id v at) (λ _. record { item = below; passed = λ j lo hi. absurd (omega (arith, lo, hi)); met = λ met. absurd (false≢true met) }) in
    let known = (h.each id v at).keys live in
    let lists : length v.classes ≡ length k.classes = ap length known.0 in
    let classes : b.classes ≡ k.classes = but.2 ∙ known.0 in
    let place : p ≡ home_of k b.item + b.passed = is ∙ ap (λ x. home_of k x + b.passed) (sym item) in
    let inside : p < length s.words = let z = h.sized in omega (arith, z, room) in
    let clear : n ≢ 0 → get_or b.classes (n - 1) 0 ≢ get_or b.classes b.item 0 → AreOthers k s.words (home_of k b.item) (home_of k b.item + (b.passed + 1)) (class_of k b.item) = λ full apart j lo hi. ⊎_elim
    (λ (before : j < home_of k b.item + b.passed). probe.passed j lo before)
    (λ (last : home_of k b.item + b.passed ≤ j). let e : p ≡ j = omega (arith, hi, last, place) in
    subst (λ i. (word_at s.words i ≢ 0) × (class_of k (word_at s.words i - 1) ≢ class_of k b.item)) e (full, subst (λ l. get_or l (n - 1) 0 ≢ get_or l b.item 0) classes apart))
    (cases_lt j (home_of k b.item + b.passed)) in
    let far : n ≢ 0 → get_or v.classes (n - 1) 0 ≢ get_or v.classes b.item 0 → b.passed + 1 < length v.classes = λ full apart.
    let bound = room_left k law s b.item (b.passed + 1) h probe.item (clear full (subst (λ l. get_or l (n - 1) 0 ≢ get_or l b.item 0) (sym but.2) apart)) in omega (arith, bound, lists) in
    let Post : ℕ → KeyView → Type 0 = λ m w. Holds k record { words = set s.words p m; homes = s.homes; views = set s.views id w } in
    let takes : n ≡ 0 → Post (a + 1) (met_by b n) = λ empty.
    let h1 = begins k s id v b h at live but probe in
    let won = wins k record { words = s.words; homes = s.homes; views = set s.views id b } id b p h1 (set_here s.views id b (in_range s.views id v at)) (but.4 ∙ live) (begun_on v a) place inside empty in
    subst (Post (a + 1)) (sym (met_empty b n empty)) (subst (λ (x : ℕ × List KeyView). Holds k record { words = set s.words p (x.0 + 1); homes = s.homes; views = x.1 }) (λ i. (item i, set_set s.views id b (offered b) i)) won) in
    let stays : (w : KeyView) → SameBut v w → IsUnderWay k s.words w → Post n w = λ w same under.
    subst (λ ws. Holds k record { words = ws; homes = s.homes; views = set s.views id w }) (sym (set-get_or s.words p 0)) (begins k s id v w h at live same under) in
    let looks : n ≢ 0 → Post n (met_by b n) = λ full. ⊎_elim
    (λ (same : get_or b.classes (n - 1) 0 ≡ get_or b.classes b.item 0). subst (Post n) (sym (met_same b n full same)) (stays (record b { has_met = true }) but record {
      item = probe.item;
      passed = probe.passed;
      met = λ _. subst (λ i. (word_at s.words i ≢ 0) × (class_of k (word_at s.words i - 1) ≡ class_of k b.item)) place (full, subst (λ l. get_or l (n - 1) 0 ≡ get_or l b.item 0) classes same);
    }))
    (λ (apart : get_or b.classes (n - 1) 0 ≡ get_or b.classes b.item 0 → ⊥).
    subst (Post n) (sym (met_other b n full apart)) (stays (record b { passed = b.passed + 1 }) but record { item = probe.item; passed = clear full apart; met = λ met. absurd (false≢true (sym fresh ∙ met)) }))
    (cases_eq (get_or b.classes (n - 1) 0) (get_or b.classes b.item 0)) in
    (met_by b n, keeps, tt, exchanged n 0 (a + 1) (λ m. Post m (met_by b n)) takes looks, (refl, (λ full. let lt = (h.taken p full).item in omega (arith, lt, lists)), far))

-- the same, at the word that the code stores
pub meets_as : (k : Keys) → AreLawful k → (slots id : ℕ) (me : Me ℕ KeyView) (p a x : ℕ) → x ≡ a → me.0.is_spent ≡ false → a < length k.classes → (begun me.0 a).item ≡ a → (begun me.0 a).has_met ≡ false
    → p ≡ home_of k a + (begun me.0 a).passed → p < 3 * length k.classes + 1
    → Allows (Holds k) slots id me p (λ n. either (eqb n 0) (x + 1) n) (Tells me.0 (x + 1 - 1) me.1)
meets_as k law slots id me p a x same live below item fresh is room =
    let e : a ≡ x + 1 - 1 = omega (arith, same) in
    subst (λ (z : ℕ × ℕ). Allows (Holds k) slots id me p (λ n. either (eqb n 0) (z.0 + 1) n) (Tells me.0 z.1 me.1)) (λ i. (sym same i, e i)) (meets k law slots id me.0 me.1 p a live below item fresh is room)

-- a lesser item is put into the word that was met
pub lowers_as : (k : Keys) → AreLawful k → (slots id : ℕ) (me : Me ℕ KeyView) (p x : ℕ) → x ≡ me.0.item → me.0.is_spent ≡ false → me.0.is_probing ≡ true → me.0.has_met ≡ true → p ≡ home_of k me.0.item + me.0.passed → p < 3 * length k.classes + 1
    → Allows (Holds k) slots id me p (λ n. min n (x + 1)) (λ n after. after ≡ (offered me.0, me.1))
lowers_as k law slots id me p x same live on met is room s h len at _ =
    let n = word_at s.words p in
    let probe = h.probing id me.0 at on in
    let full : n ≢ 0 = subst (λ i. word_at s.words i ≢ 0) (sym is) (probe.met met).0 in
    let inside : p < length s.words = let z = h.sized in omega (arith, z, room) in
    let which : (min n (me.0.item + 1) ≡ n) ⊎ (min n (me.0.item + 1) ≡ me.0.item + 1) =
    ⊎_elim (λ (lt : n < me.0.item + 1). inl (omega (arith, lt))) (λ (ge : me.0.item + 1 ≤ n). inr (omega (arith, ge))) (cases_lt n (me.0.item + 1)) in (
      offered me.0,
      keeps,
      tt,
      subst (λ y. Holds k record { words = set s.words p (min n (y + 1)); homes = s.homes; views = set s.views id (offered me.0) }) (sym same)
          (lowers k law s id me.0 p (min n (me.0.item + 1)) h at live on met is inside (λ e. full (omega (arith, e))) (omega arith) (omega arith) which),
      refl,
    )

-- offers of a view that is cut in two, or of any other
split_offers : (views : List KeyView) (id : ℕ) (v l r : KeyView) → get_elem? views id ≡ some v → l.offers ≡ v.offers → (a : ℕ) → IsOffered views a → IsOffered (set views id l ++ r ∷ []) a
split_offers views id v l r at offers a o =
    let t = offered_set views id v l at (λ a one. subst (λ xs. 1 ≤ times a xs) (sym offers) one) a o in
    (t.0, t.1, at_longer (set views id l) (r ∷ []) t.0 t.1 t.2, t.3)

pub splits : (k : Keys) (id part : ℕ) (v : KeyView) → v.is_spent ≡ false → 1 ≤ part → part < v.share → Splits (Holds k) id v (less part v) (portion part v)
splits k id part v live one lt s h at =
    let l = less part v in
    let r = portion part v in
    let fit = h.each id v at in
    let fits_l : Fits k l = record { spent = λ e. absurd (false≢true (sym live ∙ e)); keys = fit.keys; some_share = λ _. omega (arith, lt) } in
    let fits_r : Fits k r = record { spent = λ e. absurd (false≢true (sym live ∙ e)); keys = fit.keys; some_share = λ _. one } in
    views_change k s (set s.views id l ++ r ∷ []) h
    (all_snoc (Stands k s.words) (set s.views id l) r
    (all_set (Stands k s.words) s.views id l (stands k s h) (fits_l, h.finished id v at, (λ on. let p = h.probing id v at on in record { item = p.item; passed = p.passed; met = p.met })))
    (fits_r, (λ a none. absurd (omega (arith, none))), (λ on. let p = h.probing id v at on in record { item = p.item; passed = p.passed; met = p.met })))
    (split_offers s.views id v l r at refl)
    (let t = total_set (λ u. u.share) s.views id v l at in let q = total_snoc (λ u. u.share) (set s.views id l) r in omega (arith, t, q, lt))

-- offers of a view that another takes in, or of any other
join_offers : (views : List KeyView) (id other : ℕ) (v w b n : KeyView) → get_elem? views id ≡ some v → get_elem? views other ≡ some w → (other ≡ id → ⊥) → b.offers ≡ v.offers ++ w.offers → (a : ℕ) → IsOffered views a → IsOffered (set (set views id b) other n) a
join_offers views id other v w b n at there apart offers a o =
    let both : times a b.offers ≡ times a v.offers + times a w.offers = ap (times a) offers ∙ times-append a v.offers w.offers in
    let at_id : get_elem? (set (set views id b) other n) id ≡ some b = set_else (set views id b) other id n (λ e. apart (sym e)) ∙ set_here views id b (in_range views id v at) in
    ⊎_elim
    (λ (same : o.0 ≡ id).
    let is : v ≡ o.1 = some-injective v o.1 (sym at ∙ (subst (λ j. get_elem? views j ≡ some o.1) same o.2)) in
    let one = subst (λ (u : KeyView). 1 ≤ times a u.offers) (sym is) o.3 in
    (id, b, at_id, omega (arith, both, one)))
    (λ (not_id : o.0 ≡ id → ⊥). ⊎_elim
    (λ (same : o.0 ≡ other).
    let is : w ≡ o.1 = some-injective w o.1 (sym there ∙ (subst (λ j. get_elem? views j ≡ some o.1) same o.2)) in
    let one = subst (λ (u : KeyView). 1 ≤ times a u.offers) (sym is) o.3 in
    (id, b, at_id, omega (arith, both, one)))
    (λ (not_other : o.0 ≡ other → ⊥). (o.0, o.1, set_else (set views id b) other o.0 n not_other ∙ (set_else views id o.0 b not_id ∙ o.2), o.3))
    (cases_eq o.0 other))
    (cases_eq o.0 id)

nobody_fits : (k : Keys) → Fits k nobody
nobody_fits k = record { spent = λ _. refl; keys = λ e. absurd (true≢false e); some_share = λ e. absurd (true≢false e) }

pub joins : (k : Keys) (id other : ℕ) (v w : KeyView) → v.is_spent ≡ false → Joins (Holds k) id v other w (both_of v w) nobody
joins k id other v w live s h at apart there =
    let b = both_of v w in
    let fit = h.each id v at in
    let one = fit.some_share live in
    let at_other = ⊎_elim (λ (t : (other ≡ id) × (b ≡ w)). absurd (apart t.0)) (λ (t : (other ≢ id) × (get_elem? s.views other ≡ some w)). t.1) (at_set s.views id other b w there) in
    let fits_b : Fits k b = record { spent = λ e. absurd (false≢true (sym live ∙ e)); keys = fit.keys; some_share = λ _. omega (arith, one) } in
    let has_b : (a : ℕ) → 1 ≤ times a b.offers → HasSlot k s.words a = λ a some_a. let t = times-append a v.offers w.offers in ⊎_elim
    (λ (mine : 0 < times a v.offers). h.finished id v at a (omega (arith, mine)))
    (λ (none : times a v.offers ≤ 0). h.finished other w at_other a (omega (arith, none, t, some_a)))
    (cases_lt 0 (times a v.offers)) in
    views_change k s (set (set s.views id b) other nobody) h
    (all_set (Stands k s.words) (set s.views id b) other nobody
    (all_set (Stands k s.words) s.views id b (stands k s h) (fits_b, has_b, (λ on. let p = h.probing id v at on in record { item = p.item; passed = p.passed; met = p.met })))
    (nobody_fits k, (λ a none. absurd (omega (arith, none))), (λ on. absurd (false≢true on))))
    (join_offers s.views id other v w b nobody at at_other apart refl)
    (let t = total_set (λ u. u.share) s.views id v b at in let q = total_set (λ u. u.share) (set s.views id b) other w nobody there in omega (arith, t, q))

-- A seat that has a share knows what the items are, so the rule holds for them.
pub known : (size : ℕ) (k : Keys) (s : State ℕ KeyView) (id : ℕ) (v : KeyView) → IsKept size s → get_elem? s.views id ≡ some v → v.is_spent ≡ false → 1 ≤ v.share → v.classes ≡ k.classes → v.homes ≡ k.homes → Holds k s
known size k s id v kept at live share classes homes =
    ⊎_elim
    (λ (new : (s.words ≡ replicate size 0) × (s.views ≡ fresh_view ∷ [])).
    let none = ap (λ (y : KeyView). y.share) (at_only fresh_view v id (subst (λ l. get_elem? l id ≡ some v) new.1 at)).1 in
    absurd (omega (arith, none, share)))
    (λ (held : (j : Keys) × Holds j s).
    let keys = (held.1.each id v at).keys live in
    subst (λ (j : Keys). Holds j s) (λ i. record { classes = (sym keys.0 ∙ classes) i; homes = (sym keys.1 ∙ homes) i }) held.1)
    kept

-- so a step that keeps the rule for the items is one that the table allows
pub allows : (size : ℕ) (k : Keys) (slots id : ℕ) (me : Me ℕ KeyView) (p : ℕ) (f : ℕ → ℕ) (then : ℕ → Me ℕ KeyView → Type 0) → me.0.is_spent ≡ false → 1 ≤ me.0.share → me.0.classes ≡ k.classes → me.0.homes ≡ k.homes
    → Allows (Holds k) slots id me p f then → Allows (IsKept size) slots id me p f then
allows size k slots id me p f then live share classes homes step s kept len at below =
    let t = step s (known size k s id me.0 kept at live share classes homes) len at below in
    (t.0, t.1, t.2, inr (k, t.3), t.4)
