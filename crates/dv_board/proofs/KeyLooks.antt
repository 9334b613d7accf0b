-- What a look asks, which comes before the exchange of an offer.
use Rattle.dv_board.proofs.Vocabulary.{Allows, HasSlot, Holds, KeyView, Keys, Me, State, [], and_parts, ap, arith, begun, cases_lt, class_of, cond, cond_both, eqb-true, false, false≢true, get_elem?, get_or, is_settled_by, keeps, length, nat_le, nat_lt, nat_tests, length-replicate, get_or_past, get_or-replicate, replicate, offered, refl, set, set-get_or}
use Rattle.dv_board.proofs.Vocabulary.{some, subst, sym, times, true, word_at, ℕ, ⊎_elim, ◌-◌, ◌<◌, ◌==◌, ◌∙◌, ◌∷◌, ◌≡◌, ◌≢◌, ◌≤◌}
use Rattle.dv_board.proofs.{Sums.total_set, Sums.all_set, Sums.times-append, KeyMoves.fits_live, KeyMoves.offered_set, KeyMoves.Stands, KeyMoves.stands, KeyMoves.times_miss, KeyMoves.views_change, KeyCalls.begun_same}

-- a look that saw an item which is the same and not greater: the offer is finished
settles : (k : Keys) (s : State ℕ KeyView) (id : ℕ) (v : KeyView) (p a : ℕ) → Holds k s → get_elem? s.views id ≡ some v → v.is_spent ≡ false → v.classes ≡ k.classes → (begun v a).item ≡ a → is_settled_by v a (word_at s.words p) ≡ true → Stands k s.words (offered (begun v a))
settles k s id v p a h at live classes item settled =
    let b = begun v a in
    let n = word_at s.words p in
    let but = begun_same v a in
    let (small, same) = and_parts _ (get_or v.classes (n - 1) 0 == get_or v.classes a 0) settled in
    let (full, low) = and_parts (nat_lt 0 n) (nat_le (n - 1) a) small in
    let class : class_of k (n - 1) ≡ class_of k a = subst (λ l. get_or l (n - 1) 0 ≡ get_or l a 0) classes (eqb-true _ _ same) in
    let slot : HasSlot k s.words a = (p, (λ e. let is = ap (nat_lt 0) e in absurd (false≢true (sym is ∙ full))), class, grind (arith, nat_tests, low)) in
    let has : (x : ℕ) → 1 ≤ times x (offered b).offers → HasSlot k s.words x = λ x one. let e = ap (times x) but.0 in let t = times-append x b.offers (b.item ∷ []) in ⊎_elim
    (λ (old : 0 < times x v.offers). h.finished id v at x (omega (arith, old)))
    (λ (none : times x v.offers ≤ 0). subst (HasSlot k s.words) (sym item ∙ times_miss x b.item (omega (arith, t, e, none, one))) slot)
    (cases_lt 0 (times x v.offers)) in
    (fits_live k v (offered b) (h.each id v at) live but.4 but.2 but.3 but.1, has, λ on. absurd (false≢true on))

-- a look changes no word, so a view that stands may take the place of the one that looked
looked : (k : Keys) (s : State ℕ KeyView) (id : ℕ) (v w : KeyView) (p : ℕ) → Holds k s → get_elem? s.views id ≡ some v → Stands k s.words w → ((x : ℕ) → 1 ≤ times x v.offers → 1 ≤ times x w.offers) → w.share ≡ v.share
    → Holds k record { words = set s.words p (word_at s.words p); homes = s.homes; views = set s.views id w }
looked k s id v w p h at stand more share =
    subst (λ ws. Holds k record { words = ws; homes = s.homes; views = set s.views id w }) (sym (set-get_or s.words p 0))
    (views_change k s (set s.views id w) h (all_set (Stands k s.words) s.views id w (stands k s h) stand) (offered_set s.views id v w at more)
    (let t = total_set (λ u. u.share) s.views id v w at in omega (arith, t, share)))

-- where nothing was looked at, no word is there
pub no_words : (place : ℕ) → ◌≡◌ {A = ℕ} (get_or (replicate 32 0) place 0) 0
no_words place = ⊎_elim (λ (under : place < 32). get_or-replicate 32 place 0 0 under) (λ (past : 32 ≤ place). get_or_past (replicate 32 0) place 0 (omega (arith, length-replicate {A = ℕ} 32 0, past))) (cases_lt place 32)

-- a word that is found names an item
named : (k : Keys) (s : State ℕ KeyView) (v : KeyView) (p : ℕ) → Holds k s → v.classes ≡ k.classes → word_at s.words p ≢ 0 → word_at s.words p - 1 < length v.classes
named k s v p h classes full = let lt = (h.taken p full).item in let lists = ap length classes in omega (arith, lt, lists)

-- a look that tells no more changes nothing
pub peeks : (k : Keys) (slots id : ℕ) (me : Me ℕ KeyView) (p : ℕ) → me.0.classes ≡ k.classes → Allows (Holds k) slots id me p (λ n. n) (λ n after. (after ≡ me) × (n ≢ 0 → n - 1 < length me.0.classes))
peeks k slots id me p classes s h len at _ =
    (me.0, keeps, tt, looked k s id me.0 me.0 p h at (stands k s h id me.0 at) (λ _ one. one) refl, (refl, named k s me.0 p h classes))

-- a look changes no word, and finishes the offer or leaves the view
pub looks : (k : Keys) (slots id : ℕ) (me : Me ℕ KeyView) (p a : ℕ) → me.0.is_spent ≡ false → me.0.classes ≡ k.classes → (begun me.0 a).item ≡ a
    → Allows (Holds k) slots id me p (λ n. n) (λ n after. (after ≡ (cond (is_settled_by me.0 a n) (offered (begun me.0 a)) me.0, me.1)) × (n ≢ 0 → n - 1 < length me.0.classes))
looks k slots id me p a live classes item s h len at _ =
    let v = me.0 in
    let b = begun v a in
    let n = word_at s.words p in
    let but = begun_same v a in
    let Post : KeyView → Type 0 = λ w. Holds k record { words = set s.words p n; homes = s.homes; views = set s.views id w } in
    let more : (x : ℕ) → 1 ≤ times x v.offers → 1 ≤ times x (offered b).offers = λ x one. let e = ap (times x) but.0 in let t = times-append x b.offers (b.item ∷ []) in omega (arith, e, t, one) in (
      cond (is_settled_by v a n) (offered b) v,
      keeps,
      tt,
      cond_both (is_settled_by v a n) (offered b) v Post (λ settled. looked k s id v (offered b) p h at (settles k s id v p a h at live classes item settled) more but.1) (λ _. looked k s id v v p h at (stands k s h id v at) (λ _ one. one) refl),
      (refl, named k s v p h classes),
    )
