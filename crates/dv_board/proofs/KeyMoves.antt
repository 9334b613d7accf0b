-- The two steps of an offer keep the rule: it takes an empty slot, or lowers the slot that it met.
use Rattle.dv_board.proofs.Vocabulary.{AreLawful, AreOthers, Fits, HasSlot, Holds, IsOffered, IsTaken, IsUnderWay, KeyView, Keys, List, State, [], ap, arith, cases_eq, cases_lt, class_of, false, false≢true, get_elem?, get_or-set_other, get_or-set_same, home_of, length, length-set, offered, refl}
use Rattle.dv_board.proofs.Vocabulary.{set, set_else, set_here, some, some-injective, some-ne-none, subst, suc, sym, times, total, true, word_at, zero, ℕ, ⊎_elim, ◌%◌, ◌*◌, ◌+◌, ◌-◌, ◌<◌, ◌∙◌, ◌∷◌, ◌≡◌, ◌≢◌, ◌≤◌, ◌⊎◌}
use Rattle.dv_board.proofs.Sums.{total_set, all_set, times-append, times_last}

pub times_miss : (x y : ℕ) → 1 ≤ times x (y ∷ []) → y ≡ x
times_miss x y h = grind arith

pub in_range : (views : List KeyView) (id : ℕ) (v : KeyView) → get_elem? views id ≡ some v → id < length views
in_range [] id v e = absurd (some-ne-none v (sym e))
in_range (x ∷ xs) zero v e = omega arith
in_range (x ∷ xs) (suc id) v e = let t = in_range xs id v e in omega (arith, t)

pub one_home : (k : Keys) → AreLawful k → (a b : ℕ) → a < length k.classes → b < length k.classes → class_of k a ≡ class_of k b → home_of k a ≡ home_of k b
one_home k law a b below_a below_b same = ap (λ n. n % (2 * length k.classes + 1)) (law.one_home a b below_a below_b same)

pub class_below : (k : Keys) → AreLawful k → (a : ℕ) → a < length k.classes → class_of k a < length k.classes
class_below k law a below = let t = law.least a below in omega (arith, t, below)

-- a view that is not spent, in place of another with the same lists and share
pub fits_live : (k : Keys) (v w : KeyView) → Fits k v → v.is_spent ≡ false → w.is_spent ≡ v.is_spent → w.classes ≡ v.classes → w.homes ≡ v.homes → w.share ≡ v.share → Fits k w
fits_live k v w fit live spent classes homes share = let keys = fit.keys live in let one = fit.some_share live in record {
  spent = λ e. absurd (false≢true (sym (spent ∙ live) ∙ e));
  keys = λ _. (classes ∙ keys.0, homes ∙ keys.1);
  some_share = λ _. omega (arith, one, share);
}

-- a view that has more offers
pub offered_set : (views : List KeyView) (id : ℕ) (v w : KeyView) → get_elem? views id ≡ some v → ((a : ℕ) → 1 ≤ times a v.offers → 1 ≤ times a w.offers) → (a : ℕ) → IsOffered views a → IsOffered (set views id w) a
offered_set views id v w at more a o =
    ⊎_elim
    (λ (same : o.0 ≡ id).
    let is : v ≡ o.1 = some-injective v o.1 (sym at ∙ (subst (λ j. get_elem? views j ≡ some o.1) same o.2)) in
    (id, w, set_here views id w (in_range views id v at), more a (subst (λ (u : KeyView). 1 ≤ times a u.offers) (sym is) o.3)))
    (λ (apart : o.0 ≡ id → ⊥). (o.0, o.1, set_else views id o.0 w apart ∙ o.2, o.3))
    (cases_eq o.0 id)

offered_keeps : (views : List KeyView) (id : ℕ) (v : KeyView) → get_elem? views id ≡ some v → (a : ℕ) → IsOffered views a → IsOffered (set views id (offered v)) a
offered_keeps views id v at = offered_set views id v (offered v) at (λ a one. let t = times-append a v.offers (v.item ∷ []) in omega (arith, t, one))

-- the offer that it finishes
offered_now : (views : List KeyView) (id : ℕ) (v : KeyView) → get_elem? views id ≡ some v → IsOffered (set views id (offered v)) v.item
offered_now views id v at = (id, offered v, set_here views id (offered v) (in_range views id v at), times_last v.offers v.item)

-- what the rule says of each view
abbrev pub Stands : Keys → List ℕ → KeyView → Type 0
Stands k ws u = Fits k u × ((a : ℕ) → 1 ≤ times a u.offers → HasSlot k ws a) × (u.is_probing ≡ true → IsUnderWay k ws u)

pub stands : (k : Keys) (s : State ℕ KeyView) → Holds k s → (j : ℕ) (u : KeyView) → get_elem? s.views j ≡ some u → Stands k s.words u
stands k s h j u e = (h.each j u e, h.finished j u e, h.probing j u e)

-- the rule, where the views alone change
pub views_change : (k : Keys) (s : State ℕ KeyView) (views : List KeyView) → Holds k s → ((j : ℕ) (u : KeyView) → get_elem? views j ≡ some u → Stands k s.words u) → ((a : ℕ) → IsOffered s.views a → IsOffered views a)
    → total (λ u. u.share) views ≡ total (λ u. u.share) s.views → Holds k record { words = s.words; homes = s.homes; views = views }
views_change k s views h each offers shares = record {
  sized = h.sized;
  each = λ j u e. (each j u e).0;
  taken = λ i full. let t = h.taken i full in record { item = t.item; offered = offers _ t.offered; past_home = t.past_home; passed = t.passed };
  finished = λ j u e. (each j u e).1;
  probing = λ j u e. (each j u e).2;
  shares = shares ∙ h.shares;
}

-- each taken slot stays taken, by an item of its class that is not greater
abbrev Stay : Keys → List ℕ → List ℕ → Type 0
Stay k ws xs = (j : ℕ) → word_at ws j ≢ 0 → (word_at xs j ≢ 0) × (class_of k (word_at xs j - 1) ≡ class_of k (word_at ws j - 1)) × (word_at xs j ≤ word_at ws j)

-- a slot that becomes taken, or is lowered within its class
stay_set : (k : Keys) (ws : List ℕ) (q new : ℕ) → q < length ws → new ≢ 0 → (word_at ws q ≢ 0 → (class_of k (new - 1) ≡ class_of k (word_at ws q - 1)) × (new ≤ word_at ws q)) → Stay k ws (set ws q new)
stay_set k ws q new room kept low j full = ⊎_elim
    (λ (e : j ≡ q).
    let here : word_at (set ws q new) j ≡ new = ap (word_at (set ws q new)) e ∙ get_or-set_same ws q new 0 room in
    let was : word_at ws j ≡ word_at ws q = ap (word_at ws) e in
    let t = low (λ z. full (was ∙ z)) in
    let le = t.1 in
    ((λ z. kept (sym here ∙ z)), ap (λ n. class_of k (n - 1)) here ∙ (t.0 ∙ ap (λ n. class_of k (n - 1)) (sym was)), omega (arith, here, was, le)))
    (λ (apart : j ≡ q → ⊥).
    let same : word_at (set ws q new) j ≡ word_at ws j = get_or-set_other ws q j new 0 apart in
    ((λ z. full (sym same ∙ z)), ap (λ n. class_of k (n - 1)) same, omega (arith, same)))
    (cases_eq j q)

module _ (k : Keys) (ws xs : List ℕ) (stay : Stay k ws xs) where
  others_stay : (from to c : ℕ) → AreOthers k ws from to c → AreOthers k xs from to c
  others_stay from to c others j lo hi = let was = others j lo hi in let t = stay j was.0 in (t.0, λ e. was.1 (sym t.1 ∙ e))

  slot_stays : (a : ℕ) → HasSlot k ws a → HasSlot k xs a
  slot_stays a h = let t = stay h.0 h.1 in let le = h.3 in let lo = t.2 in (h.0, t.0, t.1 ∙ h.2, omega (arith, le, lo))

  under_way_stays : (v : KeyView) → IsUnderWay k ws v → IsUnderWay k xs v
  under_way_stays v h = record {
    item = h.item;
    passed = others_stay _ _ _ h.passed;
    met = λ met. let m = h.met met in let t = stay _ m.0 in (t.0, t.1 ∙ m.1);
  }

-- an offer is finished: its item, or one that is the same and not greater, is put into a slot
puts : (k : Keys) (s : State ℕ KeyView) (id : ℕ) (v : KeyView) (q new : ℕ) → Holds k s → get_elem? s.views id ≡ some v → v.is_spent ≡ false → q < length s.words → new ≢ 0 → Stay k s.words (set s.words q new)
    → class_of k (new - 1) ≡ class_of k v.item → new ≤ v.item + 1 → IsTaken k record { words = set s.words q new; homes = s.homes; views = set s.views id (offered v) } q (new - 1)
    → Holds k record { words = set s.words q new; homes = s.homes; views = set s.views id (offered v) }
puts k s id v q new h at live room kept stay class small taken =
    let w = offered v in
    let ws = set s.words q new in
    let t : State ℕ KeyView = record { words = ws; homes = s.homes; views = set s.views id w } in
    let spot : word_at ws q ≡ new = get_or-set_same s.words q new 0 room in
    let has : (a : ℕ) → 1 ≤ times a w.offers → HasSlot k ws a = λ a one. ⊎_elim
    (λ (old : 0 < times a v.offers). slot_stays k s.words ws stay a (h.finished id v at a (omega (arith, old))))
    (λ (none : times a v.offers ≤ 0).
    let n = times-append a v.offers (v.item ∷ []) in
    subst (HasSlot k ws) (times_miss a v.item (omega (arith, n, none, one))) (q, (λ e. kept (sym spot ∙ e)), ap (λ n. class_of k (n - 1)) spot ∙ class, omega (arith, spot, small)))
    (cases_lt 0 (times a v.offers)) in
    let others : (j : ℕ) (u : KeyView) → get_elem? s.views j ≡ some u → Stands k ws u =
    λ j u e. (h.each j u e, (λ a one. slot_stays k s.words ws stay a (h.finished j u e a one)), (λ on. under_way_stays k s.words ws stay u (h.probing j u e on))) in
    let each = all_set (Stands k ws) s.views id w others (fits_live k v w (h.each id v at) live refl refl refl refl, has, λ on. absurd (false≢true on)) in record {
      sized = length-set s.words q new ∙ h.sized;
      each = λ j u e. (each j u e).0;
      taken = λ i full. ⊎_elim
          (λ (e : i ≡ q). subst (λ j. IsTaken k t j (word_at ws j - 1)) (sym e) (subst (λ n. IsTaken k t q (n - 1)) (sym spot) taken))
          (λ (apart : i ≡ q → ⊥).
          let same : word_at ws i ≡ word_at s.words i = get_or-set_other s.words q i new 0 apart in
          let was = h.taken i (λ e. full (same ∙ e)) in
          subst (λ n. IsTaken k t i (n - 1)) (sym same)
          record { item = was.item; offered = offered_keeps s.views id v at _ was.offered; past_home = was.past_home; passed = others_stay k s.words ws stay _ _ _ was.passed })
          (cases_eq i q);
      finished = λ j u e. (each j u e).1;
      probing = λ j u e. (each j u e).2;
      shares = (let t = total_set (λ u. u.share) s.views id v w at in let q = h.shares in omega (arith, t, q));
    }

-- the exchange finds the slot empty: the offer is finished
pub wins : (k : Keys) (s : State ℕ KeyView) (id : ℕ) (v : KeyView) (p : ℕ) → Holds k s → get_elem? s.views id ≡ some v → v.is_spent ≡ false → v.is_probing ≡ true
    → p ≡ home_of k v.item + v.passed → p < length s.words → word_at s.words p ≡ 0
    → Holds k record { words = set s.words p (v.item + 1); homes = s.homes; views = set s.views id (offered v) }
wins k s id v p h at live probing is room empty =
    let ws = set s.words p (v.item + 1) in
    let probe = h.probing id v at probing in
    let kept : v.item + 1 ≢ 0 = λ e. absurd (omega (arith, e)) in
    let stay = stay_set k s.words p (v.item + 1) room kept (λ full. absurd (full empty)) in
    let last : v.item ≡ v.item + 1 - 1 = omega arith in
    puts k s id v p (v.item + 1) h at live room kept stay (ap (class_of k) (sym last)) (omega arith)
    (subst (IsTaken k record { words = ws; homes = s.homes; views = set s.views id (offered v) } p) last record {
      item = probe.item;
      offered = offered_now s.views id v at;
      past_home = omega (arith, is);
      passed = subst (λ to. AreOthers k ws (home_of k v.item) to (class_of k v.item)) (sym is) (others_stay k s.words ws stay _ _ _ probe.passed);
    })

-- the met slot's item becomes the lesser of itself and the one that is offered: the offer is finished
pub lowers : (k : Keys) → AreLawful k → (s : State ℕ KeyView) (id : ℕ) (v : KeyView) (q new : ℕ) → Holds k s → get_elem? s.views id ≡ some v → v.is_spent ≡ false → v.is_probing ≡ true → v.has_met ≡ true
    → q ≡ home_of k v.item + v.passed → q < length s.words → new ≢ 0 → new ≤ word_at s.words q → new ≤ v.item + 1 → (new ≡ word_at s.words q) ⊎ (new ≡ v.item + 1)
    → Holds k record { words = set s.words q new; homes = s.homes; views = set s.views id (offered v) }
lowers k law s id v q new h at live probing met is room kept low small which =
    let views = set s.views id (offered v) in
    let probe = h.probing id v at probing in
    let m = subst (λ i. (word_at s.words i ≢ 0) × (class_of k (word_at s.words i - 1) ≡ class_of k v.item)) (sym is) (probe.met met) in
    let was = h.taken q m.0 in
    let facts : (new - 1 < length k.classes) × IsOffered views (new - 1) × (class_of k (new - 1) ≡ class_of k v.item) =
    ⊎_elim
    (λ (e : new ≡ word_at s.words q). subst (λ n. (n - 1 < length k.classes) × IsOffered views (n - 1) × (class_of k (n - 1) ≡ class_of k v.item)) (sym e)
    (was.item, offered_keeps s.views id v at _ was.offered, m.1))
    (λ (e : new ≡ v.item + 1). let last : v.item ≡ new - 1 = omega (arith, e) in subst (λ a. (a < length k.classes) × IsOffered views a × (class_of k a ≡ class_of k v.item)) last (probe.item, offered_now s.views id v at, refl))
    which in
    let class : class_of k (new - 1) ≡ class_of k (word_at s.words q - 1) = facts.2 ∙ sym m.1 in
    let home : home_of k (new - 1) ≡ home_of k (word_at s.words q - 1) = one_home k law _ _ facts.0 was.item class in
    let stay = stay_set k s.words q new room kept (λ _. (class, low)) in
    puts k s id v q new h at live room kept stay facts.2 small record {
      item = facts.0;
      offered = facts.1;
      past_home = (let le = was.past_home in omega (arith, le, home));
      passed = others_stay k s.words (set s.words q new) stay (home_of k (new - 1)) q (class_of k (new - 1))
          (λ j lo hi. let c = was.passed j (omega (arith, lo, home)) hi in (c.0, λ x. c.1 (x ∙ class)));
    }

-- what a probe's start leaves as it was
abbrev pub SameBut : KeyView → KeyView → Type 0
SameBut v w = (w.offers ≡ v.offers) × (w.share ≡ v.share) × (w.classes ≡ v.classes) × (w.homes ≡ v.homes) × (w.is_spent ≡ v.is_spent)

-- a view alone changes: it has the same offers, and a probe that is true
pub begins : (k : Keys) (s : State ℕ KeyView) (id : ℕ) (v w : KeyView) → Holds k s → get_elem? s.views id ≡ some v → v.is_spent ≡ false → SameBut v w → IsUnderWay k s.words w
    → Holds k record { words = s.words; homes = s.homes; views = set s.views id w }
begins k s id v w h at live same probe =
    let share = same.1 in
    let fits = fits_live k v w (h.each id v at) live same.4 same.2 same.3 share in
    views_change k s (set s.views id w) h
    (all_set (Stands k s.words) s.views id w (stands k s h) (fits, (λ a one. h.finished id v at a (subst (λ l. 1 ≤ times a l) same.0 one)), (λ _. probe)))
    (offered_set s.views id v w at (λ a one. subst (λ l. 1 ≤ times a l) (sym same.0) one))
    (let t = total_set (λ u. u.share) s.views id v w at in omega (arith, t, share))
