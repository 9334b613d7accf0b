-- A key table at its beginning and at its end.
use Rattle.dv_board.proofs.Vocabulary.{Allows, AreLawful, AreLeastOffered, AreMarked, Bool, Fits, Holds, IsKept, IsLeastOffered, IsOffered, KeyView, Keys, List, Me, Option, State, [], ap, arith, cases_Bool, cases_eq, cases_lt, class_of, false≢true, first_view, fresh_view, get_elem?, get_or_past}
use Rattle.dv_board.proofs.Vocabulary.{inr, keeps, length, length-replicate, marked, refl, replicate, set, set-get_or, some, subst, sym, times, whole_share, word_at, ℕ, ⊎_elim, ◌*◌, ◌+◌, ◌-◌, ◌<◌, ◌∙◌, ◌∷◌, ◌≡◌, ◌≢◌, ◌≤◌}
use Rattle.dv_board.proofs.{Sums.total_at, Sums.sole, Sums.at_only, KeyMoves.Stands, KeyRoom.slots_apart, Listed.all_default, Listed.marked_ascends, Listed.is_marked, Listed.marked_has}

-- all slots are empty
begins_with : (k : Keys) (words : List ℕ) (homes : List (Option ℕ)) → words ≡ replicate (3 * length k.classes + 1) 0 → Holds k record { words = words; homes = homes; views = first_view k ∷ [] }
begins_with k words homes is =
    let v = first_view k in
    let fits : Fits k v = record { spent = λ e. absurd (false≢true e); keys = λ _. (refl, refl); some_share = λ _. omega arith } in
    let all : (j : ℕ) (u : KeyView) → get_elem? (v ∷ []) j ≡ some u → Stands k words u = λ j u e. subst (Stands k words) (at_only v u j e).1 (fits, (λ a none. absurd (omega (arith, none))), (λ on. absurd (false≢true on))) in record {
      sized = ap length is ∙ length-replicate (3 * length k.classes + 1) 0;
      each = λ j u e. (all j u e).0;
      taken = λ slot full. absurd (full (ap (λ l. word_at l slot) is ∙ all_default 0 (3 * length k.classes + 1) slot));
      finished = λ j u e. (all j u e).1;
      probing = λ j u e. (all j u e).2;
      shares = refl;
    }

-- the load that tells the first seat what the items are
pub begins_table : (size : ℕ) (k : Keys) (slots id : ℕ) (me : Me ℕ KeyView) → me ≡ (fresh_view, []) → size ≡ 3 * length k.classes + 1 → Allows (IsKept size) slots id me 0 (λ n. n) (λ n after. after ≡ (first_view k, me.1))
begins_table size k slots id me is fits s kept len at _ =
    ⊎_elim
    (λ (new : (s.words ≡ replicate size 0) × (s.views ≡ fresh_view ∷ [])).
    let words : set s.words 0 (word_at s.words 0) ≡ replicate (3 * length k.classes + 1) 0 = set-get_or s.words 0 0 ∙ (new.0 ∙ ap (λ n. replicate n 0) fits) in
    let only = at_only fresh_view me.0 id (subst (λ l. get_elem? l id ≡ some me.0) new.1 at) in
    let views : set s.views id (first_view k) ≡ first_view k ∷ [] = λ i. set (new.1 i) (only.0 i) (first_view k) in
    (first_view k, keeps, tt, inr (k, subst (λ l. Holds k record { words = set s.words 0 (word_at s.words 0); homes = s.homes; views = l }) (sym views) (begins_with k (set s.words 0 (word_at s.words 0)) s.homes words)), refl))
    (λ (held : (j : Keys) × Holds j s).
    let one = (held.1.each id me.0 at).some_share (ap (λ (m : Me ℕ KeyView). m.0.is_spent) is) in
    let none = ap (λ (m : Me ℕ KeyView). m.0.share) is in
    absurd (omega (arith, one, none)))
    kept

-- the seat with every share has offered all that was offered
offered_all : (k : Keys) (s : State ℕ KeyView) (id : ℕ) (v : KeyView) → Holds k s → get_elem? s.views id ≡ some v → v.share ≡ whole_share → (a : ℕ) → IsOffered s.views a → 1 ≤ times a v.offers
offered_all k s id v h at whole a o =
    let alone = sole (λ u. u.share) (λ u. times a u.offers) s.views id v at (h.shares ∙ sym whole)
    (λ j u e none. ⊎_elim
    (λ spent. ap (λ (y : KeyView). times a y.offers) ((h.each j u e).spent spent))
    (λ live. let one = (h.each j u e).some_share live in absurd (omega (arith, one, none)))
    (cases_Bool u.is_spent)) in
    let some_a = total_at (λ u. times a u.offers) s.views o.0 o.1 o.2 in
    let one = o.3 in
    omega (arith, alone, some_a, one)

-- the item of a taken slot is the least one of its class that was offered
least_in_slot : (k : Keys) → AreLawful k → (s : State ℕ KeyView) (id : ℕ) (v : KeyView) → Holds k s → get_elem? s.views id ≡ some v → v.share ≡ whole_share → (slot a : ℕ) → word_at s.words slot ≡ a + 1 → IsLeastOffered k v.offers a
least_in_slot k law s id v h at whole slot a word =
    let full : word_at s.words slot ≢ 0 = λ e. absurd (omega (arith, word, e)) in
    let back : word_at s.words slot - 1 ≡ a = omega (arith, word) in record {
      offered = offered_all k s id v h at whole a (subst (IsOffered s.views) back (h.taken slot full).offered);
      least = λ b one same.
          let has = h.finished id v at b one in
          let class : class_of k (word_at s.words slot - 1) ≡ class_of k (word_at s.words has.0 - 1) = ap (class_of k) back ∙ sym (has.2 ∙ same) in
          let le = has.3 in
          ⊎_elim
          (λ (below : slot < has.0). absurd (slots_apart k law s h slot has.0 below full has.1 class))
          (λ (above : has.0 ≤ slot). ⊎_elim
          (λ (e : has.0 ≡ slot). let w = ap (word_at s.words) e in omega (arith, w, le, word))
          (λ (apart : has.0 ≡ slot → ⊥). absurd (slots_apart k law s h has.0 slot (omega (arith, above, apart)) has.1 full (sym class)))
          (cases_eq has.0 slot))
          (cases_lt slot has.0);
    }

-- a taken slot is one of the table
taken_within : (words : List ℕ) (slot : ℕ) → word_at words slot ≢ 0 → slot < length words
taken_within words slot full = ⊎_elim
    (λ (lt : slot < length words). lt)
    (λ (past : length words ≤ slot). absurd (full (get_or_past words slot 0 past)))
    (cases_lt slot (length words))

pub closes : (k : Keys) → AreLawful k → (s : State ℕ KeyView) (id : ℕ) (v : KeyView) (marks : List Bool) → Holds k s → get_elem? s.views id ≡ some v → v.share ≡ whole_share
    → AreMarked s.words (length s.words) marks → AreLeastOffered k v.offers (marked marks (length k.classes))
closes k law s id v marks h at whole are = record {
  ascending = marked_ascends marks (length k.classes);
  only = λ a has. let slot = are.only a (is_marked marks (length k.classes) a has) in least_in_slot k law s id v h at whole slot.0 a slot.1;
  each = λ b one.
      let has = h.finished id v at b one in
      let full = has.1 in
      (word_at s.words has.0 - 1, marked_has marks (length k.classes) (word_at s.words has.0 - 1) (h.taken has.0 full).item (are.each has.0 (taken_within s.words has.0 full) full), has.2);
}
