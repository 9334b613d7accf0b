-- Merging from the back: what was moved so far, and that it stands in order.
use Rattle.dv_index.proofs.Vocabulary.{AllPairs, AllPairs-cons, Bool, Contains, Contains-append_cases, Contains-append_left, Contains-append_right, Contains-cons_cases, Contains-cons_here, Contains-cons_there, Contains-get_or, IsPartitionPoint, IsPartitionedBy, IsPermutation}
use Rattle.dv_index.proofs.Vocabulary.{IsPermutation-append_right, IsPermutation-cons, IsPermutation-middle, IsPermutation-refl, IsPermutation-trans, IsSortedBy, IsStrictWeakOrder, List, [], ap, append-nil, append_assoc, arith, drop, drop-append-le, drop_all, drop_more, false, get_or}
use Rattle.dv_index.proofs.Vocabulary.{get_or-append-add, get_or-drop, get_or-take, get_or_append_left, get_or_default, inl, inr, length, length-append, length-drop, length-take-le, not, not-false, not-true, not_from_false, refl, sorted_far, subst, sym, take, take-append-drop, take-take}
use Rattle.dv_index.proofs.Vocabulary.{take_all, take_at, take_more, true, ℕ, ◌++◌, ◌+◌, ◌<◌, ◌∙◌, ◌∷◌, ◌≡◌, ◌≤◌}

-- no item stands behind one that comes after it
abbrev pub Rising : {X : Type 0} → (X → X → Bool) → List X → Type 0
Rising lt = AllPairs (λ x y. lt y x ≡ false)

module _ {X : Type 0} (lt : X → X → Bool) where
  pub rising_left : (xs ys : List X) → Rising lt (xs ++ ys) → Rising lt xs
  rising_left xs ys up i j d before under = rw (get_or_append_left xs ys d j under, get_or_append_left xs ys d i (omega arith)) at (up i j d before (omega (arith, length-append xs ys)))

  rising_right : (xs ys : List X) → Rising lt (xs ++ ys) → Rising lt ys
  rising_right xs ys up i j d before under = rw (get_or-append-add xs ys j d, get_or-append-add xs ys i d) at (up (length xs + i) (length xs + j) d (omega arith) (omega (arith, length-append xs ys)))

  rising_cross : (xs ys : List X) → Rising lt (xs ++ ys) → (x y : X) → Contains xs x → Contains ys y → lt y x ≡ false
  rising_cross xs ys up x y (i, i_in, at_x) (j, j_in, at_y) =
      let pair = rw (get_or-append-add xs ys j x, get_or_append_left xs ys x i i_in, at_x) at (up i (length xs + j) x (omega arith) (omega (arith, length-append xs ys))) in
      rw (get_or_default ys j x y j_in, at_y) at pair

  rising_cons : (x : X) (ys : List X) → ((y : X) → Contains ys y → lt y x ≡ false) → Rising lt ys → Rising lt (x ∷ ys)
  rising_cons x ys each up = AllPairs-cons (λ x y. lt y x ≡ false) x ys (λ k d under. each (get_or ys k d) (Contains-get_or ys k d under)) up

  rising_append : (xs ys : List X) → Rising lt xs → Rising lt ys → ((x y : X) → Contains xs x → Contains ys y → lt y x ≡ false) → Rising lt (xs ++ ys)
  rising_append [] ys up vp cross = vp
  rising_append (x ∷ xs) ys up vp cross =
      rising_cons x (xs ++ ys) (λ y has.
      elim (Contains-append_cases xs ys y has) [
        | inl first ↦ rising_cross (x ∷ []) xs up x y (Contains-cons_here x []) first
        | inr second ↦ cross x y (Contains-cons_here x xs) second
      ])
      (rising_append xs ys (rising_right (x ∷ []) xs up) vp (λ a b a_in b_in. cross a b (Contains-cons_there x xs a a_in) b_in))

  pub sorted_from_rising : (xs : List X) → Rising lt xs → IsSortedBy lt xs
  sorted_from_rising xs up k d low under = up k (k + 1) d (omega arith) under

  module _ (o : IsStrictWeakOrder lt) where
    pub rising_from_sorted : (xs : List X) → IsSortedBy lt xs → Rising lt xs
    rising_from_sorted xs up i j d before under = sorted_far lt o xs up i j d (omega arith) under

    -- what stands up to an item comes first
    pub up_to_first : (xs : List X) (x : X) → IsSortedBy lt xs → IsPartitionedBy (λ y. not (lt x y)) xs
    up_to_first xs x up i j d le under passes = not_from_false (lt x (get_or xs i d)) (o.chain x (get_or xs j d) (get_or xs i d) (not-true (lt x (get_or xs j d)) passes) (sorted_far lt o xs up i j d le under))

    -- an item goes between those that stand up to it and the others
    put_between : (a b c f : List X) (x : X) → Rising lt ((a ++ b) ++ f) → Rising lt ((c ++ x ∷ []) ++ f) → ((y : X) → Contains a y → lt x y ≡ false) → ((y : X) → Contains b y → lt x y ≡ true)
        → Rising lt (a ++ x ∷ (b ++ f)) × Rising lt (c ++ x ∷ (b ++ f))
    put_between a b c f x olds news first second = (
      ahead a (rising_left a b ab) first (rising_cross a b ab) (λ y z y_in. rising_cross (a ++ b) f olds y z (Contains-append_left a b y y_in)),
      ahead c (rising_left c (x ∷ []) cx) to_x (λ y z y_in z_in. o.chain z x y (o.one_way x z (second z z_in)) (to_x y y_in)) (λ y z y_in. rising_cross (c ++ x ∷ []) f news y z (Contains-append_left c (x ∷ []) y y_in)),
    )
      where
        ab : Rising lt (a ++ b)
        ab = rising_left (a ++ b) f olds

        cx : Rising lt (c ++ x ∷ [])
        cx = rising_left (c ++ x ∷ []) f news

        to_x : (y : X) → Contains c y → lt x y ≡ false
        to_x y y_in = rising_cross c (x ∷ []) cx y x y_in (Contains-cons_here x [])

        rest : Rising lt (x ∷ (b ++ f))
        rest =
            rising_cons x (b ++ f) (λ y has.
            elim (Contains-append_cases b f y has) [
              | inl in_b ↦ o.one_way x y (second y in_b)
              | inr in_f ↦ rising_cross (c ++ x ∷ []) f news x y (Contains-append_right c (x ∷ []) x (Contains-cons_here x [])) in_f
            ])
            (rising_append b f (rising_right a b ab) (rising_right (a ++ b) f olds) (λ y z y_in. rising_cross (a ++ b) f olds y z (Contains-append_right a b y y_in)))

        ahead : (p : List X) → Rising lt p → ((y : X) → Contains p y → lt x y ≡ false) → ((y z : X) → Contains p y → Contains b z → lt z y ≡ false) → ((y z : X) → Contains p y → Contains f z → lt z y ≡ false) → Rising lt (p ++ x ∷ (b ++ f))
        ahead p up before to_b to_f = rising_append p (x ∷ (b ++ f)) up rest (λ y z y_in z_in.
            elim (Contains-cons_cases x (b ++ f) z z_in) [
              | inl same ↦ subst (λ w. lt w y ≡ false) same (before y y_in)
              | inr more ↦
                  elim (Contains-append_cases b f z more) [
                    | inl in_b ↦ to_b y z y_in in_b
                    | inr in_f ↦ to_f y z y_in in_f
                  ]
            ])

-- it is moved to what is done
moved_more : {X : Type 0} (b d n f : List X) (x : X) → IsPermutation (d ++ n) f → IsPermutation ((b ++ d) ++ x ∷ n) (x ∷ (b ++ f))
moved_more b d n f x moved =
    IsPermutation-trans ((b ++ d) ++ x ∷ n) (x ∷ ((b ++ d) ++ n)) (x ∷ (b ++ f)) (IsPermutation-middle (b ++ d) x n)
    (IsPermutation-cons x ((b ++ d) ++ n) (b ++ f) (subst (λ l. IsPermutation l (b ++ f)) (sym (append_assoc b d n)) (IsPermutation-append_right b (d ++ n) f moved)))

module _ {X : Type 0} (lt : X → X → Bool) (o : IsStrictWeakOrder lt) (old new : List X) where
  -- of an index, the first `end` items are the old ones, so many places are free, and the others are done
  pub record IsMerging (index : List X) (end left : ℕ) : Type 0 where
    pub end_in : end ≤ length old
    pub left_in : left ≤ length new
    pub long : length index ≡ length old + length new
    pub front : take end index ≡ take end old
    pub moved : IsPermutation (drop end old ++ drop left new) (drop (end + left) index)
    pub olds : Rising lt (take end old ++ drop (end + left) index)
    pub news : Rising lt (take left new ++ drop (end + left) index)

  pub begins : (index : List X) → IsSortedBy lt old → IsSortedBy lt new → index ≡ old ++ new → IsMerging index (length old) (length new)
  begins index up vp e =
      let long = ap length e ∙ length-append old new in
      let none : drop (length old + length new) index ≡ [] = drop_all (length old + length new) index (omega (arith, long)) in
      record {
        end_in = omega arith;
        left_in = omega arith;
        long = long;
        front = rw (e, take_at old new (length old) refl, take_all (length old) old (omega arith)) refl;
        moved = rw (none, drop_all (length old) old (omega arith), drop_all (length new) new (omega arith)) (IsPermutation-refl []);
        olds = rw (none, take_all (length old) old (omega arith), append-nil) (rising_from_sorted lt o old up);
        news = rw (none, take_all (length new) new (omega arith), append-nil) (rising_from_sorted lt o new vp);
      }

  -- the last of the new ones that are left goes in
  pub goes_on : (index next : List X) (end left l place : ℕ) (x d : X) → IsMerging index end left → left ≡ l + 1 → x ≡ get_or new l d → place ≤ end
      → IsPartitionPoint (λ y. not (lt x y) ≡ true) (λ y. not (lt x y) ≡ false) (take end index) place
      → length next ≡ length index → take place next ≡ take place index → drop (place + l) next ≡ x ∷ (drop place (take end index) ++ drop (end + l + 1) index)
      → IsMerging next place l
  goes_on index next end left l place x d m one number before point long front back =
      record {
        end_in = omega (arith, m.end_in);
        left_in = omega (arith, m.left_in);
        long = long ∙ m.long;
        front = front ∙ sym (take-take place end index before) ∙ ap (take place) m.front ∙ take-take place end old before;
        moved = rw (done, rest_old, rest_new) (moved_more b (drop end old) (drop left new) f x m.moved);
        olds = rw done both.0;
        news = rw done both.1;
      }
    where
      b : List X
      b = drop place (take end old)

      f : List X
      f = drop (end + left) index

      same : end + l + 1 ≡ end + left
      same = omega (arith, one)

      done : drop (place + l) next ≡ x ∷ (b ++ f)
      done = back ∙ rw (m.front, same) refl

      split : take end old ≡ take place old ++ b
      split = sym (take-append-drop place (take end old)) ∙ ap (λ l. l ++ b) (take-take place end old before)

      inside : l < length new
      inside = omega (arith, m.left_in, one)

      last : take left new ≡ take l new ++ x ∷ []
      last = rw one (take_more new l d inside ∙ ap (λ y. take l new ++ y ∷ []) (sym number))

      rest_new : drop l new ≡ x ∷ drop left new
      rest_new = rw one (drop_more new l d inside ∙ ap (λ y. y ∷ drop (l + 1) new) (sym number))

      rest_old : drop place old ≡ b ++ drop end old
      rest_old = ap (drop place) (sym (take-append-drop end old)) ∙ drop-append-le place (take end old) (drop end old) (omega (arith, before, length-take-le end old m.end_in))

      parted : IsPartitionPoint (λ y. not (lt x y) ≡ true) (λ y. not (lt x y) ≡ false) (take end old) place
      parted = rw m.front at point

      first : (y : X) → Contains (take place old) y → lt x y ≡ false
      first y (k, under, there) =
          let small : k < place = omega (arith, under, length-take-le place old (omega (arith, m.end_in))) in
          let is : get_or (take end old) k y ≡ y = sym (get_or-take place (take end old) k y small) ∙ rw (take-take place end old before) there in
          not-true (lt x y) (rw is at (parted.0 k y (omega arith) small))

      second : (y : X) → Contains b y → lt x y ≡ true
      second y (k, under, there) =
          let fails = parted.1 (place + k) y (omega arith) (omega (arith, length-drop place (take end old), under)) in
          not-false (lt x y) (rw (sym (get_or-drop place (take end old) k y) ∙ there) at fails)

      both : Rising lt (take place old ++ x ∷ (b ++ f)) × Rising lt (take l new ++ x ∷ (b ++ f))
      both = put_between lt o (take place old) b (take l new) f x (rw (← split) m.olds) (rw (← last) m.news) first second

  -- at the end all stands in order
  pub ends : (index : List X) (end : ℕ) → IsMerging index end 0 → IsPermutation (old ++ new) index × IsSortedBy lt index
  ends index end m = (
    subst (IsPermutation (old ++ new)) whole
        (rw before
        (subst (λ l. IsPermutation l (take end old ++ drop (end + 0) index)) (sym (append_assoc (take end old) (drop end old) new))
        (IsPermutation-append_right (take end old) (drop end old ++ new) (drop (end + 0) index) m.moved))),
    subst (IsSortedBy lt) whole (sorted_from_rising lt (take end old ++ drop (end + 0) index) m.olds),
  )
    where
      none : end + 0 ≡ end
      none = omega arith

      whole : take end old ++ drop (end + 0) index ≡ index
      whole = rw (none, ← m.front) (take-append-drop end index)

      before : old ++ new ≡ (take end old ++ drop end old) ++ new
      before = ap (λ l. l ++ new) (sym (take-append-drop end old))
