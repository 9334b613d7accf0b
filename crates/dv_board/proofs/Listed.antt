-- Marks of numbers, and the list of the marked ones.
use Rattle.dv_board.proofs.Vocabulary.{All-contains, AreMarked, Bool, Contains, Contains-append_left, Contains-append_right, IsStrictlySortedBy, IsStrictlySortedBy-filter, Less, List, [], ap, append-nil, arith, cases_eq, cases_lt, cond, false, filter, filter-append, filter_passes, get_elem?}
use Rattle.dv_board.proofs.Vocabulary.{get_or, get_or-range_with_len, get_or-set_other, get_or-set_same, length, length-range_with_len, marked, nat_cmp, nat_cmp_is, nat_cmp_total, range_with_len, refl, replicate, set, some, some-injective, some-ne-none, sorted_from_all_adjacent, subst, suc, sym}
use Rattle.dv_board.proofs.Vocabulary.{take, take_more_set, true, word_at, zero, ℕ, ⊎_elim, ◌++◌, ◌+◌, ◌-◌, ◌<◌, ◌∙◌, ◌∷◌, ◌≡◌, ◌≢◌, ◌≤◌}

-- a default is read everywhere of a list of defaults
pub all_default : {X : Type 0} (x : X) (n i : ℕ) → get_or (replicate n x) i x ≡ x
all_default x zero i = refl
all_default x (suc n) zero = refl
all_default x (suc n) (suc i) = all_default x n i

-- the next slot is empty
pub marks_skip : (words : List ℕ) (n : ℕ) (marks : List Bool) → AreMarked words n marks → word_at words n ≡ 0 → AreMarked words (n + 1) marks
marks_skip words n marks h empty = record {
  only = h.only;
  each = λ slot lt full. ⊎_elim
      (λ (before : slot < n). h.each slot before full)
      (λ (last : n ≤ slot). let e : slot ≡ n = omega (arith, lt, last) in absurd (full (ap (word_at words) e ∙ empty)))
      (cases_lt slot n);
}

-- the next slot is taken
pub marks_word : (words : List ℕ) (n w : ℕ) (marks : List Bool) → AreMarked words n marks → word_at words n ≡ w → w ≢ 0 → w - 1 < length marks → AreMarked words (n + 1) (set marks (w - 1) true)
marks_word words n w marks h is full room =
    let at = w - 1 in
    let here : get_or (set marks at true) at false ≡ true = get_or-set_same marks at true false room in
    let word : word_at words n ≡ at + 1 = omega (arith, full, is) in record {
      only = λ a is. ⊎_elim
          (λ (e : a ≡ at). (n, word ∙ ap (λ x. x + 1) (sym e)))
          (λ (apart : a ≡ at → ⊥). h.only a (sym (get_or-set_other marks at a true false apart) ∙ is))
          (cases_eq a at);
      each = λ slot lt some. ⊎_elim
          (λ (e : word_at words slot - 1 ≡ at). ap (λ x. get_or (set marks at true) x false) e ∙ here)
          (λ (apart : word_at words slot - 1 ≡ at → ⊥). ⊎_elim
          (λ (before : slot < n). get_or-set_other marks at (word_at words slot - 1) true false apart ∙ h.each slot before some)
          (λ (last : n ≤ slot). let e : slot ≡ n = omega (arith, lt, last) in absurd (apart (ap (λ x. word_at words x - 1) e ∙ ap (λ x. x - 1) is)))
          (cases_lt slot n))
          (cases_eq (word_at words slot - 1) at);
    }

range_more : (a n j : ℕ) → a + n ≡ j → range_with_len a (n + 1) ≡ range_with_len a n ++ j ∷ []
range_more a zero j e = let same : a ≡ j = omega (arith, e) in ap (λ x. x ∷ []) same
range_more a (suc n) j e =
    let up : suc n + 1 ≡ suc (n + 1) = omega arith in
    ap (range_with_len a) up ∙ ap (λ l. a ∷ l) (range_more (a + 1) n j (omega (arith, e)))

pub marked_more : (marks : List Bool) (n : ℕ) → marked marks (n + 1) ≡ marked marks n ++ cond (get_or marks n false) (n ∷ []) []
marked_more marks n =
    let p : ℕ → Bool = λ a. get_or marks a false in
    ap (filter p) (range_more 0 n n (omega arith)) ∙ filter-append p (range_with_len 0 n) (n ∷ [])

-- the next number is marked, and put behind those that were listed
pub listed_one : (marks : List Bool) (n listed : ℕ) (room : List ℕ) → take listed room ≡ marked marks n → get_or marks n false ≡ true → listed < length room → take (listed + 1) (set room listed n) ≡ marked marks (n + 1)
listed_one marks n listed room so_far is lt =
    take_more_set room listed n lt ∙ (ap (λ l. l ++ n ∷ []) so_far ∙ sym (marked_more marks n ∙ ap (λ b. marked marks n ++ cond b (n ∷ []) []) is))

-- or isn't
pub listed_none : (marks : List Bool) (n listed : ℕ) (room : List ℕ) → take listed room ≡ marked marks n → get_or marks n false ≡ false → take listed room ≡ marked marks (n + 1)
listed_none marks n listed room so_far is =
    so_far ∙ sym (marked_more marks n ∙ (ap (λ b. marked marks n ++ cond b (n ∷ []) []) is ∙ append-nil (marked marks n)))

range_ascends : (n : ℕ) → IsStrictlySortedBy nat_cmp (range_with_len 0 n)
range_ascends n = sorted_from_all_adjacent nat_cmp_total (range_with_len 0 n) 0 (λ k lt.
    let size = length-range_with_len 0 n in
    let low = get_or-range_with_len 0 n k 0 (omega (arith, lt, size)) in
    let high = get_or-range_with_len 0 n (k + 1) 0 (omega (arith, lt, size)) in
    sym (nat_cmp_is (get_or (range_with_len 0 n) k 0) (get_or (range_with_len 0 n) (k + 1) 0) Less (omega (arith, low, high))))

pub marked_ascends : (marks : List Bool) (n : ℕ) → IsStrictlySortedBy nat_cmp (marked marks n)
marked_ascends marks n = IsStrictlySortedBy-filter nat_cmp (λ a. get_or marks a false) (range_with_len 0 n) (range_ascends n)

pub is_marked : (marks : List Bool) (n a : ℕ) → Contains (marked marks n) a → get_or marks a false ≡ true
is_marked marks n a has =
    let p : ℕ → Bool = λ x. get_or marks x false in
    All-contains (λ x. p x ≡ true) (marked marks n) a (filter_passes p (range_with_len 0 n)) has

pub marked_has : (marks : List Bool) (n a : ℕ) → a < n → get_or marks a false ≡ true → Contains (marked marks n) a
marked_has marks zero a lt is = absurd (omega (arith, lt))
marked_has marks (suc n) a lt is =
    let up : suc n ≡ n + 1 = omega arith in
    subst (λ l. Contains l a) (sym (ap (marked marks) up ∙ marked_more marks n)) (⊎_elim
    (λ (before : a < n). Contains-append_left (marked marks n) _ a (marked_has marks n a before is))
    (λ (last : n ≤ a).
    let e : n ≡ a = omega (arith, lt, last) in
    Contains-append_right (marked marks n) _ a (subst (λ b. Contains (cond b (n ∷ []) []) a) (sym (ap (λ x. get_or marks x false) e ∙ is)) (0, omega arith, e)))
    (cases_lt a n))

pub at_word : (words : List ℕ) (slot n : ℕ) → get_elem? words slot ≡ some n → word_at words slot ≡ n
at_word [] slot n e = absurd (some-ne-none n (sym e))
at_word (x ∷ xs) zero n e = some-injective x n e
at_word (x ∷ xs) (suc slot) n e = at_word xs slot n e
