-- A probe has passed fewer slots than there are items, since the slots that it passed are of different classes.
use Rattle.dv_board.proofs.Vocabulary.{AllByRecursion, AreLawful, AreOthers, Holds, IsDistinct, KeyView, Keys, List, State, [], arith, cases_eq, class_of, eqb, false, false≢true, home_of, length, length-le_from_distinct_below, list_any, ne_eqb, refl, subst, suc, sym, true, word_at, zero, ℕ}
use Rattle.dv_board.proofs.Vocabulary.{⊎_elim, ◌+◌, ◌-◌, ◌<◌, ◌||◌, ◌∷◌, ◌≡◌, ◌≢◌, ◌≤◌}
use Rattle.dv_board.proofs.KeyMoves.{one_home, class_below}

-- the classes of m slots from one on
seq : Keys → List ℕ → ℕ → ℕ → List ℕ
seq k ws from zero = []
seq k ws from (suc m) = class_of k (word_at ws from - 1) ∷ seq k ws (from + 1) m

length-seq : (k : Keys) (ws : List ℕ) (from m : ℕ) → length (seq k ws from m) ≡ m
unfolding seq
length-seq k ws from zero = refl
length-seq k ws from (suc m) = let t = length-seq k ws (from + 1) m in omega (arith, t)

all_seq : (P : ℕ → Type 0) (k : Keys) (ws : List ℕ) (from m : ℕ) → ((j : ℕ) → from ≤ j → j < from + m → P (class_of k (word_at ws j - 1))) → AllByRecursion P (seq k ws from m)
unfolding seq
all_seq P k ws from zero h = tt
all_seq P k ws from (suc m) h = (h from (omega arith) (omega arith), all_seq P k ws (from + 1) m (λ j lo hi. h j (omega (arith, lo)) (omega (arith, hi))))

distinct_seq : (k : Keys) (ws : List ℕ) (from m : ℕ) → ((i j : ℕ) → from ≤ i → i < j → j < from + m → class_of k (word_at ws i - 1) ≢ class_of k (word_at ws j - 1)) → IsDistinct eqb (seq k ws from m)
unfolding seq IsDistinct
distinct_seq k ws from zero h = tt
distinct_seq k ws from (suc m) h = (
  all_seq (λ y. eqb (class_of k (word_at ws from - 1)) y ≡ false) k ws (from + 1) m (λ j lo hi. ne_eqb _ _ (h from j (omega arith) (omega (arith, lo)) (omega (arith, hi)))),
  distinct_seq k ws (from + 1) m (λ i j lo lt hi. h i j (omega (arith, lo)) lt (omega (arith, hi))),
)

any_below : (n q : ℕ) (xs : List ℕ) → AllByRecursion (λ y. y < n) xs → list_any (eqb q) xs ≡ true → q < n
any_below n q [] h e = absurd (false≢true e)
any_below n q (x ∷ xs) h e = ⊎_elim
    (λ (same : q ≡ x). let lt = h.0 in omega (arith, same, lt))
    (λ (apart : q ≡ x → ⊥). any_below n q xs h.1 (subst (λ b. (b || list_any (eqb q) xs) ≡ true) (ne_eqb q x apart) e))
    (cases_eq q x)

-- no slot above another has its class
pub slots_apart : (k : Keys) → AreLawful k → (s : State ℕ KeyView) → Holds k s → (i j : ℕ) → i < j → word_at s.words i ≢ 0 → word_at s.words j ≢ 0 → class_of k (word_at s.words i - 1) ≢ class_of k (word_at s.words j - 1)
slots_apart k law s h i j lt full_i full_j same =
    let at_i = h.taken i full_i in
    let at_j = h.taken j full_j in
    let homes = one_home k law _ _ at_i.item at_j.item same in
    let le = at_i.past_home in
    (at_j.passed i (omega (arith, le, homes)) lt).1 same

pub room_left : (k : Keys) → AreLawful k → (s : State ℕ KeyView) (item m : ℕ) → Holds k s → item < length k.classes → AreOthers k s.words (home_of k item) (home_of k item + m) (class_of k item) → m < length k.classes
unfolding IsDistinct
room_left k law s item m h below others =
    let from = home_of k item in
    let n = length k.classes in
    let c = class_of k item in
    let xs = seq k s.words from m in
    let apart : (i j : ℕ) → from ≤ i → i < j → j < from + m → class_of k (word_at s.words i - 1) ≢ class_of k (word_at s.words j - 1) = λ i j lo lt hi.
    slots_apart k law s h i j lt (others i lo (omega (arith, lt, hi))).0 (others j (omega (arith, lo, lt)) hi).0 in
    let small : AllByRecursion (λ y. y < n) xs = all_seq (λ y. y < n) k s.words from m (λ j lo hi. class_below k law _ (h.taken j (others j lo hi).0).item) in
    let all_others : AllByRecursion (λ y. eqb c y ≡ false) xs = all_seq (λ y. eqb c y ≡ false) k s.words from m (λ j lo hi. ne_eqb _ _ (λ e. (others j lo hi).1 (sym e))) in
    let le = length-le_from_distinct_below (c ∷ xs) n (all_others, distinct_seq k s.words from m apart) (λ q e. any_below n q (c ∷ xs) (class_below k law item below, small) e) in
    let len = length-seq k s.words from m in
    omega (arith, le, len)
