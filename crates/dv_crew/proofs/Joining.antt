-- What halves of a crew have done, put together.
use Rattle.dv_crew.proofs.Vocabulary.{All-append, AreDone, BoardId, Bool, Claimant, Done, HasDoneAll, HasWorked, List, Order, Worker, [], ap, arith, cases_eq, cond, counterpart, map, map-append, nat_eq, ne_eqb, numbers, once_below, subst, sym, tasks_drawn, times, times_one, ℕ, ⊎_elim, ◌++◌, ◌+◌}
use Rattle.dv_crew.proofs.Vocabulary.{◌<◌, ◌||◌, ◌∙◌, ◌∷◌, ◌≡◌, ◌≤◌}
use Rattle.dv_crew.proofs.Counting.{back_again, counterpart_within}

module _ {S T : Type 0} (has_done : S → List ℕ → Type 0) (gives : ℕ → T → Type 0) (order : Order) (tasks : ℕ) (board : BoardId) where
  pub both_worked : (low high workers : ℕ) (one other : Worker S) (last : Worker S) (rest done all : List (Done T)) → high + low ≡ workers
      → HasWorked has_done gives order tasks board high one rest → HasWorked has_done gives order tasks board low other done
      → last.seat ≡ record one.seat { claims = one.seat.claims ++ other.seat.claims; had_none = one.seat.had_none || other.seat.had_none; share = one.seat.share + other.seat.share }
      → all ≡ rest ++ done → has_done last.own (tasks_drawn order tasks one.seat.claims ++ tasks_drawn order tasks other.seat.claims)
      → HasWorked has_done gives order tasks board workers last all
  both_worked low high workers one other last rest done all sum of_one of_other seat is did =
      let claims = ap (λ (y : Claimant). y.claims) seat in
      let halves = ap (λ (y : Claimant). y.share) seat in
      let of_high = of_one.whole in
      let of_low = of_other.whole in
      let P : Done T → Type 0 = λ one. gives (counterpart order tasks one.number) one.out in record {
        mine = ap (λ (y : Claimant). y.board) seat ∙ of_one.mine;
        ended = ap (λ (y : Claimant). y.had_none) seat ∙ ap (λ (b : Bool). b || other.seat.had_none) of_one.ended;
        whole = omega (arith, halves, of_high, of_low, sum);
        drew = ap numbers is ∙ (map-append (λ (one : Done T). one.number) rest done ∙ ((λ i. of_one.drew i ++ of_other.drew i) ∙ sym claims));
        each = subst (AreDone gives order tasks) (sym is) (All-append P rest done of_one.each of_other.each);
        did = subst (has_done last.own) (sym (ap (tasks_drawn order tasks) claims ∙ map-append (counterpart order tasks) one.seat.claims other.seat.claims)) did;
      }

-- ---- the tasks for which drawn numbers stand

once_under : (x n : ℕ) → x < n → once_below x n ≡ 1
once_under x n lt = grind (arith, lt)

under_once : (x n : ℕ) → 1 ≤ once_below x n → x < n
under_once x n has = grind (arith, has)

module _ (f : ℕ → ℕ) where
  mapped : (xs : List ℕ) (x : ℕ) → 1 ≤ times x xs → 1 ≤ times (f x) (map f xs)
  mapped [] x has = absurd (omega (arith, has))
  mapped (y ∷ ys) x has =
      ⊎_elim
      (λ (same : y ≡ x). let e = ap {B = ℕ} (λ n. cond (nat_eq (f n) (f x)) 1 0) same in let here = times_one (f x) in omega (arith, e, here))
      (λ (apart : y ≡ x → ⊥).
      let none = ap {B = ℕ} (λ (b : Bool). cond b 1 0) (ne_eqb y x apart) in
      let rest = mapped ys x (omega (arith, has, none)) in
      omega (arith, rest))
      (cases_eq y x)

  from_mapped : (xs : List ℕ) (y : ℕ) → 1 ≤ times y (map f xs) → (x : ℕ) × (1 ≤ times x xs) × (f x ≡ y)
  from_mapped [] y has = absurd (omega (arith, has))
  from_mapped (x ∷ xs) y has =
      ⊎_elim
      (λ (same : f x ≡ y). (x, first x xs, same))
      (λ (apart : f x ≡ y → ⊥).
      let none = ap {B = ℕ} (λ (b : Bool). cond b 1 0) (ne_eqb (f x) y apart) in
      let (z, in_rest, is) = from_mapped xs y (omega (arith, has, none)) in
      (z, omega (arith, in_rest), is))
      (cases_eq (f x) y)
    where
      first : (x : ℕ) (xs : List ℕ) → 1 ≤ times x (x ∷ xs)
      first x xs = let here = times_one x in omega (arith, here)

module _ {S : Type 0} (has_done : S → List ℕ → Type 0) (order : Order) (tasks : ℕ) where
  -- where each number was drawn, each task is done
  pub all_done : (own : S) (claims : List ℕ) → ((x : ℕ) → times x claims ≡ once_below x tasks) → has_done own (tasks_drawn order tasks claims) → HasDoneAll has_done tasks own
  all_done own claims once did = record {
    done = tasks_drawn order tasks claims;
    did = did;
    each = λ task lt.
        let number = counterpart order tasks task in
        let drawn = once number in
        let one = once_under number tasks (counterpart_within order tasks task lt) in
        subst (λ n. 1 ≤ times n (tasks_drawn order tasks claims)) (back_again order tasks task lt) (mapped (counterpart order tasks) claims number (omega (arith, drawn, one)));
    only = λ task has.
        let (number, drawn, is) = from_mapped (counterpart order tasks) claims task has in
        let counted = once number in
        let under = under_once number tasks (omega (arith, drawn, counted)) in
        subst (λ n. n < tasks) is (counterpart_within order tasks number under);
  }
