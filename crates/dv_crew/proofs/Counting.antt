-- The numbers of what was done, one taken out, and the tasks for which they stand.
use Rattle.dv_crew.proofs.Vocabulary.{Bool, Contains, Declared, Done, List, None, Order, Reverse, Some, [], ap, arith, cond, counterpart, drop, eqb-true, false, get_or, length, nat_eq, none_placed, numbers, once_below, position, position-Some, refl, suc, take, times, zero, ℕ, ◌++◌, ◌+◌, ◌<◌}
use Rattle.dv_crew.proofs.Vocabulary.{◌==◌, ◌∙◌, ◌∷◌, ◌≡◌}

module _ {T : Type 0} where
  pub times_cut : (x : ℕ) (done : List (Done T)) (place : ℕ) (one : Done T) → place < length done → one ≡ get_or done place one
      → times x (numbers done) ≡ times x (numbers (take place done ++ drop (suc place) done)) + cond (nat_eq one.number x) 1 0
  times_cut x [] place one lt e = absurd (omega (arith, lt))
  times_cut x (y ∷ ys) zero one lt e = let t = ap {B = ℕ} (λ (z : Done T). cond (nat_eq z.number x) 1 0) e in omega (arith, t)
  times_cut x (y ∷ ys) (suc place) one lt e = let t = times_cut x ys place one (omega (arith, lt)) e in omega (arith, t)

  none_among : (number : ℕ) (done : List (Done T)) → ((one : Done T) → Contains done one → (one.number == number) ≡ false) → times number (numbers done) ≡ 0
  none_among number [] none = refl
  none_among number (one ∷ done) none =
      let here = ap {B = ℕ} (λ (b : Bool). cond b 1 0) (none one (0, omega arith, refl)) in
      let rest = none_among number done (λ other at. let under = at.1 in none other (suc at.0, omega (arith, under), at.2)) in
      omega (arith, here, rest)

  pub none_there : (number : ℕ) (done : List (Done T)) → position (λ one. one.number == number) done ≡ None → times number (numbers done) ≡ 0
  none_there number done e = none_among number done (none_placed (λ one. one.number == number) done e)

  pub found_within : (number : ℕ) (done : List (Done T)) (place : ℕ) (one : Done T) → position (λ one. one.number == number) done ≡ Some place → one ≡ get_or done place one → (place < length done) × (one.number ≡ number)
  found_within number done place one e is =
      let found = position-Some (λ (one : Done T). one.number == number) done place one e in
      (found.0, ap (λ (one : Done T). one.number) is ∙ eqb-true _ _ found.1)

pub counterpart_within : (order : Order) (tasks task : ℕ) → task < tasks → counterpart order tasks task < tasks
counterpart_within Declared tasks task lt = lt
counterpart_within Reverse tasks task lt = omega (arith, lt)

-- the number for a task stands for that task
pub back_again : (order : Order) (tasks task : ℕ) → task < tasks → counterpart order tasks (counterpart order tasks task) ≡ task
back_again Declared tasks task lt = refl
back_again Reverse tasks task lt = omega (arith, lt)

-- the number for a task stands for none of those before it
pub none_yet : (order : Order) (tasks task : ℕ) → task < tasks → once_below (counterpart order tasks (counterpart order tasks task)) task ≡ 0
none_yet order tasks task lt = let back = back_again order tasks task lt in grind (arith, back)

-- of the numbers below the number of tasks, one more stands for one of the first tasks
pub one_task_more : (order : Order) (tasks task x : ℕ) → task < tasks → x < tasks → once_below (counterpart order tasks x) (task + 1) ≡ once_below (counterpart order tasks x) task + times x (counterpart order tasks task ∷ [])
one_task_more Declared tasks task x lt under = grind (arith, lt, under)
one_task_more Reverse tasks task x lt under = grind (arith, lt, under)
