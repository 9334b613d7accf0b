-- Numbers at a limit and past it, and the weight of snapshots with one more.
use Rattle.dv_shown.proofs.Vocabulary.{Hashes, Mapping, State, [], arith, false, nat_le, nat_lt, nat_tests, rules, snapshots_weight, sum_by-append, true, weight_with, ℕ, ◌++◌, ◌<◌, ◌∷◌, ◌≡◌, ◌≤◌}

pub at_most : (n most : ℕ) → n ≤ most → nat_le n most ≡ true
at_most n most h = grind (arith, nat_tests)

pub not_above : (n most : ℕ) → n ≤ most → nat_lt most n ≡ false
not_above n most h = grind (arith, nat_tests)

pub is_above : (n most : ℕ) → most < n → nat_lt most n ≡ true
is_above n most h = grind (arith, nat_tests)

pub above : (n most : ℕ) → most < n → nat_le n most ≡ false
above n most h = grind (arith, nat_tests)

-- the weight of the stored snapshots and the new one
pub together : (mapping : Mapping) (hashes : Hashes) (state : State) (date : ℕ) → snapshots_weight mapping hashes state.sealed (state.dates ++ date ∷ []) ≡ weight_with mapping hashes state date
together mapping hashes state date = search (rules, sum_by-append)
