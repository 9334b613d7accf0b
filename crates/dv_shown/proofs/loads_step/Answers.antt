use Rattle.dv_shown.proofs.Vocabulary.{Load, NoExtracts, Refused, Repeated, State, ap, arith, inl, inr, length, option_to_list, refl, ℕ, ⊎_elim, ◌≡◌}
use Rattle.dv_shown.proofs.Literals.{extracts_on_literals}
use Rattle.dv_shown.proofs.loads_step.Goals as goal

-- how many windows a state has sealed, and how many it has open, and how many snapshots
sealed_count : State → ℕ
sealed_count state = length state.sealed

open_count : State → ℕ
open_count state = length (option_to_list state.begun)

date_count : State → ℕ
date_count state = length state.dates

pub returns : goal.returns
unfolding extracts_on_literals sealed_count open_count date_count
returns c =
    record {
      loaded = (refl, refl, refl);
      completed = (refl, refl, refl);
      other_rows = λ s. let e : 2 ≡ 3 = s.2 in omega (arith, e);
      other_state = λ s. let e : 0 ≡ 1 = ap (λ (state : State). length state.sealed) s.1 in omega (arith, e);
      repeated = (refl, refl);
      not_repeated = λ s. let e : Load ≡ Repeated = s.0 in cc;
      refused = (refl, refl);
      refused_alone = λ s. let e : 1 ≡ 0 = ap (λ (state : State). length state.sealed) s.1 in omega (arith, e);
      before = inl refl;
      opened = inr (refl, inl refl);
      sealed_so = inr (refl, inr refl);
      never_opened = λ s. ⊎_elim (λ same. let e : 1 ≡ 0 = ap (λ (state : State). length (option_to_list state.begun)) same in omega (arith, e)) (λ r. let e : Refused NoExtracts ≡ Load = r.0 in cc) s;
      loaded_later = (refl, refl, refl);
      refused_not_loaded = λ s. let e : Refused NoExtracts ≡ Load = s.0 in cc;
      loaded_not_open = λ s. let e : 0 ≡ 1 = ap sealed_count s.1 in omega (arith, e);
      repeated_alone = λ s. let e : 0 ≡ 1 = ap sealed_count s.1 in omega (arith, e);
      not_refused = λ s. let e : Load ≡ Refused NoExtracts = s.0 in cc;
      before_for_memory = inl refl;
      opened_for_memory = inr (refl, inl refl);
      sealed_by_fault = inr (refl, inr refl);
      refused_not_opened = λ s. ⊎_elim (λ same. let e : 1 ≡ 0 = ap open_count same in omega (arith, e)) (λ r. let e : Refused NoExtracts ≡ Load = r.0 in cc) s;
      refused_not_opened_for_memory = λ s. ⊎_elim (λ same. let e : 1 ≡ 0 = ap open_count same in omega (arith, e)) (λ r. let e : Refused NoExtracts ≡ Load = r.0 in cc) s;
      fault_elsewhere = λ s. ⊎_elim (λ same. let e : 2 ≡ 0 = ap sealed_count same in omega (arith, e)) (λ r. ⊎_elim (λ o. let e : 2 ≡ 0 = ap sealed_count o in omega (arith, e)) (λ o. let e : 2 ≡ 1 = ap sealed_count o in omega (arith, e)) r.1) s;
      memory_elsewhere = λ s. ⊎_elim (λ same. let e : 2 ≡ 0 = ap sealed_count same in omega (arith, e)) (λ r. ⊎_elim (λ o. let e : 2 ≡ 0 = ap sealed_count o in omega (arith, e)) (λ o. let e : 2 ≡ 1 = ap sealed_count o in omega (arith, e)) r.1) s;
      damaged = refl;
      damaged_not_opened = λ s. let e : 1 ≡ 0 = ap open_count s in omega (arith, e);
      beside_snapshot = (refl, refl, refl);
      snapshot_lost = λ s. let e : 0 ≡ 1 = ap date_count s.1 in omega (arith, e);
      open_beside_snapshot = inr (refl, inl refl);
      open_without = λ s. ⊎_elim (λ same. let e : 0 ≡ 1 = ap date_count same in omega (arith, e)) (λ r. ⊎_elim (λ o. let e : 0 ≡ 1 = ap date_count o in omega (arith, e)) (λ o. let e : 0 ≡ 1 = ap date_count o in omega (arith, e)) r.1) s;
    }
