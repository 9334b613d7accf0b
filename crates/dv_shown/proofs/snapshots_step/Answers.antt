use Rattle.dv_shown.proofs.Vocabulary.{Future, None, Some, State, ap, arith, day, inl, inr, length, option_to_list, refl, slice_index, ℕ, ⊎_elim, ◌≡◌}
use Rattle.dv_records.specs.declared.answers.SnapAnswer.TheVariants.{Repeated}
use Rattle.dv_shown.proofs.snapshots_step.Goals as goal

-- how many snapshots a state has, and the date of the first
date_count : State → ℕ
date_count state = length state.dates

first_date : State → ℕ
first_date state = slice_index state.dates 0

-- how many windows it has open
open_count : State → ℕ
open_count state = length (option_to_list state.begun)

pub returns : goal.returns
unfolding date_count first_date open_count
returns c =
    record {
      stored = (refl, refl, refl);
      stored_before = (refl, refl, refl);
      other_rows = λ s. let e : 2 ≡ 3 = s.2 in omega (arith, e);
      repeated = (refl, refl);
      future = (refl, refl);
      nothing_sealed = (refl, refl);
      at_last = λ s. let e : None ≡ Some (Future (Some (day 1))) = s.0 in cc;
      before = inl refl;
      stored_so = inr (refl, refl);
      memory = refl;
      memory_stores_none = λ s. let e : 1 ≡ 0 = ap (λ (state : State). length state.dates) s in omega (arith, e);
      ascending = refl;
      too_heavy = refl;
      just_heavy = refl;
      too_many = refl;
      refused_not_stored = λ s. let e : Some (Future (Some (day 1))) ≡ None = s.0 in cc;
      stored_not_kept = λ s. let e : 0 ≡ 1 = ap date_count s.1 in omega (arith, e);
      repeated_alone = λ s. let e : 0 ≡ 1 = ap date_count s.1 in omega (arith, e);
      not_repeated = λ s. let e : None ≡ Some Repeated = s.0 in cc;
      refused_by_fault = λ s. ⊎_elim (λ same. let e : 1 ≡ 0 = ap date_count same in omega (arith, e)) (λ r. let e : Some (Future (Some (day 1))) ≡ None = r.0 in cc) s;
      fault_elsewhere = λ s. ⊎_elim (λ same. let e : 1 ≡ 0 = ap date_count same in omega (arith, e)) (λ r. let e : day 1 ≡ day 2 = ap first_date r.1 in omega (arith, e)) s;
      future_before_repeated = refl;
      open_is_future = refl;
      beside_open = (refl, refl, refl);
      open_lost = λ s. let e : 0 ≡ 1 = ap open_count s.1 in omega (arith, e);
      at_open = (refl, refl);
      at_open_not_stored = λ s. let e : Some (Future (Some (day 1))) ≡ None = s.0 in cc;
    }
