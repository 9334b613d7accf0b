use Rattle.dv_shown.proofs.Vocabulary.{None, Some, State, Window, [], ap, arith, first_loaded, inl, inr, length, loaded, plain, refl, renamed, sym, with_names, ℕ, ⊎_elim, ◌∙◌, ◌≡◌}
use Rattle.dv_shown.proofs.resumes_step.Goals as goal

not_two : (window : Window) → Some first_loaded ≡ Some window → 2 ≡ loaded with_names plain [] window → ⊥
not_two window is rows =
    let same : first_loaded ≡ window = cc is in
    let e : 2 ≡ 3 = rows ∙ ap (loaded with_names plain []) (sym same) in
    omega (arith, e)

-- how many windows a state has sealed, and how many snapshots
sealed_count : State → ℕ
sealed_count state = length state.sealed

date_count : State → ℕ
date_count state = length state.dates

pub returns : goal.returns
unfolding sealed_count date_count
returns c =
    record {
      loaded = (first_loaded, refl, refl, refl);
      other_rows = λ s. not_two s.0 s.1 s.3;
      nothing_open = (refl, refl);
      one_open = λ s. let e : Some first_loaded ≡ None = s.0 in cc;
      before = inl refl;
      sealed_so = inr (first_loaded, refl, refl);
      never_sealed = λ s. ⊎_elim (λ same. let e : 0 ≡ 1 = ap (λ (state : State). length state.sealed) same in omega (arith, e)) (λ r. let e : None ≡ Some r.0 = r.1 in cc) s;
      loaded_unopened = λ s. let e : None ≡ Some s.0 = s.1 in cc;
      loaded_not_sealed = λ s. let e : 0 ≡ 1 = ap sealed_count s.2 in omega (arith, e);
      nothing_open_alone = λ s. let e : 0 ≡ 1 = ap sealed_count s.1 in omega (arith, e);
      before_for_memory = inl refl;
      sealed_by_fault = inr (first_loaded, refl, refl);
      fault_elsewhere = λ s. ⊎_elim (λ same. let e : 2 ≡ 0 = ap sealed_count same in omega (arith, e)) (λ r. let e : 2 ≡ 1 = ap sealed_count r.2 in omega (arith, e)) s;
      memory_elsewhere = λ s. ⊎_elim (λ same. let e : 2 ≡ 0 = ap sealed_count same in omega (arith, e)) (λ r. let e : 2 ≡ 1 = ap sealed_count r.2 in omega (arith, e)) s;
      nothing_to_seal = λ s. ⊎_elim (λ same. let e : 2 ≡ 1 = ap sealed_count same in omega (arith, e)) (λ r. let e : None ≡ Some r.0 = r.1 in cc) s;
      beside_snapshot = (renamed, refl, refl, refl);
      snapshot_lost = λ s. let e : 0 ≡ 1 = ap date_count s.2 in omega (arith, e);
      fault_beside_snapshot = inr (renamed, refl, refl);
      fault_without = λ s. ⊎_elim (λ same. let e : 0 ≡ 1 = ap date_count same in omega (arith, e)) (λ r. let e : 0 ≡ 1 = ap date_count r.2 in omega (arith, e)) s;
      damaged = refl;
      damaged_not_sealed = λ s. let e : 2 ≡ 1 = ap sealed_count s in omega (arith, e);
    }
