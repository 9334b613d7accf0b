-- Results, one more at a time.
use Rattle.dv_crew.proofs.Vocabulary.{AreResults, List, [], ap, arith, cases_lt, get_or, get_or-append_seam, get_or_append_left, get_or_from_slice_get, length, length-append, slice_get-get_or, slice_get_within, subst, sym, ℕ, ⊎_elim, ◌++◌, ◌+◌, ◌<◌, ◌∙◌, ◌∷◌, ◌≡◌, ◌≤◌}

module _ {T : Type 0} (gives : ℕ → T → Type 0) where
  pub one_more : (tasks : ℕ) (results : List T) (out : T) → AreResults gives tasks results → gives tasks out → AreResults gives (tasks + 1) (results ++ out ∷ [])
  one_more tasks results out so_far given =
      let long = length-append results (out ∷ []) in
      let many = so_far.as_many in record {
        as_many = omega (arith, long, many);
        each = λ task other e.
            let within = slice_get_within (results ++ out ∷ []) task other e in
            let is = get_or_from_slice_get (results ++ out ∷ []) task other other e in
            ⊎_elim
            (λ (before : task < length results). subst (gives task) (sym (get_or_append_left results (out ∷ []) other task before) ∙ is) (so_far.each task (get_or results task other) (slice_get-get_or results task other before)))
            (λ (last : length results ≤ task).
            let at : length results ≡ task = omega (arith, within, last, long) in
            let same : tasks ≡ task = omega (arith, at, many) in
            subst (gives task) (sym (get_or-append_seam results out [] other) ∙ (ap (λ k. get_or (results ++ out ∷ []) k other) at ∙ is)) (subst (λ k. gives k out) same given))
            (cases_lt task (length results));
      }
