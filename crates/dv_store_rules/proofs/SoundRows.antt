-- The rows of a table that is made of batches break no rule where each, behind those before it, breaks none.
use Rattle.dv_store_rules.proofs.Vocabulary.{List, None, Option, [], appended, arith, first_flaw, le-leb, nat_le, refl, subst, sum_by, sum_by-append, sum_by-cons, sym, true, ℕ, ◌++◌, ◌+◌, ◌∙◌, ◌∷◌, ◌≡◌, ◌≤◌}
use Rattle.dv_store_rules.proofs.{BatchRows.IsOfBatch, BatchRows.of_batch, Flawless.flawless}

-- rows up to one weigh no more than all rows
light_up_to : {R : Type 0} (weight : R → ℕ) (before : List R) (row : R) (after : List R) (tables most : ℕ) → tables + sum_by weight (before ++ row ∷ after) ≤ most → nat_le (tables + sum_by weight (before ++ row ∷ [])) most ≡ true
light_up_to weight before row after tables most light =
    let all = sum_by-append weight before (row ∷ after) in
    let some = sum_by-append weight before (row ∷ []) in
    let more = sum_by-cons weight row after in
    let one = sum_by-cons weight row [] in
    let none : sum_by weight [] ≡ 0 = refl in
    le-leb (tables + sum_by weight (before ++ row ∷ [])) most (omega (arith, light, all, some, more, one, none))

-- where the rows weigh little, with what was read before them
pub sound_rows : {E R : Type 0} (batch : List E → E → List R) (events : List E) (rule : List R → R → Option ℕ) (weight : R → ℕ) (tables most : ℕ) (rows : List R) → rows ≡ appended batch events → tables + sum_by weight rows ≤ most
    → ((before : List R) (row : R) → IsOfBatch batch events before row → nat_le (tables + sum_by weight (before ++ row ∷ [])) most ≡ true → rule before row ≡ None) → first_flaw rule rows ≡ None
sound_rows batch events rule weight tables most rows made light sound =
    flawless rule rows (λ before row after e.
    sound before row (of_batch batch events before row after (sym made ∙ e)) (light_up_to weight before row after tables most (subst (λ rows. tables + sum_by weight rows ≤ most) e light)))
