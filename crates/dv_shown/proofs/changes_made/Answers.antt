use Rattle.dv_shown.proofs.Vocabulary.{Failed, List, Memory, None, Option, Some, Store, [], ap, arith, codes, inl, inr, option_and_then, refl, slice_index, unwrap_or, ℕ, ⊎_elim, ◌≡◌, ◌≤◌}
use Rattle.dv_shown.proofs.changes_made.Goals as goal

-- the mapping that a store holds, where it is told
mapping_in : Option Store → Option (List ℕ)
mapping_in told = option_and_then (λ store. store.mapping) told

pub returns : goal.returns
unfolding mapping_in
returns c =
    record {
      works = refl;
      works_not = λ s. let e : None ≡ Some (codes "m") = ap mapping_in s in cc;
      untold = refl;
      lacks_memory = refl;
      lacks_memory_not = λ s. let e : Some (codes "m") ≡ None = ap mapping_in s in cc;
      fails_before = inl refl;
      fails_after = inr refl;
      fails_otherwise = λ s. ⊎_elim (λ same. let e : Some (codes "n") ≡ None = ap mapping_in same in cc) (λ so. let e : 110 ≡ 109 = ap (λ (told : Option Store). slice_index (unwrap_or (mapping_in told) []) 0) so in omega (arith, e)) s;
      counted = record { later = omega arith; failed = λ e. omega arith };
      not_counted = λ s. let rose : 2 ≤ 1 = s.failed refl in omega (arith, rose);
      count_fell = λ s. let later : 2 ≤ 1 = s.later in omega (arith, later);
      lacks_memory_uncounted = record { later = omega arith; failed = λ e. let same : Memory ≡ Failed = cc in cc };
    }
