use Rattle.dv_shown.proofs.Vocabulary.{and-false, length, refl}
use Rattle.dv_shown.proofs.Limits.{not_above}
use Rattle.dv_shown.proofs.snapshots_damaged.Goals as goal

pub returns : goal.returns
returns c =
    record {
      in_order = refl;
      between = refl;
      early = refl;
      same_date = refl;
      falls = refl;
      future = refl;
      of_open = refl;
      none_sealed = refl;
      full = refl;
      heavy = refl;
      heavy_first = refl;
      rows_first = refl;
      many = λ windows before head h. rw (not_above 1000 (length before) h) (simp (and-false));
    }
