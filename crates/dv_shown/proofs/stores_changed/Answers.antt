use Rattle.dv_shown.proofs.Vocabulary.{arith, day, refl, ◌≡◌}
use Rattle.dv_shown.proofs.stores_changed.Goals as goal

pub returns : goal.returns
returns c =
    record {
      mapped = refl;
      staged = refl;
      filled = refl;
      sealed = refl;
      snapped = refl;
      snapped_first = refl;
      snapped_between = refl;
      snapped_last = refl;
      staged_at = refl;
      staged_later = λ s. let e : day 1 ≡ day 2 = s in omega (arith, e);
      not_staged = λ s. s;
    }
