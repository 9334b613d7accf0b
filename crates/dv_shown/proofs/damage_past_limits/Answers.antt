use Rattle.dv_shown.proofs.Vocabulary.{and-false, false-and, length, refl}
use Rattle.dv_shown.proofs.Limits.{above, not_above}
use Rattle.dv_shown.proofs.damage_past_limits.Goals as goal

pub returns : goal.returns
returns c =
    record {
      heavy = λ known rows h. above _ 1073741824 h;
      many_windows = λ mapping heads head h. rw (not_above 10000 (length heads) h) (simp (and-false));
      last_window = λ heads n count later. rw (later, count) refl;
      many_rows = λ rows h. rw (above (length rows) 200000 h) (simp (and-false, false-and));
      many_window_rows = λ mapping heads window h. rw (above _ 400000 h) (simp (and-false));
    }
