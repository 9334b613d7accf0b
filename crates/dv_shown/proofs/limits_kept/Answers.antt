use Rattle.dv_shown.proofs.Vocabulary.{Bool, arith, false, length, refl, true, ◌&&◌, ◌+◌, ◌≡◌}
use Rattle.dv_shown.proofs.Limits.{above, at_most, not_above, together}
use Rattle.dv_shown.proofs.limits_kept.Goals as goal

and-true : (b : Bool) → (b && true) ≡ b
and-true true = refl
and-true false = refl

pub returns : goal.returns
returns c =
    record {
      extract_within = λ feed bytes h. rw (not_above (length bytes) 33554432 h, not_above (0 + length bytes) 67108864 (omega (arith, h))) refl;
      rows_within = λ mapping feed rows h. rw (at_most (length rows) 200000 h) (simp (and-true));
      window_within = λ mapping window h. rw (at_most _ 400000 h) (simp (and-true));
      windows_within = λ mapping hashes windows h few. rw (at_most _ 1073741824 h, at_most (length windows) 10000 few) (simp (and-true));
      snapshots_within = λ mapping hashes state few h. rw (at_most (length state.dates) 1000 few, at_most _ 268435456 h) (simp (and-true));
      snapshot_within = λ mapping hashes state date h few. rw (together mapping hashes state date, not_above _ 268435456 h, above 1000 (length state.dates) few) refl;
    }
