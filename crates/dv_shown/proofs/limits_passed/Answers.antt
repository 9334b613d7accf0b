use Rattle.dv_shown.proofs.Vocabulary.{and-false, false-and, length, nat_lt, or-true, refl, weight_with, ◌+◌}
use Rattle.dv_shown.proofs.Limits.{above, at_most, is_above, not_above, together}
use Rattle.dv_shown.proofs.limits_passed.Goals as goal

pub returns : goal.returns
returns c =
    record {
      long_extract = λ feed bytes h. rw (is_above (length bytes) 33554432 h) refl;
      long_window = λ feed a b h past. rw (not_above (length a) 33554432 h, is_above (40000000 + length a) 67108864 past) refl;
      long_refused = λ bytes h. rw (is_above (length bytes) 33554432 h) refl;
      other_open_first = λ bytes. refl;
      many_rows = λ mapping feed rows h. rw (above (length rows) 200000 h) (simp (and-false));
      many_window_rows = λ mapping window h. rw (above _ 400000 h) (simp (and-false));
      many_windows = λ mapping hashes windows h. rw (above (length windows) 10000 h) (simp (and-false));
      heavy_windows = λ mapping hashes windows h. rw (above _ 1073741824 h) (simp (and-false, false-and));
      many_snapshots = λ mapping hashes state h. rw (above (length state.dates) 1000 h) (simp (and-false, false-and));
      heavy_snapshots = λ mapping hashes state h. rw (above _ 268435456 h) (simp (and-false));
      heavy_vault = λ mapping hashes state window h. rw (is_above _ 1073741824 h) refl;
      collision_told = λ mapping hashes state given rule h c. rw (h.extracts, h.known, h.once, h.later, h.alone, h.short, h.rows, h.same, h.new, c) refl;
      full_told = λ mapping hashes state given rule h c f. rw (h.extracts, h.known, h.once, h.later, h.alone, h.short, h.rows, h.same, h.new, c, f) refl;
      full_snapshot_told = λ mapping hashes state date answer a b c d. rw (a, b, c, d) refl;
      large_path = λ mapping hashes state date path f t p. rw (f, t, p) refl;
      taken_first = λ mapping hashes state date f t. rw (f, t) refl;
      heavy_snapshot = λ mapping hashes state date h. rw (together mapping hashes state date, is_above _ 268435456 h) refl;
      snapshot_too_many = λ mapping hashes state date h. rw (together mapping hashes state date, at_most 1000 (length state.dates) h, or-true (nat_lt 268435456 (weight_with mapping hashes state date))) refl;
    }
