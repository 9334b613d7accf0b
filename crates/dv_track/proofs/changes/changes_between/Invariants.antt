use Rattle.dv_track.proofs.Vocabulary.{IsStrictlySortedBy, changes_between, digest_cmp, length, ◌++◌, ◌+◌, ◌≡◌}
use Rattle.dv_track.proofs.changes.changes_between.Given as goal

-- the rows so far are before those of what is left of both lists
abbrev pub invariant-loop-head : goal.invariant-loop-head
invariant-loop-head l = record {
  rows : l.made ++ changes_between l.source l.load l.was l.now ≡ changes_between l.source l.load l.fn.was l.fn.now;
  was : IsStrictlySortedBy digest_cmp l.was;
  now : IsStrictlySortedBy digest_cmp l.now;
}

abbrev pub decreases-loop-head : goal.decreases-loop-head
decreases-loop-head l = length l.was + length l.now
