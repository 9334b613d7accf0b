use Rattle.dv_track.proofs.Vocabulary.{IsMerging}
use Rattle.dv_track.proofs.PutIn.{digest_lt, digest_order}
use Rattle.dv_track.proofs.merges.merge.Given as goal

-- what was moved so far
abbrev pub invariant-loop-left : goal.invariant-loop-left
invariant-loop-left l = IsMerging digest_lt digest_order l.fn.digests.items l.arrivals l.digests.items l.end l.left

abbrev pub decreases-loop-left : goal.decreases-loop-left
decreases-loop-left l = l.left
