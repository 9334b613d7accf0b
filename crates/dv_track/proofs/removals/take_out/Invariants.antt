use Rattle.dv_track.proofs.Vocabulary.{IsStrictlySortedBy, digest_cmp, drop, length, missing_in, take, vec_capacity, ◌++◌, ◌≡◌, ◌≤◌}
use Rattle.dv_track.proofs.removals.take_out.Given as goal

-- the first places are done, and the others have to be taken out of what is left
abbrev pub invariant-loop-other : goal.invariant-loop-other
invariant-loop-other l = record {
  items : take l.kept l.digests.items ++ missing_in (drop l.other-index l.others) (drop l.from l.digests.items) ≡ missing_in l.others l.fn.digests.items;
  order : IsStrictlySortedBy digest_cmp (drop l.from l.digests.items);
  kept : l.kept ≤ l.from;
  from : l.from ≤ length l.digests.items;
  long : length l.digests.items ≡ length l.fn.digests.items;
  capacity : vec_capacity l.digests ≡ vec_capacity l.fn.digests;
}
