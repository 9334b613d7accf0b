use Rattle.dv_serving.proofs.Vocabulary.{after, length, take, ◌-◌, ◌≡◌, ◌≤◌}
use Rattle.dv_serving.proofs.writing.write_whole.Given as goal

-- the bytes so far were written
abbrev pub invariant-loop-at : goal.invariant-loop-at
invariant-loop-at g l = record {
  told : g.L.Link.contents l.link ≡ after (g.L.Link.contents l.fn.link) (take l.at l.bytes);
  within : l.at ≤ length l.bytes;
  kept : g.L.Link.left l.link ≡ g.L.Link.left l.fn.link;
  later : g.L.Link.faults l.fn.link ≤ g.L.Link.faults l.link;
}

abbrev pub decreases-loop-at : goal.decreases-loop-at
decreases-loop-at g l = length l.bytes - l.at
