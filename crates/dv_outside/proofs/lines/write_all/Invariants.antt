use Rattle.dv_outside.proofs.Vocabulary.{after, length, take, ◌-◌, ◌≡◌, ◌≤◌}
use Rattle.dv_outside.proofs.lines.write_all.Given as goal

abbrev pub invariant-loop-at : goal.invariant-loop-at
invariant-loop-at g l = record {
  told : g.S.Sink.contents l.sink ≡ after (g.S.Sink.contents l.fn.sink) (take l.at l.bytes);
  within : l.at ≤ length l.bytes;
  later : g.S.Sink.faults l.fn.sink ≤ g.S.Sink.faults l.sink;
}

abbrev pub decreases-loop-at : goal.decreases-loop-at
decreases-loop-at g l = length l.bytes - l.at
