use Rattle.dv_http.proofs.Vocabulary.{fields_most, head_most, held, in_front, is_spent, length, ◌-◌, ◌≡◌, ◌≤◌}
use Rattle.dv_http.proofs.heads.find_head.Given as goal

abbrev pub decreases-heads : goal.decreases-heads
decreases-heads g l = head_most - length (held l.buffer)

abbrev pub invariant-heads : goal.invariant-heads
invariant-heads g l = record {
  same : in_front (held l.buffer) (g.L.Link.left l.link) ≡ in_front (held l.fn.buffer) (g.L.Link.left l.fn.link);
  room : length l.spans ≡ fields_most;
  kept : g.L.Link.contents l.link ≡ g.L.Link.contents l.fn.link;
  spent : is_spent l.buffer ≡ is_spent l.fn.buffer;
  later : g.L.Link.faults l.fn.link ≤ g.L.Link.faults l.link;
}
