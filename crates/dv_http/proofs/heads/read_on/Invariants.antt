use Rattle.dv_http.proofs.Vocabulary.{Came, HasNoRequest, head_most, held, is_spent, length, ◌-◌, ◌<◌, ◌≡◌, ◌≤◌}
use Rattle.dv_http.proofs.heads.read_on.Given as goal

abbrev pub decreases-reads : goal.decreases-reads
decreases-reads g l = head_most - length (held l.buffer)

-- all that came so far came behind what was held
abbrev pub invariant-reads : goal.invariant-reads
invariant-reads g l = record {
  came : Came (held l.fn.buffer) (held l.buffer) (g.L.Link.left l.fn.link) (g.L.Link.left l.link);
  more : length (held l.fn.buffer) ≤ length (held l.buffer);
  short : length (held l.buffer) < head_most;
  none : HasNoRequest (held l.buffer);
  before : l.before ≡ length (held l.fn.buffer);
  kept : g.L.Link.contents l.link ≡ g.L.Link.contents l.fn.link;
  spent : is_spent l.buffer ≡ is_spent l.fn.buffer;
  later : g.L.Link.faults l.fn.link ≤ g.L.Link.faults l.link;
}
