use Rattle.dv_http.proofs.Vocabulary.{held, in_front, is_spent, length, ◌-◌, ◌<◌, ◌≡◌, ◌≤◌}
use Rattle.dv_http.proofs.reading.read_body.Given as goal

abbrev pub decreases-body : goal.decreases-body
decreases-body g l = l.length - length l.body.items

-- the body so far is what was taken, and more is read only where nothing is held
abbrev pub invariant-body : goal.invariant-body
invariant-body g l = record {
  same : in_front l.body.items (in_front (held l.buffer) (g.L.Link.left l.link)) ≡ in_front (held l.fn.buffer) (g.L.Link.left l.fn.link);
  within : length l.body.items ≤ l.length;
  empty : length l.body.items < l.length → length (held l.buffer) ≡ 0;
  kept : g.L.Link.contents l.link ≡ g.L.Link.contents l.fn.link;
  spent : is_spent l.buffer ≡ is_spent l.fn.buffer;
  later : g.L.Link.faults l.fn.link ≤ g.L.Link.faults l.link;
}
