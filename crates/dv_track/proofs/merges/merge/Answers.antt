use Rattle.dv_track.proofs.Vocabulary.{ap, arith, begins, drop, ends, goes_on, length, length-take-le, take, take_at, ◌++◌, ◌-◌, ◌∙◌, ◌≡◌}
use Rattle.dv_track.proofs.PutIn.{digest_lt, digest_order}
use Rattle.dv_track.proofs.merges.merge.Goals as goal

pub loop-left-init : goal.loop-left-init
loop-left-init c =
    let end : c.len-end.result ≡ length c.args.digests.now.items = omega (arith, c.len-end.ensures, c.args.digests.now.ok) in
    rw end (begins digest_lt digest_order c.args.digests.now.items c.args.arrivals.now c.extend_from_slice.new.self.items c.requires.olds c.requires.news (c.in-Ok.ensures {u = tt}).items)

pub loop-left-preserved : goal.loop-left-preserved
loop-left-preserved c =
    let value = c.deref_mut.ensures.value in
    let read = c.deref.ensures.value in
    let m = c.loop-left.invariant in
    let next : take c.loop-left.digests.len (c.put_before.new.digests ++ drop (length c.put_before.new.digests) c.loop-left.digests.items) ≡ c.put_before.new.digests =
    take_at c.put_before.new.digests (drop (length c.put_before.new.digests) c.loop-left.digests.items) c.loop-left.digests.len (omega (arith, c.put_before.ensures.len, ap length value, c.loop-left.digests.ok)) in
    let counted : length (take c.loop-left.end c.loop-left.digests.items) ≡ c.loop-left.end = length-take-le c.loop-left.end c.loop-left.digests.items (omega (arith, m.long, m.end_in)) in
    let within = rw read at c.count_up_to-place.ensures.within in
    let point = rw read at c.count_up_to-place.ensures.point in
    rw next
    (goes_on digest_lt digest_order c.args.digests.now.items c.args.arrivals.now c.loop-left.digests.items c.put_before.new.digests c.loop-left.end c.loop-left.left (c.loop-left.left - 1) c.count_up_to-place.result
    c.index-arrivals-left.result c.index-arrivals-left.result m (omega arith) c.index-arrivals-left.is (omega (arith, within, counted)) point
    (c.put_before.ensures.len ∙ ap length value) (rw value at c.put_before.ensures.front) (rw value at c.put_before.ensures.back))

pub returns-clause-each : goal.returns-clause-each
returns-clause-each c =
    let none : c.loop-left.left ≡ 0 = omega arith in
    (ends digest_lt digest_order c.args.digests.now.items c.args.arrivals.now c.loop-left.digests.items c.loop-left.end (rw none at c.loop-left.invariant)).0

pub returns-clause-ordered : goal.returns-clause-ordered
returns-clause-ordered c =
    let none : c.loop-left.left ≡ 0 = omega arith in
    (ends digest_lt digest_order c.args.digests.now.items c.args.arrivals.now c.loop-left.digests.items c.loop-left.end (rw none at c.loop-left.invariant)).1
