use Rattle.dv_http.proofs.Vocabulary.{arith, held, take}
use Rattle.dv_http.proofs.Slices.{part_filled}
use Rattle.dv_http.proofs.buffers.Buffer.fill.Goals as goal

pub returns-clause-came : goal.returns-clause-came
returns-clause-came g c =
    let room = c.settle.new.self in
    let count = c.in_ok-count.count in
    record {
      piece = take count c.read.new.into;
      is = part_filled c.as_mut_slice.result.now room.bytes.items c.read.new.into _ _ (held c.args.self.now) room.start room.end count _
          c.as_mut_slice.ensures.value room.ordered (omega (arith, room.sized, room.within)) c.in_ok-count.ensures.within
          (omega (arith, c.read.auto.into, c.as_mut_slice.ensures.len, c.in_ok-count.ensures.within, room.within, room.sized, room.bytes.ok)) c.settle.ensures.held;
      read = c.in_ok-count.ensures.ok;
    }
