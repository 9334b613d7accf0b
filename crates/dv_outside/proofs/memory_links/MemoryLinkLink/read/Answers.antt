use Rattle.dv_outside.proofs.Vocabulary.{Some, ap, arith, drop, length, take, ◌-◌, ◌∙◌, ◌≡◌}
use Rattle.dv_outside.proofs.Told.{copied_front, tail_slice}
use Rattle.dv_outside.proofs.memory_links.MemoryLinkLink.read.Goals as goal

pub returns-clause-ok : goal.returns-clause-ok
returns-clause-ok c =
    let at = c.args.self.now.at in
    let count = c.min-count.result in
    let all = c.items.result.now in
    let left : take (length all - at) (drop at all) ≡ drop at c.args.self.now.input = tail_slice at all ∙ ap (drop at) c.items.ensures in
    ap Some (copied_front count at c.args.self.now.input c.copy_from_slice.new.self _ (c.copy_from_slice.ensures.after ∙ ap (take count) left) (omega (arith, c.min-count.ensures, ap length left)))
