use Rattle.dv_board.proofs.Vocabulary.{arith, get_or, get_or_default, length, length_of_keys, same_tags, ◌<◌, ◌==◌, ◌∙◌, ◌≡◌}
use Rattle.dv_board.proofs.tagged.TaggedKeyItems.same.Goals as goal

pub returns : goal.returns
returns c =
    let tags = c.args.self.now.tags.items in
    let size = length_of_keys tags in
    let first = c.requires.first in
    let second = c.requires.second in
    let lt_a : c.args.a < length tags = omega (arith, size, first) in
    let lt_b : c.args.b < length tags = omega (arith, size, second) in
    let at_a : c.index.result.now ≡ get_or tags c.args.a 0 = c.index.ensures ∙ get_or_default tags c.args.a c.index.result.now 0 lt_a in
    let at_b : c.index-2.result.now ≡ get_or tags c.args.b 0 = c.index-2.ensures ∙ get_or_default tags c.args.b c.index-2.result.now 0 lt_b in
    (λ i. at_a i == at_b i) ∙ same_tags tags c.args.a c.args.b lt_a lt_b
