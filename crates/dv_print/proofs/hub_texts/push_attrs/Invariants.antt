use Rattle.dv_print.proofs.Vocabulary.{dotted, map, take, ◌++◌, ◌≡◌}
use Rattle.dv_print.proofs.hub_texts.push_attrs.Given as goal

abbrev pub invariant-loop-attr : goal.invariant-loop-attr
invariant-loop-attr l = l.header ≡ l.initial.header ++ map (dotted l.fn.feed.name) (take l.attr-index l.attr-items)
