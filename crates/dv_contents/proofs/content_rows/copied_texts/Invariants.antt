use Rattle.dv_contents.proofs.Vocabulary.{take, ◌≡◌}
use Rattle.dv_contents.proofs.content_rows.copied_texts.Given as goal

-- the copies of the first texts
abbrev pub invariant-loop-text : goal.invariant-loop-text
invariant-loop-text l = l.made ≡ take l.text-index l.texts
