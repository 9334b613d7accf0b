use Rattle.dv_contents.proofs.Vocabulary.{map, take, ◌≡◌}
use Rattle.dv_contents.proofs.content_rows.copied_keys.Given as goal

-- the copies of the first keys
abbrev pub invariant-loop-key : goal.invariant-loop-key
invariant-loop-key l = l.made ≡ map (λ key. key.now) (take l.key-index l.key-items)
