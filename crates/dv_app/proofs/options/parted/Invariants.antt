use Rattle.dv_app.proofs.Vocabulary.{drop, map, parted, parted_from, string_bytes, ◌≡◌}
use Rattle.dv_app.proofs.options.parted.Given as goal

abbrev pub invariant-loop-word : goal.invariant-loop-word
invariant-loop-word l = parted_from l.found (map string_bytes (drop l.word-index l.words)) ≡ parted (map string_bytes l.words)
