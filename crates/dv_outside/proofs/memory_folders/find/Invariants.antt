use Rattle.dv_outside.proofs.Vocabulary.{drop, file_at, ◌≡◌}
use Rattle.dv_outside.proofs.memory_folders.find.Given as goal

-- the name is that of no file before
abbrev pub invariant-loop-file : goal.invariant-loop-file
invariant-loop-file l = file_at (drop l.file-index l.files) l.name ≡ file_at l.files l.name
