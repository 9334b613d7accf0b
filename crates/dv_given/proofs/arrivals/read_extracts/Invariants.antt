use Rattle.dv_given.proofs.Vocabulary.{Told, drop, no_reading, read_from, reading_of, ◌≡◌, ◌≤◌}
use Rattle.dv_given.proofs.arrivals.read_extracts.Given as goal

-- the reading of the extracts behind goes on from there
abbrev pub invariant-loop-extract : goal.invariant-loop-extract
invariant-loop-extract g l = record {
  told : Told (g.F.Folder.files l.fn.folder) (λ files. read_from files (reading_of l.reading) (drop l.extract-index l.extracts) ≡ read_from files no_reading l.extracts);
  kept : g.F.Folder.files l.folder ≡ g.F.Folder.files l.fn.folder;
  later : g.F.Folder.faults l.fn.folder ≤ g.F.Folder.faults l.folder;
}
