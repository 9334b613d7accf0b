use Rattle.dv_app.proofs.Vocabulary.{Loaded, hashes_of, seen, take}
use Rattle.dv_app.specs.Loadings.{Leaves}
use Rattle.dv_app.proofs.tries.load_all.Given as goal

-- the manifests so far were taken
abbrev pub invariant-loop-name : goal.invariant-loop-name
invariant-loop-name g l = record {
  loaded : Loaded l.fn.loading.office.vault.mapping (hashes_of g.H.KeyDigest.function) (take l.name-index l.names) l.loading
      (seen g.F.Folder.files g.F.Folder.faults l.fn.folder l.folder) (seen g.E.Sink.contents g.E.Sink.faults l.fn.err l.err);
  leaves : Leaves (seen g.F.Folder.files g.F.Folder.faults l.fn.folder l.folder) (seen g.E.Sink.contents g.E.Sink.faults l.fn.err l.err);
}
