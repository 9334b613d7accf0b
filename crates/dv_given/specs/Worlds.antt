-- What a command sees of the outside, by the objects that it is lent before it begins and as they are when it ends.
use Rattle.std.specs.Prelude.{ℕ, List}
use Rattle.dv_outside.specs.Seen.{Seen}
use Rattle.dv_outside.specs.Worlds.{World}
use Rattle.dv_outside.specs.declared.folders.Folder.{Ghosts as OfFolder}
use Rattle.dv_outside.specs.declared.folders.NamedFile.{NamedFile}
use Rattle.dv_outside.specs.declared.sinks.Sink.{Ghosts as OfSink}
use Rattle.dv_records.specs.declared.keepers.Keeper.{Ghosts as OfKeeper}
use Rattle.dv_records.specs.declared.stores.Store.{Store}

-- a folder, a keeper, and the sinks for texts and for lines
abbrev pub world : {F K O E : Type 0} → OfFolder F → OfKeeper K → OfSink O → OfSink E → F × K × O × E → F × K × O × E → World Store
world f k o e old new = record {
  folder = record { old = f.files old.0; new = f.files new.0; before = f.faults old.0; now = f.faults new.0 };
  keeper = record { old = k.store old.1; new = k.store new.1; before = k.faults old.1; now = k.faults new.1 };
  out = record { old = o.contents old.2; new = o.contents new.2; before = o.faults old.2; now = o.faults new.2 };
  err = record { old = e.contents old.3; new = e.contents new.3; before = e.faults old.3; now = e.faults new.3 };
}

-- what a command sees that has no keeper
pub record Sight : Type 0 where
  pub folder : Seen (List NamedFile)
  pub out : Seen (List ℕ)
  pub err : Seen (List ℕ)

-- a folder, and the sinks for texts and for lines
abbrev pub sight : {F O E : Type 0} → OfFolder F → OfSink O → OfSink E → F × O × E → F × O × E → Sight
sight f o e old new = record {
  folder = record { old = f.files old.0; new = f.files new.0; before = f.faults old.0; now = f.faults new.0 };
  out = record { old = o.contents old.1; new = o.contents new.1; before = o.faults old.1; now = o.faults new.1 };
  err = record { old = e.contents old.2; new = e.contents new.2; before = e.faults old.2; now = e.faults new.2 };
}

-- what is seen of a world without its keeper
abbrev pub sight_of : {S : Type 0} → World S → Sight
sight_of w = record { folder = w.folder; out = w.out; err = w.err }
