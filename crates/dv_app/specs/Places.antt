-- What a command on what is kept sees of the outside: the folder that it reads, and the keeper.
use Rattle.std.specs.Prelude.{List}
use Rattle.dv_outside.specs.Seen.{Seen}
use Rattle.dv_outside.specs.Worlds.{World}
use Rattle.dv_outside.specs.declared.folders.NamedFile.{NamedFile}
use Rattle.dv_records.specs.declared.stores.Store.{Store}

-- what both tell before a command and after it, and how often they had failed then
pub record Places : Type 0 where
  pub folder : Seen (List NamedFile)
  pub keeper : Seen Store

-- those of a world
abbrev pub places_of : World Store → Places
places_of w = record { folder = w.folder; keeper = w.keeper }
