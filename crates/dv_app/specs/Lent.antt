-- What is lent to a command.
use Rattle.std.specs.Prelude.{◌≡◌}
use Rattle.dv_outside.specs.Seen.{seen}
use Rattle.dv_outside.specs.declared.folders.Folder.{Ghosts as OfFolder}
use Rattle.dv_records.specs.declared.keepers.Keeper.{Ghosts as OfKeeper}
use Rattle.dv_app.specs.Places.{Places}
use Rattle.dv_app.specs.declared.works.Work.{Work}

-- what the folder and the keeper show that are lent
abbrev pub places : {R F K H G : Type 0} → OfFolder F → OfKeeper K → Work R F K H G → Work R F K H G → Places
places f k old new = record {
  folder = seen f.files f.faults old.folder.now new.folder.now;
  keeper = seen k.store k.faults old.keeper.now new.keeper.now;
}

-- they are the same folder and the same keeper
pub record Same {R F K H G : Type 0} (old new : Work R F K H G) : Type 0 where
  pub folder : new.folder.ghost_name ≡ old.folder.ghost_name
  pub keeper : new.keeper.ghost_name ≡ old.keeper.ghost_name
