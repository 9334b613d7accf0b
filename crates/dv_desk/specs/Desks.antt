-- What a desk is lent, and the moment at which it is.
use Rattle.std.specs.Borrow.{GName}
use Rattle.dv_records.specs.declared.keepers.Keeper.{Ghosts as OfKeeper}
use Rattle.dv_desk.specs.declared.desks.Desk.{Desk}
use Rattle.dv_desk.specs.Turns.{Moment, moment}

-- the moment of a desk
abbrev pub moment_of : {R K H G : Type 0} → OfKeeper K → Desk R K H G → Moment
moment_of keeper desk = moment keeper.store keeper.faults desk.office.now desk.keeper.now

-- where its office and its keeper are
abbrev pub places : {R K H G : Type 0} → Desk R K H G → GName × GName
places desk = (desk.office.ghost_name, desk.keeper.ghost_name)
