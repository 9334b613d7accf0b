-- How often a connection over TCP, and the listener, failed.
use Rattle.std.specs.Prelude.{ℕ, Option, None}
use Rattle.dv_outside.specs.Lines.{Lines}
use Rattle.dv_outside.specs.declared.real_links.RealLink.{RealLink}
use Rattle.dv_outside.specs.declared.real_doors.RealDoors.{RealDoors}

abbrev pub real_link_faults : RealLink → ℕ
real_link_faults link = link.faults

abbrev pub real_doors_faults : {R : Type 0} → RealDoors R → ℕ
real_doors_faults doors = doors.faults

-- the port that was named last
abbrev pub real_doors_port : {R : Type 0} → RealDoors R → Option ℕ
real_doors_port doors = doors.port

-- it tells nothing of the connections
abbrev pub real_doors_lines : {R : Type 0} → RealDoors R → Option (Lines RealLink)
real_doors_lines doors = None
