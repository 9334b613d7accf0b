-- The connections of doors in memory, and which of their calls fail.
use Rattle.std.specs.Prelude.{ℕ, List, Bool, Option}
use Rattle.dv_outside.specs.Calls.{fails_next}
use Rattle.dv_outside.specs.Lines.{Lines}
use Rattle.dv_outside.specs.declared.memory_links.MemoryLink.{MemoryLink}
use Rattle.dv_outside.specs.declared.memory_doors.MemoryDoors.{MemoryDoors}

-- the connections that are to come
abbrev pub doors_coming : MemoryDoors → List MemoryLink
doors_coming doors = doors.coming.items

-- how many were given
abbrev pub doors_given : MemoryDoors → ℕ
doors_given doors = doors.given

-- those that were given back
abbrev pub doors_served : MemoryDoors → List MemoryLink
doors_served doors = doors.served.items

abbrev pub doors_lines : MemoryDoors → Lines MemoryLink
doors_lines doors = record { coming = doors_coming doors; given = doors_given doors; served = doors_served doors }

-- the port that was named last
abbrev pub doors_port : MemoryDoors → Option ℕ
doors_port doors = doors.port

-- how many calls of `next` there were
abbrev pub doors_calls : MemoryDoors → ℕ
doors_calls doors = doors.calls.number

-- the numbers, from 1, of those that are to fail
abbrev pub doors_fails : MemoryDoors → List ℕ
doors_fails doors = doors.calls.fails

-- how many failed
abbrev pub doors_faults : MemoryDoors → ℕ
doors_faults doors = doors.calls.faults

-- whether the next one is to fail
abbrev pub doors_fails_next : MemoryDoors → Bool
doors_fails_next doors = fails_next doors.calls
