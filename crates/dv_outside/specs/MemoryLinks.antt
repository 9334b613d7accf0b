-- What a connection in memory has left and got, and which of its calls fail.
use Rattle.std.specs.Prelude.{ℕ, List, Bool, drop}
use Rattle.dv_outside.specs.MemorySinks.{sink_written, sink_room, sink_left, sink_writes, sink_fails, sink_faults, sink_fails_next}
use Rattle.dv_outside.specs.declared.memory_links.MemoryLink.{MemoryLink}

-- the bytes that are still to be read
abbrev pub link_left : MemoryLink → List ℕ
link_left link = drop link.at link.input

-- how many bytes a read gives at most
abbrev pub link_piece : MemoryLink → ℕ
link_piece link = link.piece

-- the bytes written so far
abbrev pub link_written : MemoryLink → List ℕ
link_written link = sink_written link.sink

-- for how many bytes in all it has room
abbrev pub link_room : MemoryLink → ℕ
link_room link = sink_room link.sink

-- for how many more
abbrev pub link_room_left : MemoryLink → ℕ
link_room_left link = sink_left link.sink

-- how many reads and writes there were
abbrev pub link_calls : MemoryLink → ℕ
link_calls link = sink_writes link.sink

-- the numbers, from 1, of the reads and writes that are to fail
abbrev pub link_fails : MemoryLink → List ℕ
link_fails link = sink_fails link.sink

-- how many of them failed
abbrev pub link_faults : MemoryLink → ℕ
link_faults link = sink_faults link.sink

-- whether the next one is to fail
abbrev pub link_fails_next : MemoryLink → Bool
link_fails_next link = sink_fails_next link.sink
