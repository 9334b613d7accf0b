-- What a sink in memory holds, what it has room for, and which of its writes fail.
use Rattle.std.specs.Prelude.{ℕ, List, Bool, ◌-◌, length}
use Rattle.dv_outside.specs.Calls.{fails_next}
use Rattle.dv_outside.specs.declared.memory_sinks.MemorySink.{MemorySink}

-- the bytes written so far
abbrev pub sink_written : MemorySink → List ℕ
sink_written sink = sink.written.items

-- for how many bytes in all it has room
abbrev pub sink_room : MemorySink → ℕ
sink_room sink = sink.room

-- for how many more
abbrev pub sink_left : MemorySink → ℕ
sink_left sink = sink_room sink - length (sink_written sink)

-- how many writes there were
abbrev pub sink_writes : MemorySink → ℕ
sink_writes sink = sink.calls.number

-- the numbers, from 1, of the writes that are to fail
abbrev pub sink_fails : MemorySink → List ℕ
sink_fails sink = sink.calls.fails

-- how many writes failed
abbrev pub sink_faults : MemorySink → ℕ
sink_faults sink = sink.calls.faults

-- whether the next write is to fail
abbrev pub sink_fails_next : MemorySink → Bool
sink_fails_next sink = fails_next sink.calls
