-- The lines of the commands on the vault that is kept, where they did what was asked.
use Rattle.std.specs.Prelude.{ℕ, List, codes}
use Rattle.std.specs.Fmt.{decimal}
use Rattle.dv_outside.specs.Ends.{line_of}

-- the line of a mapping that is stored
abbrev pub stored_line : List ℕ
stored_line = codes "init: Stored\n"

-- the line of a mapping that was stored before
abbrev pub kept_line : List ℕ
kept_line = codes "init: Kept\n"

-- the line of an open window that is completed, with the number of its rows
abbrev pub resumed_line : ℕ → List ℕ
resumed_line rows = line_of (codes "resume: Loaded ") (decimal rows)

-- the line of a snapshot that is stored, with the number of its rows
abbrev pub snapshot_line : ℕ → List ℕ
snapshot_line rows = line_of (codes "snapshot: Stored ") (decimal rows)

-- the line of a snapshot that was stored before
abbrev pub repeated_line : List ℕ
repeated_line = codes "snapshot: Repeated\n"
