-- The lines that commands write to standard error, and the name of the mapping's file.
use Rattle.std.specs.Prelude.{ℕ, List, ◌++◌, codes}
use Rattle.std.specs.Fmt.{decimal}
use Rattle.dv_outside.specs.Ends.{line_of}
use Rattle.dv_records.specs.declared.answers.Damage.{Damage}

-- the name of the mapping's file
abbrev pub mapping_file : List ℕ
mapping_file = codes "mapping.toml"

-- the program's name, and behind it what a query breaks
abbrev pub program_front : List ℕ
program_front = codes "vaultdesk: "

-- the line where the words are no command
abbrev pub usage_line : List ℕ
usage_line = codes "vaultdesk: usage\n"

-- the line where memory ran out
abbrev pub memory_line : List ℕ
memory_line = codes "vaultdesk: out of memory\n"

-- what stands before the name of a file that is absent
abbrev pub absent_front : List ℕ
absent_front = codes "vaultdesk: absent "

-- what stands before the name of a file that could not be read
abbrev pub read_fault_front : List ℕ
read_fault_front = codes "vaultdesk: read fault "

-- what stands before the fault of a mapping
abbrev pub mapping_front : List ℕ
mapping_front = codes "vaultdesk: mapping "

-- the line where no mapping is stored
abbrev pub none_line : List ℕ
none_line = codes "vaultdesk: mapping none\n"

-- the line where another mapping is stored than the file's
abbrev pub differs_line : List ℕ
differs_line = codes "vaultdesk: mapping differs\n"

-- the line where the keeper failed
abbrev pub keeper_line : List ℕ
keeper_line = codes "vaultdesk: keeper fault\n"

-- what stands before the place of a damage
abbrev pub damaged_front : List ℕ
damaged_front = codes "vaultdesk: damaged "

-- a damage: the table, the row and the rule of form
abbrev pub damage_text : Damage → List ℕ
damage_text damage = damage.table ++ codes " " ++ decimal damage.row ++ codes " F" ++ decimal damage.rule

-- the line where the store is damaged
abbrev pub damaged_line : Damage → List ℕ
damaged_line damage = line_of damaged_front (damage_text damage)
