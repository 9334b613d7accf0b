-- Why `try` ends with a status, whatever the folder and the sinks tell of their contents.
use Rattle.std.specs.Prelude.{◌⊎◌, ℕ, List}
use Rattle.dv_text.specs.Causes.{Rose}
use Rattle.dv_catalog.specs.declared.map_error.MapError.{MapError}
use Rattle.dv_outside.specs.declared.statuses.Status.{Status}
use Rattle.dv_outside.specs.declared.statuses.Status.TheVariants as statuses
use Rattle.dv_given.specs.Causes.{HasLast, IsRefusedText, IsUnreadText, Wrote}
use Rattle.dv_given.specs.Given.{refused_mapping_line}
use Rattle.dv_given.specs.Lines.{memory_line}
use Rattle.dv_given.specs.Worlds.{Sight}

-- the last line says that the mapping is refused
abbrev pub IsMappingText : List ℕ → Type 0
IsMappingText text = (e : MapError) × HasLast (refused_mapping_line e) text

-- what a status of `try` tells
abbrev pub IsCaused : Sight → Status → Type 0
IsCaused s statuses.Done = Unit {0}
IsCaused s statuses.Refused = Wrote s.err.old s.err.new IsRefusedText
IsCaused s statuses.Usage = ⊥
IsCaused s statuses.Mapping = Wrote s.err.old s.err.new IsMappingText
IsCaused s statuses.ReadFault = Wrote s.err.old s.err.new (IsUnreadText (Rose s.folder.before s.folder.now))
IsCaused s statuses.KeeperFault = ⊥
IsCaused s statuses.WriteFault = Rose s.out.before s.out.now ⊎ Rose s.err.before s.err.now
IsCaused s statuses.Memory = Wrote s.err.old s.err.new (HasLast memory_line)
IsCaused s statuses.Damaged = ⊥
