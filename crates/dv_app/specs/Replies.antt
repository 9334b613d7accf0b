-- How a command on what is kept ends, whatever it was: what it says is written whole, or a front of it is, and each status has its cause.
use Rattle.std.specs.Prelude.{◌≡◌, ◌⊎◌, ℕ, List, []}
use Rattle.dv_text.specs.Causes.{Rose}
use Rattle.dv_catalog.specs.declared.map_error.MapError.{MapError}
use Rattle.dv_outside.specs.Bytes.{GotPrefix}
use Rattle.dv_outside.specs.Seen.{Seen}
use Rattle.dv_outside.specs.declared.statuses.Status.{Status}
use Rattle.dv_outside.specs.declared.statuses.Status.TheVariants as statuses
use Rattle.dv_records.specs.declared.answers.Damage.{Damage}
use Rattle.dv_given.specs.Causes.{HasLast, IsRefusedText, IsUnreadText}
use Rattle.dv_given.specs.Given.{refused_mapping_line}
use Rattle.dv_given.specs.Lines.{damaged_line, differs_line, keeper_line, memory_line, none_line}
use Rattle.dv_given.specs.Says.{Gives}
use Rattle.dv_given.specs.Tried.{Tried, ended}
use Rattle.dv_app.specs.declared.replies.Reply.{Reply}
use Rattle.dv_app.specs.declared.replies.Reply.TheVariants as reply
use Rattle.dv_app.specs.Kept.{memory_said}
use Rattle.dv_app.specs.Places.{Places}

-- what a reply says
abbrev pub said : Reply → Tried
said (reply.Text text) = record { out = text; err = []; status = statuses.Done }
said (reply.Line line status) = ended status line
said reply.Memory = memory_said

-- ---- how it is written

-- a front of the text and of the lines was written, and a sink failed
pub record IsCutOff (said : Tried) (out err : Seen (List ℕ)) (result : Status) : Type 0 where
  pub text : GotPrefix out.old out.new said.out
  pub lines : GotPrefix err.old err.new said.err
  pub status_is : result ≡ statuses.WriteFault
  pub rose : Rose out.before out.now ⊎ Rose err.before err.now

-- all of it was written, or a front
abbrev pub EndsAs : Tried → Seen (List ℕ) → Seen (List ℕ) → Status → Type 0
EndsAs said out err result = Gives said out err result ⊎ IsCutOff said out err result

-- ---- causes

-- the last line says that a mapping is refused, that none is stored, or that another one is
abbrev pub IsMappingText : List ℕ → Type 0
IsMappingText text = ((e : MapError) × HasLast (refused_mapping_line e) text) ⊎ (HasLast none_line text ⊎ HasLast differs_line text)

-- the last line names a damage
abbrev pub IsDamagedText : List ℕ → Type 0
IsDamagedText text = (damage : Damage) × HasLast (damaged_line damage) text

-- what the status tells of the lines, and of the counts of the folder and of the keeper
abbrev pub IsCauseOf : Places → List ℕ → Status → Type 0
IsCauseOf at text statuses.Done = Unit {0}
IsCauseOf at text statuses.Refused = IsRefusedText text
IsCauseOf at text statuses.Usage = ⊥
IsCauseOf at text statuses.Mapping = IsMappingText text
IsCauseOf at text statuses.ReadFault = IsUnreadText (Rose at.folder.before at.folder.now) text
IsCauseOf at text statuses.KeeperFault = HasLast keeper_line text × Rose at.keeper.before at.keeper.now
IsCauseOf at text statuses.WriteFault = ⊥
IsCauseOf at text statuses.Memory = HasLast memory_line text
IsCauseOf at text statuses.Damaged = IsDamagedText text

abbrev pub IsSaidFor : Places → Tried → Type 0
IsSaidFor at said = IsCauseOf at said.err said.status
