use Rattle.dv_desk.proofs.Vocabulary.{Heads, MartAt, TableOf}
use Rattle.dv_desk.proofs.Read.{looked_read}
use Rattle.dv_desk.proofs.desks.Desk.read.Goals as goal

pub returns-in-Heads-clause-read : goal.returns-in-Heads-clause-read
returns-in-Heads-clause-read g c = rw (c.in-Heads.is, c.or_memory.ensures) (looked_read Heads _ c.requires.fresh c.requires.agrees c.heads.result c.heads.ensures)

pub returns-in-MartAt-clause-read : goal.returns-in-MartAt-clause-read
returns-in-MartAt-clause-read g c =
    rw (c.in-MartAt.is, c.or_memory-in-MartAt.ensures) (looked_read (MartAt c.in-MartAt.word.now c.in-MartAt.date.now) _ c.requires.fresh c.requires.agrees c.mart.result c.mart.ensures)

pub returns-in-TableOf-clause-read : goal.returns-in-TableOf-clause-read
returns-in-TableOf-clause-read g c =
    rw (c.in-TableOf.is, c.or_memory-in-TableOf.ensures) (looked_read (TableOf c.in-TableOf.name.now) _ c.requires.fresh c.requires.agrees c.table.result c.table.ensures)

pub returns-in-PitAt-clause-read : goal.returns-in-PitAt-clause-read
returns-in-PitAt-clause-read g c = rw c.in-PitAt.is c.pit.ensures.read
