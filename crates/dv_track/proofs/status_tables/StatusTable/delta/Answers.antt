use Rattle.dv_track.proofs.Vocabulary.{source, ◌∙◌}
use Rattle.dv_track.proofs.{DeltaBatch.delta_is_batch, Following.all_have, Following.follows, Following.keys_tell}
use Rattle.dv_track.proofs.status_tables.StatusTable.delta.Goals as goal

pub returns-clause-follows : goal.returns-clause-follows
returns-clause-follows c =
    rw c.in_ok-rows.ensures.value
    (follows (source c.args.catalog.now c.args.extract.now.staged.now.feed) c.args.self.now.rows c.args.load c.args.extract.now.keys c.in_ok-rows.ensures.order c.requires.not_later)

pub returns-clause-stamped : goal.returns-clause-stamped
returns-clause-stamped c =
    rw c.in_ok-rows.ensures.value (all_have (source c.args.catalog.now c.args.extract.now.staged.now.feed) c.args.self.now.rows c.args.load c.args.extract.now.keys)

pub returns-clause-delta : goal.returns-clause-delta
returns-clause-delta c =
    λ hashes are.
    c.in_ok-rows.ensures.value
    ∙ keys_tell hashes (source c.args.catalog.now c.args.extract.now.staged.now.feed) c.args.self.now.rows c.args.load c.args.extract.now.keys c.args.extract.now.staged.now.rows are

pub returns-clause-batch : goal.returns-clause-batch
returns-clause-batch c =
    let from = source c.args.catalog.now c.args.extract.now.staged.now.feed in
    let staged = c.args.extract.now.staged.now.rows in
    λ hashes are older order apart table.
    c.in_ok-rows.ensures.value
    ∙ keys_tell hashes from c.args.self.now.rows c.args.load c.args.extract.now.keys staged are
    ∙ rw table (delta_is_batch hashes from older (record { load = c.args.load; rows = staged }) order apart)
