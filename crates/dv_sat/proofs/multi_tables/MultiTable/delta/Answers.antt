use Rattle.dv_sat.proofs.Vocabulary.{MultiRow, ascending-sorted_by, batch_of, delta_follows, delta_stamped, filter_map, hashes_of, multi_change, multi_cmp, multi_total, source, ◌∙◌}
use Rattle.dv_sat.proofs.{MultiDeltaBatch.delta_is_batch, MultiFollowing.made_stamped}
use Rattle.dv_sat.proofs.multi_tables.MultiTable.delta.Goals as goal

pub returns-clause-stamped : goal.returns-clause-stamped
returns-clause-stamped g c =
    let change = multi_change (hashes_of g.H.KeyDigest.function) (source c.args.catalog.now c.args.extract.now.staged.now.feed) c.args.self.now.rows c.args.load c.args.extract.now.staged.now.rows in
    rw c.in_ok-rows.ensures.value
    (delta_stamped (λ (row : MultiRow). row.load) multi_cmp c.args.load c.args.self.now.rows (batch_of multi_cmp change c.args.extract.now.staged.now.rows)
    (made_stamped (hashes_of g.H.KeyDigest.function) (source c.args.catalog.now c.args.extract.now.staged.now.feed) c.args.self.now.rows c.args.load c.args.extract.now.staged.now.rows c.args.extract.now.staged.now.rows))

pub returns-clause-follows : goal.returns-clause-follows
returns-clause-follows g c =
    let change = multi_change (hashes_of g.H.KeyDigest.function) (source c.args.catalog.now c.args.extract.now.staged.now.feed) c.args.self.now.rows c.args.load c.args.extract.now.staged.now.rows in
    rw c.in_ok-rows.ensures.value
    (delta_follows (λ (row : MultiRow). row.load) multi_cmp c.args.load c.args.self.now.rows (batch_of multi_cmp change c.args.extract.now.staged.now.rows)
    (made_stamped (hashes_of g.H.KeyDigest.function) (source c.args.catalog.now c.args.extract.now.staged.now.feed) c.args.self.now.rows c.args.load c.args.extract.now.staged.now.rows c.args.extract.now.staged.now.rows)
    (ascending-sorted_by multi_cmp multi_total (filter_map change c.args.extract.now.staged.now.rows)) c.in_ok-rows.ensures.order c.requires.not_later)

pub returns-clause-batch : goal.returns-clause-batch
returns-clause-batch g c =
    let staged = c.args.extract.now.staged.now in
    λ older order apart told table.
    c.in_ok-rows.ensures.value
    ∙ rw table (delta_is_batch (hashes_of g.H.KeyDigest.function) (source c.args.catalog.now staged.feed) older (record { load = c.args.load; rows = staged.rows }) order apart told (rw table at c.in_ok-rows.ensures.order))
