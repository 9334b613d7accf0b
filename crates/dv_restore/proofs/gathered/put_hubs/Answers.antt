use Rattle.dv_restore.proofs.Vocabulary.{[], arith, entry_of, length-append, map, ◌∷◌}
use Rattle.dv_restore.proofs.GatheredEntries.{hubs_more}
use Rattle.dv_restore.proofs.gathered.put_hubs.Goals as goal

pub loop-rows-preserved : goal.loop-rows-preserved
loop-rows-preserved c = record {
  tables = hubs_more (map entry_of c.args.tables.now.items) c.loop-rows.tables.items c.push.new.self.items c.loop-rows.yielded c.loop-rows.hub c.in-Some.rows c.loop-rows.invariant.tables c.loop-rows.invariant.place (c.in_ok-push.ensures {u = tt}).items;
  place = omega (arith, c.loop-rows.invariant.place, length-append c.loop-rows.yielded (c.in-Some.rows ∷ []), c.in_ok-hub.ensures);
}
