use Rattle.dv_restore.proofs.Vocabulary.{are_up_to, entry_of, map, subst, sym, true, ◌≡◌}
use Rattle.dv_restore.proofs.PartedTables.{first_up_to, none_parted, parted_more}
use Rattle.dv_restore.proofs.parts.all_parts.Goals as goal

pub loop-table-init : goal.loop-table-init
loop-table-init c = record {
  parted = rw (c.new-sealed.ensures.items, c.new-opened.ensures) (none_parted c.args.load);
  left = subst (λ l. are_up_to c.args.load (map entry_of l) ≡ true) (sym c.into_iter-table-iterator.ensures.into_iter_gives.0) c.requires;
}

pub table_parts-requires : goal.table_parts-requires
table_parts-requires c = (first_up_to c.args.load c.loop-table.table-iterator.rest.items c.next.new.self.rest.items c.in-Some.table (c.in-Some.ensures {u = tt}).steps.0 c.loop-table.invariant.left).0

pub loop-table-preserved : goal.loop-table-preserved
loop-table-preserved c = record {
  parted = parted_more c.args.load c.loop-table.yielded c.loop-table.sealed.items c.push.new.self.items c.in-Some.table c.in_ok-table.table c.loop-table.opened c.push-in-loop-table.new.self c.in_ok-table.rows
      (c.in_ok-push.ensures {u = tt}).items (c.in_ok-push-2.ensures {u = tt}).ok c.loop-table.invariant.parted (c.in_ok-table.ensures {u = tt});
  left = (first_up_to c.args.load c.loop-table.table-iterator.rest.items c.next.new.self.rest.items c.in-Some.table (c.in-Some.ensures {u = tt}).steps.0 c.loop-table.invariant.left).1;
}
