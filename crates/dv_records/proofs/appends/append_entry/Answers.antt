use Rattle.dv_records.proofs.Vocabulary.{ap, arith, none_placed, placed_within, position, slice_set, sym, ◌∙◌}
use Rattle.dv_records.proofs.AppendedTables.{appended_to-none, grows, is_its}
use Rattle.dv_records.proofs.appends.append_entry.Goals as goal

pub index_mut-entry-requires : goal.index_mut-entry-requires
index_mut-entry-requires c =
    let at = ap (position (is_its c.args.table c.args.rows)) (sym c.deref.ensures.value) ∙ sym c.place_of.ensures ∙ c.in-Some.is in
    omega (arith, placed_within (is_its c.args.table c.args.rows) c.args.entries.now.items c.in-Some.at at)

pub returns-in_ok-push-in-None-clause-ok : goal.returns-in_ok-push-in-None-clause-ok
returns-in_ok-push-in-None-clause-ok c =
    let at = ap (position (is_its c.args.table c.args.rows)) (sym c.deref.ensures.value) ∙ sym c.place_of.ensures ∙ c.in-None.is in
    c.in_ok-push-in-None.ensures.items ∙ sym (appended_to-none c.args.table c.args.rows c.args.entries.now.items (none_placed (is_its c.args.table c.args.rows) c.args.entries.now.items at))

pub returns-in_ok-put_behind-in-Some-clause-ok : goal.returns-in_ok-put_behind-in-Some-clause-ok
returns-in_ok-put_behind-in-Some-clause-ok c =
    let at = ap (position (is_its c.args.table c.args.rows)) (sym c.deref.ensures.value) ∙ sym c.place_of.ensures ∙ c.in-Some.is in
    let grown = grows c.args.table c.args.rows c.args.entries.now.items c.in-Some.at at c.index_mut-entry.result.now c.index_mut-entry.ensures.value in
    ap (λ rows. slice_set c.args.entries.now.items c.in-Some.at (record { table = c.index_mut-entry.result.now.table; rows = rows })) c.in_ok-put_behind-in-Some.ensures.ok ∙ grown
