use Rattle.dv_vault.proofs.Vocabulary.{Table, ap, arith, entry_of, get_or-map, length, length-map, map-set_same, row_count, spare_of, sym, whole_in, whole_part, ◌<◌, ◌∙◌, ◌≤◌}
use Rattle.dv_vault.proofs.BatchSteps.{pairs_more}
use Rattle.dv_vault.proofs.keeping.reserve_all.Goals as goal

pub returns-in_err-reserve-clause-rows : goal.returns-in_err-reserve-clause-rows
returns-in_err-reserve-clause-rows c =
    map-set_same entry_of c.loop-i.tables c.loop-i.i c.reserve.new.self c.index-tables-i.result c.reserve.ensures.rows
    ∙ c.loop-i.invariant.rows

pub loop-i-preserved : goal.loop-i-preserved
loop-i-preserved c =
    let part = c.index-parts-i.result in
    let under : c.loop-i.i < length c.loop-i.tables = omega arith in
    let too : c.loop-i.i < length (whole_in c.args.parts.now) = omega (arith, length-map c.args.parts.now whole_part) in
    let most : row_count (whole_part part) ≤ c.in_ok-more.more = c.in_ok-more.ensures {u = tt} in
    let spare : c.in_ok-more.more ≤ spare_of c.reserve.new.self = (c.in_ok-reserve.ensures {u = tt}).room in
    let room : row_count (whole_part part) ≤ spare_of c.reserve.new.self = omega (arith, most, spare) in
    record {
      rows = map-set_same entry_of c.loop-i.tables c.loop-i.i c.reserve.new.self c.index-tables-i.result c.reserve.ensures.rows
          ∙ c.loop-i.invariant.rows;
      room = pairs_more (λ (table : Table) rows. row_count rows ≤ spare_of table) c.loop-i.tables (whole_in c.args.parts.now) c.loop-i.i c.reserve.new.self (whole_part part) under too
          (get_or-map whole_part c.args.parts.now c.loop-i.i part ∙ ap whole_part (sym c.index-parts-i.is)) room c.loop-i.invariant.room;
    }
