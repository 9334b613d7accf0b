use Rattle.dv_stage.proofs.Vocabulary.{[], arith, fields_of, length-append, records_left, ◌∙◌, ◌∷◌}
use Rattle.dv_stage.proofs.WholeFacts.{left_more, rows_more, rule_more}
use Rattle.dv_stage.proofs.whole.whole_rows.Goals as goal

pub loop-row_no-preserved : goal.loop-row_no-preserved
loop-row_no-preserved c =
    let feed = c.args.header.now.feed.now in
    let names = c.args.header.now.names in
    let earlier = c.loop-row_no.rows.items in
    let grown = c.push.new.self.items in
    let all = records_left c.args.reader.now in
    let left = records_left c.loop-row_no.reader in
    let rest = records_left c.next_row.new.reader in
    let fields = fields_of c.next_row.new.row in
    let is_left = left_more c.in_ok-next_row.field-0 left rest fields c.in_ok-next_row.ensures.value c.if-not-branch.false in
    let is_row = rw c.in-Some.is at c.in_ok-made.ensures.row in
    let own = rw c.in-Some.is at c.in_ok-made.ensures.ok in
    record {
      reader = c.in_ok-next_row.ensures.keeps search;
      number = rw c.in_ok-push.ensures.items (omega (arith, length-append earlier (c.in-Some.made ∷ []), c.loop-row_no.invariant.number));
      rule = λ small apart.
          c.loop-row_no.invariant.rule (omega (arith, small)) apart
          ∙ rule_more feed names earlier grown all left rest fields c.in-Some.made is_left c.loop-row_no.invariant.rows is_row c.in_ok-push.ensures.items c.args.room c.loop-row_no.row_no own (omega (arith, small)) apart;
      rows = rows_more feed names earlier grown all left rest fields c.in-Some.made is_left c.loop-row_no.invariant.rows is_row c.in_ok-push.ensures.items;
    }
