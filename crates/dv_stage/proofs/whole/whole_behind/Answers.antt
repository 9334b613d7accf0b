use Rattle.dv_stage.proofs.Vocabulary.{arith, fields_of, length, records_left, sym, ◌∙◌, ◌≡◌}
use Rattle.dv_stage.proofs.WholeFacts.{whole_read}
use Rattle.dv_stage.proofs.whole.whole_behind.Goals as goal

pub returns : goal.returns
returns c =
    let header = fields_of c.args.row.now in
    let rows = c.in-Some.rows.items in
    let is_rows = rw (c.in-Some.is, c.in_ok-names.ensures) at c.in_ok-rows.ensures.rows in
    let of_records = rw (c.in-Some.is, c.in_ok-names.ensures) at c.in_ok-rows.ensures.ok in
    let of_header = sym c.in_ok-header_rule.ensures ∙ c.is_kept.ensures search in
    let of_drivers = sym c.in_ok-two_drivers.ensures ∙ c.is_kept-2.ensures search in
    let once = rw c.items-3.ensures at (sym c.repeats_name.ensures ∙ c.if-repeats_name.false) in
    let count : c.len-count.result ≡ length rows = omega (arith, c.len-count.ensures, c.in-Some.rows.ok.0) in
    whole_read c.args.feed.now c.args.room c.len-count.result header (records_left c.args.reader.now) rows c.in_ok-rows-2.rows of_header is_rows of_records (rw c.as_slice.ensures.value at of_drivers)
    c.in_ok-rows-2.ensures.value c.in_ok-rows-2.ensures.ascending c.in_ok-rows-2.ensures.members once count
