use Rattle.dv_window.proofs.Vocabulary.{ap, arith, nat_le, nat_lt, page, row_count, stored_rows, ◌&&◌, ◌+◌, ◌<◌, ◌∙◌, ◌≤◌}
use Rattle.dv_window.proofs.StoredPages.{tells}
use Rattle.dv_window.proofs.pages.take_page.Goals as goal

pub returns-clause-told : goal.returns-clause-told
returns-clause-told g c = λ s e.
    let stored = stored_rows c.args.asked.now s.snapshots in
    let rows = c.args.rows.now in
    let next = c.put_page.new.rows in
    let is = c.in_ok-page.ensures.told s e ∙ ap (λ n. page n c.min-most.result stored) c.count-have.ensures.value in
    let fits : row_count rows + c.min-most.result ≤ c.args.asked.now.most = omega (arith, c.count-have.ensures.value, c.if-have-asked.false, c.min-most.ensures) in
    let some : 0 < c.min-most.result = omega (arith, c.if-have-asked.false, c.min-most.ensures) in
    let on =
    c.goes_on.ensures
    ∙ ap (λ n. nat_le c.min-most.result n && nat_lt c.count-have.result c.count.result) c.count-taken.ensures.value
    ∙ ap (λ n. nat_le c.min-most.result (row_count c.in_ok-page.page) && nat_lt n c.count.result) c.count-have.ensures.value
    ∙ ap (λ n. nat_le c.min-most.result (row_count c.in_ok-page.page) && nat_lt (row_count rows) n) c.count.ensures.value in
    tells c.args.asked.now.most stored rows c.in_ok-page.page c.min-most.result (c.requires s e) is fits next c.in_ok-put_page.ensures some c.goes_on.result on
