use Rattle.dv_store_rules.proofs.Vocabulary.{AreFirst, IsGrown, Last, More, TellsPage, ap, arith, is_of_kind, page, row_count, rows_in, subst, sym, true, ◌<◌, ◌∙◌, ◌≡◌}
use Rattle.dv_store_rules.proofs.{PageSteps.empty_page, PageSteps.first_then, PageSteps.foreign_page, PageSteps.heavy, PageSteps.heavy_page, PageSteps.light_page, PageSteps.short_page, PageSteps.well_kinds, RowPages.kind_in}
use Rattle.dv_store_rules.proofs.pages.take_page.Goals as goal

pub returns-then-taken-eq0-clause-told : goal.returns-then-taken-eq0-clause-told
returns-then-taken-eq0-clause-told g c = λ s e.
    let table = c.args.table in
    let stored = rows_in table s.tables in
    let is = c.in_ok-page.ensures.told s e ∙ ap (λ n. page n 1000 stored) c.count.ensures.value in
    let kinds = kind_in table s.tables (well_kinds s (g.met.K.Keeper.well_formed c.args.keeper.now s e)) in
    empty_page table stored c.args.rows.now c.in_ok-page.page c.args.weight 1000 (c.requires.told s e) is kinds (omega arith) (sym c.count-taken.ensures.value ∙ c.if-taken-eq0.true)

pub returns-then-not-is_of_kind-clause-told : goal.returns-then-not-is_of_kind-clause-told
returns-then-not-is_of_kind-clause-told g c = λ s e.
    let table = c.args.table in
    let stored = rows_in table s.tables in
    let is = c.in_ok-page.ensures.told s e ∙ ap (λ n. page n 1000 stored) c.count.ensures.value in
    foreign_page table stored c.args.rows.now c.in_ok-page.page c.args.weight 1000 (c.requires.told s e) is (omega (arith, c.count-taken.ensures.value, c.if-taken-eq0.false)) (sym c.is_of_kind.ensures ∙ c.if-not-is_of_kind.true)

pub returns-in-Some-clause-grown : goal.returns-in-Some-clause-grown
returns-in-Some-clause-grown g c =
    let more = c.in_ok-page.page in
    let own : is_of_kind c.args.table more ≡ true = sym c.is_of_kind.ensures ∙ c.if-not-is_of_kind.false in
    let some : 0 < row_count more = omega (arith, c.count-taken.ensures.value, c.if-taken-eq0.false) in
    subst (λ rows. IsGrown c.args.weight c.args.rows.now rows (More c.in-Some.weight)) (sym c.in_ok-put_behind.ensures.ok)
    (light_page c.args.table c.args.rows.now more c.args.weight c.in-Some.weight c.requires.kind own some (sym c.added-sum.ensures ∙ c.in-Some.is))

pub returns-in-Some-clause-told : goal.returns-in-Some-clause-told
returns-in-Some-clause-told g c = λ s e.
    let table = c.args.table in
    let stored = rows_in table s.tables in
    let is = c.in_ok-page.ensures.told s e ∙ ap (λ n. page n 1000 stored) c.count.ensures.value in
    let own = sym c.is_of_kind.ensures ∙ c.if-not-is_of_kind.false in
    subst (λ rows. AreFirst table stored rows) (sym c.in_ok-put_behind.ensures.ok)
    (first_then table stored c.args.rows.now c.in_ok-page.page c.args.weight 1000 (c.requires.told s e) is own)

pub returns-in_default-clause-told : goal.returns-in_default-clause-told
returns-in_default-clause-told g c = λ s e.
    let table = c.args.table in
    let stored = rows_in table s.tables in
    let is = c.in_ok-page.ensures.told s e ∙ ap (λ n. page n 1000 stored) c.count.ensures.value in
    let own = sym c.is_of_kind.ensures ∙ c.if-not-is_of_kind.false in
    subst (λ rows. TellsPage table c.args.weight stored c.args.rows.now rows Last) (sym c.in_ok-put_behind.ensures.ok)
    (short_page table stored c.args.rows.now c.in_ok-page.page c.args.weight 1000 (c.requires.told s e) is own (omega (arith, c.count-taken.ensures.value, c.if-taken-from.false, c.from.ensures)))

pub returns-in_default-2-clause-told : goal.returns-in_default-2-clause-told
returns-in_default-2-clause-told g c = λ s e.
    let table = c.args.table in
    let stored = rows_in table s.tables in
    let is = c.in_ok-page.ensures.told s e ∙ ap (λ n. page n 1000 stored) c.count.ensures.value in
    let own = sym c.is_of_kind.ensures ∙ c.if-not-is_of_kind.false in
    let some : 0 < row_count c.in_ok-page.page = omega (arith, c.count-taken.ensures.value, c.if-taken-eq0.false) in
    subst (λ rows. TellsPage table c.args.weight stored c.args.rows.now rows Last) (sym c.in_ok-put_behind.ensures.ok)
    (heavy_page table stored c.args.rows.now c.in_ok-page.page c.args.weight 1000 (c.requires.told s e) is c.requires.kind own some (heavy _ (sym c.added-sum.ensures ∙ c.in_default.is)))
