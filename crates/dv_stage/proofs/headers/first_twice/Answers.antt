use Rattle.dv_stage.proofs.Vocabulary.{Some, [], ap, length, not-false, not-true, refl, slice_get_read, sym, ◌++◌, ◌∙◌, ◌∷◌}
use Rattle.dv_stage.proofs.SeenFacts.{again_here, again_more, seen_more}
use Rattle.dv_stage.proofs.headers.first_twice.Goals as goal

pub loop-name-preserved : goal.loop-name-preserved
loop-name-preserved c =
    let (seen, had, rest) = c.loop-name.invariant in
    let names = c.args.names.now in
    let name = c.name-item.result in
    let here = slice_get_read names (length names) _ name refl c.loop-name-test.true c.name-item.is in
    let updates = rw c.in_ok-copy.ensures at c.in_ok-insert.ensures.updates in
    let added = rw c.in_ok-copy.ensures at c.in_ok-insert.ensures.added in
    let new = sym (had name) ∙ not-true _ (sym added ∙ c.if-not-branch.false) in
    (seen ++ name ∷ [], seen_more c.loop-name.earlier c.insert.new.self seen name had updates, sym (again_more seen names c.loop-name.name-index name here new) ∙ rest)

pub returns-then-not-branch : goal.returns-then-not-branch
returns-then-not-branch c =
    let (seen, had, rest) = c.loop-name.invariant in
    let names = c.args.names.now in
    let name = c.name-item.result in
    let here = slice_get_read names (length names) _ name refl c.loop-name-test.true c.name-item.is in
    let added = rw c.in_ok-copy.ensures at c.in_ok-insert.ensures.added in
    let old = sym (had name) ∙ not-false _ (sym added ∙ c.if-not-branch.true) in
    ap Some c.in_ok-copy-2.ensures ∙ sym (again_here seen names c.loop-name.name-index name here old) ∙ rest
