use Rattle.dv_stage.proofs.Vocabulary.{arith, length, name_of, sym, vec_len, ◌∙◌, ◌≡◌}
use Rattle.dv_stage.proofs.RivalFacts.{firsts_more-new, firsts_more-old, rival-bare, rival-new}
use Rattle.dv_stage.proofs.taken_rows.TakenRows.note.Goals as goal

pub rival_at-requires-clause-first : goal.rival_at-requires-clause-first
rival_at-requires-clause-first c =
    sym (c.requires.taken.named c.if-self.false (name_of c.args.row.now)) ∙ rw c.in_ok-name.ensures at (sym c.get.ensures.value) ∙ sym c.copied.ensures ∙ c.in-Some.is

pub returns-in-Some-clause-firsts : goal.returns-in-Some-clause-firsts
returns-in-Some-clause-firsts c _ _ =
    let first = sym (c.requires.taken.named c.if-self.false (name_of c.args.row.now)) ∙ rw c.in_ok-name.ensures at (sym c.get.ensures.value) ∙ sym c.copied.ensures ∙ c.in-Some.is in
    firsts_more-old c.args.self.now.firsts c.args.self.now.rows.items c.args.row.now c.in-Some.first (c.requires.taken.named c.if-self.false) first

pub returns-in_ok-insert-in-None-clause-rival : goal.returns-in_ok-insert-in-None-clause-rival
returns-in_ok-insert-in-None-clause-rival c =
    let none = sym (c.requires.taken.named c.if-self.false (name_of c.args.row.now)) ∙ rw c.in_ok-name.ensures at (sym c.get.ensures.value) ∙ sym c.copied.ensures ∙ c.in-None.is in
    sym (rival-new c.args.self.now.rows.items c.args.row.now none)

pub returns-in_ok-insert-in-None-clause-firsts : goal.returns-in_ok-insert-in-None-clause-firsts
returns-in_ok-insert-in-None-clause-firsts c _ _ =
    let none = sym (c.requires.taken.named c.if-self.false (name_of c.args.row.now)) ∙ rw c.in_ok-name.ensures at (sym c.get.ensures.value) ∙ sym c.copied.ensures ∙ c.in-None.is in
    let rows = c.args.self.now.rows in
    let len : vec_len rows ≡ length rows.items = omega (arith, rows.ok.0) in
    let updates = rw (c.in_ok-name.ensures, c.len.ensures, len) at c.in_ok-insert-in-None.ensures.updates in
    firsts_more-new c.args.self.now.firsts c.insert.new.self c.args.self.now.rows.items c.args.row.now (c.requires.taken.named c.if-self.false) none updates

pub returns-then-self-clause-rival : goal.returns-then-self-clause-rival
returns-then-self-clause-rival c =
    sym (rival-bare c.args.self.now.rows.items c.args.row.now (c.requires.taken.bare c.if-self.true) (c.requires.bare c.if-self.true))
