use Rattle.dv_http.proofs.Vocabulary.{ap, arith, held, in_front, length, length-append, sym, ◌∙◌}
use Rattle.dv_http.proofs.Bodies.{came_same, front_twice}
use Rattle.dv_http.proofs.reading.read_body.Goals as goal

pub body-preserved : goal.body-preserved
body-preserved g c =
    let before = c.body.body.items in
    let after = c.give-in-body.new.body.items in
    let filled = held c.fill.new.self in
    let left = g.L.Link.left c.fill.new.link in
    let moved = c.in_ok-give-2.ensures.moved in
    let count = c.in_ok-give-2.ensures.count in
    record {
      same = sym (front_twice after (held c.give-in-body.new.self) left) ∙ ap (λ l. in_front l left) moved ∙ front_twice before filled left
          ∙ ap (in_front before) (came_same (held c.body.buffer) filled (g.L.Link.left c.body.link) left c.in_ok-fill.ensures.came)
          ∙ c.body.invariant.same;
      within = search (arith, count);
      empty = λ under. omega (arith, under, count, ap length moved, length-append after (held c.give-in-body.new.self), length-append before filled);
      kept = c.fill.ensures.kept ∙ c.body.invariant.kept;
      spent = c.give-in-body.ensures.spent ∙ c.fill.ensures.spent ∙ c.body.invariant.spent;
      later = omega (arith, c.fill.ensures.cause.later, c.body.invariant.later);
    }
