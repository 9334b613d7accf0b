use Rattle.dv_desk.proofs.Vocabulary.{arith, ends_with, enough, goes_on_with, held, never_begun, refl, sym, ◌∙◌}
use Rattle.dv_desk.proofs.desks.Desk.serve_connection.Goals as goal

pub returns-in_default-clause-serves : goal.returns-in_default-clause-serves
returns-in_default-clause-serves g c = never_begun _ _ _ _ _ _

pub returns-in-Some-clause-serves : goal.returns-in-Some-clause-serves
returns-in-Some-clause-serves g c =
    ends_with _ _ _ _ _ _ (held c.serve_one-came.new.buffer) _ _ _ _ _ c.loop-requests.requests c.loop-requests.invariant.going
    c.loop-requests-test.true c.serve_one-came.result c.serve_one-came.ensures.comes c.in-Some.served (sym c.end_with.ensures ∙ c.in-Some.is)

pub loop-requests-preserved : goal.loop-requests-preserved
loop-requests-preserved g c = record {
  going = goes_on_with _ _ _ _ _ _ _ _ _ _ _ _ _ c.loop-requests.invariant.going c.serve_one-came.result c.serve_one-came.ensures.comes (sym c.end_with.ensures ∙ c.in_default-end_with.is);
  agrees = c.serve_one-came.ensures.agrees;
  place = c.serve_one-came.ensures.place ∙ c.loop-requests.invariant.place;
  later = omega (arith, c.serve_one-came.ensures.later, c.loop-requests.invariant.later);
}

pub returns-clause-serves : goal.returns-clause-serves
returns-clause-serves g c = enough _ _ _ _ _ _ (g.L.Link.left c.loop-requests.link) _ _ c.loop-requests.requests (held c.loop-requests.buffer, refl) c.loop-requests.invariant.going (omega (arith, c.loop-requests-test.false, c.loop-requests.auto.requests-end))
