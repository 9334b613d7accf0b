use Rattle.dv_desk.proofs.Vocabulary.{codes, member, no_members, object, rules, serde_json_on_literals, string, the_lemmas, view, ◌≡◌}
use Rattle.dv_desk.proofs.bodies.answer_body.Goals as goal

pub returns : goal.returns
unfolding serde_json_on_literals
returns c =
    let built : view c.in_ok-value.value ≡ object (member (codes "answer") (string c.args.name.now) no_members) =
    search (rules, the_lemmas) in
    search rules
