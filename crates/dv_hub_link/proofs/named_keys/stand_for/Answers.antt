use Rattle.dv_hub_link.proofs.Vocabulary.{key_under, length, length-zip, sym, zip, ◌∙◌}
use Rattle.dv_hub_link.proofs.Keys.{each_same, not_as_many, not_equal}
use Rattle.dv_hub_link.proofs.named_keys.stand_for.Goals as goal

pub returns-then-refs-min : goal.returns-then-refs-min
returns-then-refs-min g c =
    c.each_stands_for.ensures
    ∙ each_same (λ (hub, digest). key_under c.args.catalog.now (g.N.HubNames.names c.args.names.now) hub digest) (zip c.args.hubs.now c.args.digests.now) c.args.refs.now
    (c.if-refs-min.true ∙ c.min.ensures ∙ sym (length-zip c.args.hubs.now c.args.digests.now))

pub returns-else-refs-min : goal.returns-else-refs-min
returns-else-refs-min g c =
    not_equal (length c.args.refs.now) c.min.result c.if-refs-min.false
    ∙ not_as_many (λ (hub, digest). key_under c.args.catalog.now (g.N.HubNames.names c.args.names.now) hub digest) (zip c.args.hubs.now c.args.digests.now) c.args.refs.now
    (λ e. c.if-refs-min.false (e ∙ length-zip c.args.hubs.now c.args.digests.now ∙ sym c.min.ensures))
