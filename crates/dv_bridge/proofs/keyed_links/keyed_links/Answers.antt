use Rattle.dv_bridge.proofs.Vocabulary.{ap, filter_map, filter_map_more, keyed_at, option_to_list, sym, take, ◌++◌, ◌∙◌}
use Rattle.dv_bridge.proofs.keyed_links.keyed_links.Goals as goal

pub loop-link-preserved : goal.loop-link-preserved
loop-link-preserved c =
    let place = c.args.place in
    let links = c.args.links.now in
    let i = c.loop-link.link-index in
    rw (c.in_ok-put_keyed.ensures, c.loop-link.invariant)
    (ap (λ link. filter_map (keyed_at place) (take i links) ++ option_to_list (keyed_at place link)) c.link-item.is ∙ sym (filter_map_more (keyed_at place) links i c.link-item.result c.loop-link-test.true))
