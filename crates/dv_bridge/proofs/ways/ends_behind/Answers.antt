use Rattle.dv_bridge.proofs.Vocabulary.{KeyedLink, KeyedRow, LinkRow, List, ap, end_of, key_of, keyed_met, links_met, map, map-map, most_path_rows, slice_get, sym, ◌++◌, ◌∙◌, ◌≡◌}
use Rattle.dv_bridge.proofs.WayEnds.{ends_few, ends_more}
use Rattle.dv_bridge.proofs.ways.ends_behind.Goals as goal

pub loop-number-preserved : goal.loop-number-preserved
loop-number-preserved c =
    let links = c.args.links.now in
    let number = c.loop-number.number in
    let end = c.index-ends-number.result in
    let met : c.met_links-met.result.now ≡ keyed_met (key_of c.args.place end.link.now) links =
    c.met_links-met.ensures
    ∙ ap (λ key. keyed_met key links) (c.key_at-key.ensures ∙ ap (λ hubs. slice_get hubs c.args.place) (c.items.ensures ∙ ap (λ (row : LinkRow). row.hubs) c.row.ensures)) in
    let told : map (λ (one : KeyedLink). (number, one.link.now)) c.met_links-met.result.now ≡ map (λ (link : KeyedRow). (number, link)) (links_met c.args.place links end) =
    sym (map-map (λ (link : KeyedRow). (number, link)) (λ (one : KeyedLink). one.link.now) c.met_links-met.result.now)
    ∙ ap (λ (met : List KeyedLink). map (λ (link : KeyedRow). (number, link)) (map (λ (one : KeyedLink). one.link.now) met)) met in
    record {
      all =
          ends_more (links_met c.args.place links) c.args.ends.now number end c.loop-number-test.true c.index-ends-number.is c.loop-number.made c.loop-number.invariant.all c.push_ends.new.ends
          (c.in_ok-push_ends.ensures ∙ ap (λ more. map end_of c.loop-number.made ++ more) told);
      few =
          ends_few c.loop-number.made c.push_ends.new.ends c.items-in-loop-number.result.now c.met_links-met.result.now (λ (one : KeyedLink). (number, one.link.now)) most_path_rows
          c.items-in-loop-number.ensures c.in_ok-push_ends.ensures c.in_ok-check_room.ensures.ok;
    }
