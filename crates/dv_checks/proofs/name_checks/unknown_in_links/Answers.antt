use Rattle.dv_checks.proofs.Finding.{joined_found, joined_passed}
use Rattle.dv_checks.proofs.name_checks.unknown_in_links.Goals as goal

pub returns-in-Some : goal.returns-in-Some
returns-in-Some c = joined_found _ (λ link. link.hubs) c.args.links.now c.loop-link.link-index _ _ _ c.loop-link-test.true c.link-item.is c.items.ensures c.in-Some.ensures c.loop-link.invariant

pub loop-link-preserved : goal.loop-link-preserved
loop-link-preserved c = joined_passed _ (λ link. link.hubs) c.args.links.now c.loop-link.link-index _ _ c.loop-link-test.true c.link-item.is c.items.ensures c.in_default.ensures c.loop-link.invariant
