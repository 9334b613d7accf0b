use Rattle.dv_vault.proofs.Vocabulary.{arith}
use Rattle.dv_vault.proofs.ResultFacts.{parents_first}
use Rattle.dv_vault.proofs.jobs.parent_count.Goals as goal

pub returns-clause-first : goal.returns-clause-first
returns-clause-first c =
    let first = parents_first c.args.catalog.now in
    let hubs = c.hub_count.ensures.value in
    let links = c.link_count.ensures.value in
    omega (arith, first, hubs, links)
