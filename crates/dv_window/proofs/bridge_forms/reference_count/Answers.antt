use Rattle.dv_window.proofs.Vocabulary.{ap, arith, length}
use Rattle.dv_window.proofs.HubCounts.{few_hubs}
use Rattle.dv_window.proofs.bridge_forms.reference_count.Goals as goal

pub returns-clause-few : goal.returns-clause-few
returns-clause-few c = let few = few_hubs c.args.catalog.now c.note_valid.ensures c.args.feed in omega (arith, few, ap length c.feed_hubs.ensures)
