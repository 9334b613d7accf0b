use Rattle.dv_store_rules.proofs.Vocabulary.{sym}
use Rattle.dv_store_rules.proofs.FeedForms.{few_attrs}
use Rattle.dv_store_rules.proofs.feeds.attr_count.Goals as goal

pub returns-in-Some-clause-few : goal.returns-in-Some-clause-few
returns-in-Some-clause-few c = rw c.items.ensures (few_attrs c.args.catalog.now c.args.feed c.in-Some.def.now c.note_valid.ensures (sym c.in-Some.ensures))
