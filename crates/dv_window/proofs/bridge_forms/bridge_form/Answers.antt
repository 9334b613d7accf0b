use Rattle.dv_window.proofs.Vocabulary.{ap, arith, length, valid_path}
use Rattle.dv_window.proofs.bridge_forms.bridge_form.Goals as goal

pub hub_count-requires : goal.hub_count-requires
hub_count-requires c = let few = (valid_path c.args.catalog.now c.note_valid.ensures c.args.path c.path.result.now c.path.ensures).few_feeds in omega (arith, few, ap length c.items-feeds.ensures)
