use Rattle.dv_hub_link.proofs.Vocabulary.{refs_text_fits}
use Rattle.dv_hub_link.proofs.hashed_lists.add_missing.Goals as goal

pub hash_key-digest-requires-after_bounds : goal.hash_key-digest-requires-after_bounds
hash_key-digest-requires-after_bounds g c κs within = refs_text_fits c.args.refs.now c.requires
