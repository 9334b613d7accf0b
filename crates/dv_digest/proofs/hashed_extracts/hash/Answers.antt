use Rattle.dv_digest.proofs.Lengths.{refs_text_fits}
use Rattle.dv_digest.proofs.hashed_extracts.hash.Goals as goal

pub hash_key-requires-after_bounds : goal.hash_key-requires-after_bounds
hash_key-requires-after_bounds g c κs within = refs_text_fits c.args.refs.now c.requires
