use Rattle.dv_sat.proofs.Vocabulary.{attrs_text_fits}
use Rattle.dv_sat.proofs.sat_changes.diff.Goals as goal

pub hash_diff-requires-after_bounds : goal.hash_diff-requires-after_bounds
hash_diff-requires-after_bounds g c κs within = attrs_text_fits c.args.attrs.now c.requires
