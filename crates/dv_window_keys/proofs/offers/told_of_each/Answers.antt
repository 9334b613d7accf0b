use Rattle.dv_window_keys.proofs.Vocabulary.{hashes_of, told_by}
use Rattle.dv_window_keys.proofs.SortedOffers.{only_key}
use Rattle.dv_window_keys.proofs.offers.told_of_each.Goals as goal

pub returns-then-refs-eq1 : goal.returns-then-refs-eq1
returns-then-refs-eq1 g c = only_key (hashes_of g.H.KeyDigest.function) (told_by c.args.told) c.args.refs.now c.requires c.if-refs-eq1.true
