use Rattle.dv_hub_link.proofs.Vocabulary.{each_hash, hashes_of, take, ◌≡◌}
use Rattle.dv_hub_link.proofs.link_rows.each_key_hash.Given as goal

abbrev pub invariant-loop-key : goal.invariant-loop-key
invariant-loop-key g l = l.made ≡ each_hash (hashes_of g.H.KeyDigest.function) (take l.key-index l.refs)
