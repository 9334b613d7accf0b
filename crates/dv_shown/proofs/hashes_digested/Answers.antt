use Rattle.dv_shown.proofs.Vocabulary.{block_words, compress, digest_bytes, hash_after, md5, refl, rounds}
use Rattle.dv_shown.proofs.hashes_digested.Goals as goal

pub returns : goal.returns
unfolding md5 digest_bytes hash_after compress rounds block_words
returns c = record { one = refl; two = refl; three = refl; long = refl; missing = refl; attribute = refl; blank = refl }
