-- Hash keys by a digest function of one width have zero keys.
use Rattle.dv_bridge.proofs.Vocabulary.{Bool, DigestFunction, HasZeroKeys, Key, List, false, hashes_of, if◌then◌else◌, is_missing, length, length-replicate, list_all, refl, refs_text, replicate, true, ◌≡◌}

module _ (function : DigestFunction) where
  of_width : (missing : Bool) (refs : List Key) → length (if missing then replicate function.width 0 else function.digest (refs_text refs)) ≡ function.width
  of_width true refs = length-replicate function.width 0
  of_width false refs = function.sized (refs_text refs)

  pub zero_keys : HasZeroKeys (hashes_of function)
  zero_keys = record {
    width = function.width;
    sized = λ refs. of_width (list_all is_missing refs) refs;
    zero = λ key missing. rw missing refl;
  }
