-- Hash keys and hash differences have the width of the digest function.
use Rattle.dv_store_rules.proofs.Vocabulary.{Bool, DigestFunction, Hashes, Key, List, cond, false, hashes_of, is_missing, joined, length, length-replicate, list_all, refl, refs_text, true, zero_key, ℕ, ◌≡◌}

-- each has it, and what is missing has the zero key
pub record AreOfWidth (hashes : Hashes) (width : ℕ) : Type 0 where
  pub hash : (refs : List Key) → length (hashes.hash refs) ≡ width
  pub diff : (attrs : List (List ℕ)) → length (hashes.diff attrs) ≡ width
  pub missing : (refs : List Key) → list_all is_missing refs ≡ true → hashes.hash refs ≡ zero_key width

module _ (function : DigestFunction) where
  either : (b : Bool) (text : List ℕ) → length (cond b (zero_key function.width) (function.digest text)) ≡ function.width
  either true text = length-replicate function.width 0
  either false text = function.sized text

  -- the hashes of a digest function have its width, and what is missing has the zero key
  pub of_width : AreOfWidth (hashes_of function) function.width
  of_width = record {
    hash = λ refs. either (list_all is_missing refs) (refs_text refs);
    diff = λ attrs. function.sized (joined attrs);
    missing = λ refs e. rw e refl;
  }
