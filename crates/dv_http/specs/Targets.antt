-- The parts of a request's target: its path, and the first value of a name in its query (RFC 3986, section 3;
-- the query is read as the form that HTML's forms send).
use Rattle.std.specs.Prelude.{ℕ, List, [], ◌∷◌, Option, Some, None, if◌then◌else◌, ◌==◌, codes, bytes_eq}
use Rattle.std.specs.Str.Lossy.{utf8_lossy}
use Rattle.form_urlencoded.specs.Form.{decode, raw_pairs}

-- what stands before the first question mark
abbrev pub path_of : List ℕ → List ℕ
path_of [] = []
path_of (byte ∷ bytes) = if byte == 63 then [] else byte ∷ path_of bytes

-- what stands behind it
abbrev pub query_of : List ℕ → List ℕ
query_of [] = []
query_of (byte ∷ bytes) = if byte == 63 then bytes else query_of bytes

-- the first value of a name, where the pairs are still encoded
abbrev pub first_of : List ℕ → List (List ℕ × List ℕ) → Option (List ℕ)
first_of name [] = None
first_of name (pair ∷ pairs) =
    if bytes_eq (utf8_lossy (decode pair.0)) name then Some (utf8_lossy (decode pair.1)) else first_of name pairs

-- the value of `at` in a target
abbrev pub at_of : List ℕ → Option (List ℕ)
at_of target = first_of (codes "at") (raw_pairs (query_of target))
