-- Business keys, reference lists, their texts, hash keys and hash differences (Linstedt and Olschimke 2015, chapter 11).
use Rattle.std.specs.Prelude.{◌≡◌, ℕ, ◌==◌, Bool, ◌&&◌, List, map, length, replicate, if◌then◌else◌, nat_eq}
use Rattle.std.specs.List.{list_all, join_with_byte}
use Rattle.std.specs.Cmp.Lexicographic.{pointwise}
use Rattle.dv_text.specs.declared.rows.Key.{Key}
use Rattle.dv_text.specs.declared.rows.NRow.{NRow}

-- whether two lists of texts are equal
abbrev pub texts_eq : List (List ℕ) → List (List ℕ) → Bool
texts_eq = pointwise (pointwise nat_eq)

-- whether two keys are equal
abbrev pub key_eq : Key → Key → Bool
key_eq a b = texts_eq a.parts b.parts

-- whether two reference lists are equal
abbrev pub refs_eq : List Key → List Key → Bool
refs_eq = pointwise key_eq

-- whether two rows are equal
abbrev pub row_eq : NRow → NRow → Bool
row_eq a b = refs_eq a.refs b.refs && texts_eq a.sub b.sub && texts_eq a.attrs b.attrs

-- a key is missing where every part is empty
abbrev pub is_missing : Key → Bool
is_missing key = list_all (λ part. length part == 0) key.parts

-- texts with a semicolon between each and the next
abbrev pub joined : List (List ℕ) → List ℕ
joined texts = join_with_byte 59 texts

-- a key's text: its parts, joined
abbrev pub key_text : Key → List ℕ
key_text key = joined key.parts

-- a reference list's text: the texts of its keys, joined
abbrev pub refs_text : List Key → List ℕ
refs_text refs = joined (map key_text refs)

-- how keys and attributes are hashed: the hash key of a reference list, and the hash difference of attributes
pub record Hashes : Type 0 where
  pub hash : List Key → List ℕ
  pub diff : List (List ℕ) → List ℕ

-- the hashes by a digest function of a width: the zero key where every key is missing, else the digest of the text
abbrev pub hashes_by : (List ℕ → List ℕ) → ℕ → Hashes
hashes_by digest width = record {
  hash = λ refs. if list_all is_missing refs then replicate width 0 else digest (refs_text refs);
  diff = λ attrs. digest (joined attrs);
}

-- a digest function: the digest of each text, and the width that each digest has
pub record DigestFunction : Type 0 where
  pub digest : List ℕ → List ℕ
  pub width : ℕ
  pub sized : (text : List ℕ) → length (digest text) ≡ width

abbrev pub hashes_of : DigestFunction → Hashes
hashes_of function = hashes_by function.digest function.width
