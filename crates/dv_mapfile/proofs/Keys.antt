-- A walk over the keys of a table that looks for the first that is not known.
use Rattle.dv_mapfile.proofs.Vocabulary.{Bool, Bor, Entry, Global, List, Option, Some, String, [], ap, bytes_eq, false, find, keys_of, list_any, map, members_view, not, refl, string_bytes, true, unknown_key, ℕ, ◌∷◌, ◌≡◌}

-- whether a key is known, as the code asks
abbrev pub is_known : List (Bor (List ℕ)) → List ℕ → Bool
is_known known key = list_any (λ name. bytes_eq name.now key) known

-- the first of the keys that is not known
abbrev pub first_unknown : List (Bor (List ℕ)) → List (String Global) → Option (List ℕ)
first_unknown known keys = find (λ key. not (list_any (λ name. bytes_eq name key) (map (λ name. name.now) known))) (map string_bytes keys)

same_known : (known : List (Bor (List ℕ))) (key : List ℕ) → list_any (λ name. bytes_eq name key) (map (λ name. name.now) known) ≡ is_known known key
same_known [] key = refl
same_known (name ∷ known) key = rw (same_known known key) refl

keys_of-entries : (entries : List Entry) → keys_of (members_view entries) ≡ map string_bytes (map (λ e. e.0) entries)
keys_of-entries [] = refl
keys_of-entries (e ∷ entries) = ap (λ keys. string_bytes e.0 ∷ keys) (keys_of-entries entries)

pub unknown_key-start : (known : List (Bor (List ℕ))) (entries : List Entry) (keys : List (String Global)) → keys ≡ map (λ e. e.0) entries
    → unknown_key (map (λ name. name.now) known) (members_view entries) ≡ first_unknown known keys
unknown_key-start known entries keys e = rw (keys_of-entries entries, e) refl

pub first_unknown-known : (known : List (Bor (List ℕ))) (keys : List (String Global)) (key : String Global) (rest : List (String Global)) → keys ≡ key ∷ rest
    → is_known known (string_bytes key) ≡ true → first_unknown known keys ≡ first_unknown known rest
first_unknown-known known keys key rest e is = rw (e, same_known known (string_bytes key), is) refl

pub first_unknown-other : (known : List (Bor (List ℕ))) (keys : List (String Global)) (key : String Global) (rest : List (String Global)) → keys ≡ key ∷ rest
    → is_known known (string_bytes key) ≡ false → first_unknown known keys ≡ Some (string_bytes key)
first_unknown-other known keys key rest e is = rw (e, same_known known (string_bytes key), is) refl
