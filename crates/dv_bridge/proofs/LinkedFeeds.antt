-- What the laws of bridges ask of each feed of a path: its link rows and the reference lists of its content tell the same.
use Rattle.dv_bridge.proofs.Vocabulary.{Contains, Hashes, IsApart, IsStrictlySortedBy, Key, LinkRow, List, Some, [], each_hash, length, link_cmp, slice_get, ℕ, ◌∷◌, ◌≡◌}

-- a link row has the hash keys of a reference list
pub record IsRowOf (hashes : Hashes) (refs : List Key) (row : LinkRow) : Type 0 where
  pub digest : row.digest ≡ hashes.hash refs
  pub hubs : row.hubs ≡ each_hash hashes refs

-- link rows are those of reference lists to these hubs, by hash key, and no two lists have one hash key
pub record AreLinksOf (hashes : Hashes) (hubs : List ℕ) (links : List LinkRow) (lists : List (List Key)) : Type 0 where
  pub ascending : IsStrictlySortedBy link_cmp links
  pub link_of : (refs : List Key) → Contains lists refs → (row : LinkRow) × Contains links row × IsRowOf hashes refs row
  pub refs_of : (row : LinkRow) → Contains links row → (refs : List Key) × Contains lists refs × IsRowOf hashes refs row
  pub apart : IsApart hashes lists
  pub long : (refs : List Key) → Contains lists refs → length refs ≡ length hubs

-- keys at a place of lists and at a place of others are one where they have one hash key
abbrev pub AreKeysApart : Hashes → ℕ → List (List Key) → ℕ → List (List Key) → Type 0
AreKeysApart hashes i lists j others =
    (refs other : List Key) (a b : Key) → Contains lists refs → Contains others other → slice_get refs i ≡ Some a → slice_get other j ≡ Some b
    → hashes.hash (a ∷ []) ≡ hashes.hash (b ∷ []) → a ≡ b
