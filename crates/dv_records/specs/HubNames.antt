-- What tells the business key of a hub that a hash key stands for (Linstedt and Olschimke 2015, chapter 4, on hubs).
use Rattle.std.specs.Prelude.{ℕ, ◌==◌, Bool, true, not, ◌&&◌, List, [], ◌∷◌, Option, find, option_map}
use Rattle.std.specs.List.{list_any}
use Rattle.std.specs.Str.{bytes_eq}
use Rattle.dv_text.specs.declared.rows.Key.{Key}

-- a hub, a digest, and the key that the digest stands for there
pub record HubName : Type 0 where
  pub hub : ℕ
  pub digest : List ℕ
  pub key : Key

-- whether it is the name of a key of this hub with this digest
abbrev pub is_named : ℕ → List ℕ → HubName → Bool
is_named hub digest name = (name.hub == hub) && bytes_eq name.digest digest

-- the key of a hub with a digest, where one is known
abbrev pub key_named : ℕ → List ℕ → List HubName → Option Key
key_named hub digest names = option_map (λ name. name.key) (find (is_named hub digest) names)

-- no hub and digest stand twice
abbrev pub are_names_apart : List HubName → Bool
are_names_apart [] = true
are_names_apart (name ∷ names) = not (list_any (is_named name.hub name.digest) names) && are_names_apart names
