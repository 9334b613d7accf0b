-- The names of feeds in a row, with a space between each two.
use Rattle.dv_print.proofs.Vocabulary.{List, [], ap, append-nil, flat_map, join_with_byte, map, sym, ℕ, ◌++◌, ◌∙◌, ◌∷◌, ◌≡◌}

-- the first name, and each further one behind a space
spaced : (name : ℕ → List ℕ) (first : List ℕ) (rest : List ℕ) → join_with_byte 32 (first ∷ map name rest) ≡ first ++ flat_map (λ feed. 32 ∷ name feed) rest
spaced name first [] = sym (append-nil first)
spaced name first (feed ∷ rest) = ap (λ behind. first ++ 32 ∷ behind) (spaced name (name feed) rest)

-- so it is of any names of which there is a first one
pub all_spaced : (name : ℕ → List ℕ) (feeds rest : List ℕ) (first : ℕ) (front made : List ℕ) → feeds ≡ first ∷ rest → front ≡ name first
    → made ≡ front ++ flat_map (λ feed. 32 ∷ name feed) rest → made ≡ join_with_byte 32 (map name feeds)
all_spaced name feeds rest first front made parts begins is =
    is ∙ ap (λ text. text ++ flat_map (λ feed. 32 ∷ name feed) rest) begins ∙ sym (ap (λ all. join_with_byte 32 (map name all)) parts ∙ spaced name (name first) rest)
