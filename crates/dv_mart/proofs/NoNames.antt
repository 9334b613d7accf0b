-- Where nothing has the name behind a kind, a word of that kind names nothing.
use Rattle.dv_mart.proofs.Vocabulary.{List, None, Option, Some, What, ap, behind, option_and_then, option_map, ℕ, ◌∙◌, ◌≡◌}

module _ (place : List ℕ → Option ℕ) (mart : ℕ → What) where
  abbrev named : Option (List ℕ) → Option What
  named name = option_map mart (option_and_then place name)

  pub none_named : (kind word rest name : List ℕ) → Some rest ≡ behind kind word → name ≡ rest → None ≡ place name → None ≡ option_map mart (option_and_then place (behind kind word))
  none_named kind word rest name is same none = ap (option_map mart) none ∙ ap (λ n. named (Some n)) same ∙ ap named is
