-- Pieces that are put behind one another.
use Rattle.dv_http.proofs.Vocabulary.{List, ap, ℕ, ◌++◌, ◌∙◌, ◌≡◌}

pub three_behind : (start first second third a b c : List ℕ) → first ≡ start ++ a → second ≡ first ++ b → third ≡ second ++ c → third ≡ start ++ a ++ b ++ c
three_behind start first second third a b c one two three =
    three ∙ ap (λ l. l ++ c) (two ∙ ap (λ l. l ++ b) one)
