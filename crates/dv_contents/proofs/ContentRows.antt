-- Two orders in turn, by what the first answers.
use Rattle.dv_contents.proofs.Vocabulary.{Equal, Greater, Less, Ordering, ap, ordering_then, refl, sym, ◌∙◌, ◌≡◌}

pub tied : (first second r result : Ordering) → r ≡ first → r ≡ Equal → result ≡ second → result ≡ ordering_then first second
tied first second r result is equal second_is = second_is ∙ ap (λ o. ordering_then o second) (sym equal ∙ is)

pub untied : (first second r : Ordering) → r ≡ first → (r ≡ Equal → ⊥) → r ≡ ordering_then first second
untied first second Less is differs = ap (λ o. ordering_then o second) is
untied first second Equal is differs = absurd (differs refl)
untied first second Greater is differs = ap (λ o. ordering_then o second) is
