-- Of some of which none is like a later one, those that are alike are one.
use Rattle.dv_hub_link.proofs.Vocabulary.{Bool, Contains, Contains-cons_cases, Contains-nil, List, [], inl, inr, subst, sym, true, ◌∙◌, ◌∷◌, ◌≡◌}

pub one_alike : {X : Type 0} (apart : List X → Bool) (Alike : X → X → Type 0) → ((a b : X) → Alike a b → Alike b a)
    → ((x : X) (xs : List X) → apart (x ∷ xs) ≡ true → ((other : X) → Contains xs other → Alike other x → ⊥) × (apart xs ≡ true))
    → (xs : List X) → apart xs ≡ true → (a b : X) → Contains xs a → Contains xs b → Alike a b → a ≡ b
one_alike apart Alike turned parts [] e a b a_in b_in same = Contains-nil a a_in
one_alike apart Alike turned parts (x ∷ xs) e a b a_in b_in same =
    let (none, rest) = parts x xs e in
    elim (Contains-cons_cases x xs a a_in) [
      | inl a_is ↦
          elim (Contains-cons_cases x xs b b_in) [
            | inl b_is ↦ sym a_is ∙ b_is
            | inr b_more ↦ absurd (none b b_more (turned x b (subst (λ w. Alike w b) (sym a_is) same)))
          ]
      | inr a_more ↦
          elim (Contains-cons_cases x xs b b_in) [
            | inl b_is ↦ absurd (none a a_more (subst (Alike a) (sym b_is) same))
            | inr b_more ↦ one_alike apart Alike turned parts xs rest a b a_more b_more same
          ]
    ]
