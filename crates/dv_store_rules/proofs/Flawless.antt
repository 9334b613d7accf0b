-- Where no row breaks a rule behind the rows before it, no flaw is found.
use Rattle.dv_store_rules.proofs.Vocabulary.{List, None, Option, [], ap, append-nil, append_assoc, first_along, first_flaw, flaw_behind, refl, ℕ, ◌++◌, ◌∷◌, ◌≡◌}

-- a test that no item answers behind the items before it answers nothing along the list
pub none_along : {X R : Type 0} (test : List X → X → Option R) (xs before : List X) → ((between : List X) (x : X) (after : List X) → xs ≡ between ++ x ∷ after → test (before ++ between) x ≡ None) → first_along test before xs ≡ None
none_along test [] before none = refl
none_along test (x ∷ xs) before none =
    let first : test before x ≡ None = rw append-nil at (none [] x xs refl) in
    let later = none_along test xs (before ++ x ∷ []) (λ between y after e. rw append_assoc (none (x ∷ between) y after (ap (λ l. x ∷ l) e))) in
    rw first later

-- a rule that no row breaks leaves no flaw
pub flawless : {R : Type 0} (rule_of : List R → R → Option ℕ) (rows : List R) → ((before : List R) (row : R) (after : List R) → rows ≡ before ++ row ∷ after → rule_of before row ≡ None) → first_flaw rule_of rows ≡ None
flawless rule_of rows kept = none_along (flaw_behind rule_of) rows [] (λ before row after e. rw (kept before row after e))
