-- Names that were seen, held in a set.
use Rattle.dv_stage.proofs.Vocabulary.{BTreeSet, Bool, List, Some, [], again_after, bytes_eq, cond, contains, drop, drop_got, false, is_among, is_eq-slice_cmp, list_any-append, nat_cmp, refl, slice_cmp, slice_get, true, ℕ, ◌++◌, ◌+◌, ◌||◌, ◌∙◌, ◌∷◌, ◌≡◌}
use Rattle.std.specs.BTreeSet.{Updates}

cond-or : (a b : Bool) → cond a true b ≡ (b || (a || false))
cond-or true true = refl
cond-or true false = refl
cond-or false true = refl
cond-or false false = refl

-- the set has one name more
pub seen_more : (s n : BTreeSet (List ℕ)) (seen : List (List ℕ)) (name : List ℕ) → ((q : List ℕ) → contains (slice_cmp nat_cmp) s q ≡ is_among seen q)
    → Updates (slice_cmp nat_cmp) s n name true → (q : List ℕ) → contains (slice_cmp nat_cmp) n q ≡ is_among (seen ++ name ∷ []) q
seen_more s n seen name had updates q =
    updates.0 q ∙ rw (is_eq-slice_cmp name q, had q, list_any-append (λ t. bytes_eq t q) seen (name ∷ [])) (cond-or (bytes_eq name q) (is_among seen q))

-- the next name is none of those before it
pub again_more : (seen names : List (List ℕ)) (i : ℕ) (name : List ℕ) → slice_get names i ≡ Some name → is_among seen name ≡ false
    → again_after bytes_eq seen (drop i names) ≡ again_after bytes_eq (seen ++ name ∷ []) (drop (i + 1) names)
again_more seen names i name e new = rw (drop_got names i name e, new) refl

-- or it is one of them
pub again_here : (seen names : List (List ℕ)) (i : ℕ) (name : List ℕ) → slice_get names i ≡ Some name → is_among seen name ≡ true → again_after bytes_eq seen (drop i names) ≡ Some name
again_here seen names i name e old = rw (drop_got names i name e, old) refl
