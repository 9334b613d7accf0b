-- The numbers of `Prefixes` agree with the orders.
use Rattle.std.proofs.Common.{arith, refl, ◌∙◌, inl, inr}
use Rattle.std.proofs.lemmas.Bool.{cases_lt, cases_order, le-ltb, lt-ltb}
use Rattle.std.proofs.lemmas.Bool.Decides.{nat_tests}
use Rattle.std.specs.Prelude.{◌≡◌, ℕ, zero, suc, ◌+◌, ◌*◌, ◌<◌, ◌≤◌, min, nat_lt, List, [], ◌∷◌, if◌then◌else◌}
use Rattle.std.specs.Cmp.Lexicographic.{slice_cmp}
use Rattle.std.specs.Ordering.{nat_cmp, ordering_then}
use Rattle.std.specs.declared.cmp.Ordering.{Ordering}
use Rattle.std.specs.declared.cmp.Ordering.TheVariants.{Less}
use Rattle.dv_text.specs.Orders.{key_cmp, row_cmp, text_cmp}
use Rattle.dv_text.specs.Prefixes.{Agrees, first_prefix, key_prefix, row_prefix, text_prefix}
unfoldable use Rattle.dv_text.specs.Prefixes.{spelt}

-- what is read behind an item of a text
abbrev rest : ℕ → List ℕ → List ℕ
rest b text = if nat_lt b 256 then text else []

rest_byte : (b : ℕ) (text : List ℕ) → b < 256 → rest b text ≡ text
rest_byte b text lt = rw (lt-ltb b 256 lt) refl

rest_none : (b : ℕ) (text : List ℕ) → 256 ≤ b → rest b text ≡ []
rest_none b text le = rw (le-ltb b 256 le) refl

less_here : (a b : ℕ) → a < b → nat_cmp a b ≡ Less
less_here a b lt = grind (arith, nat_tests)

equal_here : (a b : ℕ) (r : Ordering) → a ≡ b → ordering_then (nat_cmp a b) r ≡ r
equal_here a b r e = grind (arith, nat_tests)

-- no text spells less than the empty one
least : (k a b : ℕ) (y : List ℕ) → a ≤ b → spelt k a [] ≤ spelt k b y
unfolding spelt
least zero a b y le = le
least (suc k) a b [] le = least k (a * 256) (b * 256) [] (omega arith)
least (suc k) a b (v ∷ y) le = least k (a * 256) (b * 256 + min v 256) (rest v y) (omega arith)

-- and none spells more behind a lesser number
rises_by : (k a u : ℕ) (x : List ℕ) (n : ℕ) (z : List ℕ) → (u < 256 → spelt k (a * 256 + min u 256) (rest u x) ≤ spelt k n z) → a * 256 + 256 ≤ n → spelt k (a * 256 + min u 256) (rest u x) ≤ spelt k n z
rises_by k a u x n z later le =
    elim (cases_lt u 256) [
      | inl small ↦ later small
      | inr big ↦ rw (rest_none u x big) (least k (a * 256 + min u 256) n z (omega arith))
    ]

rises : (k a b : ℕ) (x y : List ℕ) → a < b → spelt k a x ≤ spelt k b y
unfolding spelt
rises zero a b x y lt = omega arith
rises (suc k) a b [] y lt = least (suc k) a b y (omega arith)
rises (suc k) a b (u ∷ x) [] lt =
    rises_by k a u x (b * 256) [] (λ small. rises k (a * 256 + min u 256) (b * 256) (rest u x) [] (omega arith)) (omega arith)
rises (suc k) a b (u ∷ x) (v ∷ y) lt =
    rises_by k a u x (b * 256 + min v 256) (rest v y)
    (λ small. rises k (a * 256 + min u 256) (b * 256 + min v 256) (rest u x) (rest v y) (omega arith)) (omega arith)

-- a first item settles the order of two texts, or leaves it to what is behind
module _ (k a u v : ℕ) (x y : List ℕ) (lt : spelt k (a * 256 + min u 256) (rest u x) < spelt k (a * 256 + min v 256) (rest v y)) where
  settled_behind : u ≡ v → ((n : ℕ) → spelt k n x < spelt k n y → text_cmp x y ≡ Less) → text_cmp (u ∷ x) (v ∷ y) ≡ Less
  settled_behind same later =
      elim (cases_lt u 256) [
        | inl small ↦
            let as_one : min v 256 ≡ min u 256 = omega arith in
            equal_here u v (text_cmp x y) same ∙ later (a * 256 + min u 256) (rw (rest_byte u x small, rest_byte v y (omega arith), as_one) at lt)
        | inr big ↦
            let as_one : min v 256 ≡ min u 256 = omega arith in
            absurd (omega (arith, rw (rest_none u x big, rest_none v y (omega arith), as_one) at lt))
      ]

  not_turned : v < u → ⊥
  not_turned behind =
      elim (cases_lt v 256) [
        | inl small ↦ omega (arith, lt, rises k (a * 256 + min v 256) (a * 256 + min u 256) (rest v y) (rest u x) (omega arith))
        | inr big ↦
            let as_one : min v 256 ≡ min u 256 = omega arith in
            omega (arith, rw (rest_none u x (omega arith), rest_none v y big, as_one) at lt)
      ]

  settled_here : ((n : ℕ) → spelt k n x < spelt k n y → text_cmp x y ≡ Less) → text_cmp (u ∷ x) (v ∷ y) ≡ Less
  settled_here later =
      elim (cases_order u v) [
        | inl same ↦ settled_behind same later
        | inr (inl before) ↦ rw (less_here u v before) refl
        | inr (inr behind) ↦ absurd (not_turned behind)
      ]

text_settled : (k a : ℕ) (x y : List ℕ) → spelt k a x < spelt k a y → text_cmp x y ≡ Less
unfolding spelt
text_settled zero a x y lt = absurd (omega arith)
text_settled (suc k) a [] [] lt = absurd (omega arith)
text_settled (suc k) a [] (v ∷ y) lt = refl
text_settled (suc k) a (u ∷ x) [] lt = let le = least k (a * 256) (a * 256 + min u 256) (rest u x) (omega arith) in absurd (omega (arith, le, lt))
text_settled (suc k) a (u ∷ x) (v ∷ y) lt = settled_here k a u v x y lt (λ n. text_settled k n x y)

-- the numbers of texts agree with their order
pub text_agrees : Agrees text_prefix text_cmp
text_agrees x y lt = text_settled 16 0 x y lt

-- those of the first items agree with the order of lists, where those of the items agree with theirs
pub first_agrees : {X : Type 0} {prefix : X → ℕ} {cmp : X → X → Ordering} → Agrees prefix cmp → Agrees (first_prefix prefix) (slice_cmp cmp)
first_agrees agrees x [] lt = absurd (omega arith)
first_agrees agrees [] (y ∷ ys) lt = refl
first_agrees agrees (x ∷ xs) (y ∷ ys) lt = rw (agrees x y lt) refl

pub key_agrees : Agrees key_prefix key_cmp
key_agrees x y lt = first_agrees text_agrees x.parts y.parts lt

pub row_agrees : Agrees row_prefix row_cmp
row_agrees x y lt = rw (first_agrees key_agrees x.refs y.refs lt) refl
