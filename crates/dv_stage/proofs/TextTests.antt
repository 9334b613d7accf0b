-- Whether bytes are text, as a test.
use Rattle.dv_stage.proofs.Vocabulary.{Bool, Err, IsUtf8, IsUtf8-from_is_utf8, List, MatchResult, Ok, Result, false, is_ok, is_utf8, is_utf8-from_IsUtf8, refl, sym, true, ℕ, ◌≡◌}

not_text : (bytes : List ℕ) → ¬ (IsUtf8 bytes) → (b : Bool) → is_utf8 bytes ≡ b → false ≡ is_utf8 bytes
not_text bytes h true e = absurd (h (IsUtf8-from_is_utf8 bytes e))
not_text bytes h false e = sym e

pub is_ok-is_utf8 : {A E : Type 0} (r : Result A E) (bytes : List ℕ) (P : A → Type 0) (Q : E → Type 0)
    → MatchResult r (λ s. P s × IsUtf8 bytes) (λ e. ¬ (IsUtf8 bytes) × Q e) → is_ok r ≡ is_utf8 bytes
is_ok-is_utf8 (Ok s) bytes P Q h = sym (is_utf8-from_IsUtf8 bytes h.1)
is_ok-is_utf8 (Err e) bytes P Q h = not_text bytes h.0 (is_utf8 bytes) refl
