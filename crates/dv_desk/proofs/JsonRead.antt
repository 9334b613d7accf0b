-- The JSON that bytes are.
use Rattle.dv_desk.proofs.Vocabulary.{Bool, IsUtf8, IsUtf8-from_is_utf8, List, None, false, is_utf8, is_utf8-from_IsUtf8, json_of, read, refl, true, ℕ, ◌≡◌}

-- what is no text is no JSON
pub no_text : (bytes : List ℕ) → (IsUtf8 bytes → ⊥) → None ≡ json_of bytes
no_text bytes broken = by (is_utf8 bytes) refl
  where
    by : (is : Bool) → is_utf8 bytes ≡ is → None ≡ json_of bytes
    by true e = absurd (broken (IsUtf8-from_is_utf8 bytes e))
    by false e = rw e refl

pub text_json : (bytes : List ℕ) → IsUtf8 bytes → read bytes ≡ json_of bytes
text_json bytes is = rw (is_utf8-from_IsUtf8 bytes is) refl
