-- A mapping file within the limit of its bytes, and one past it.
use Rattle.dv_shown.proofs.Vocabulary.{Err, List, None, arith, codes, document_of, false, length, manifest_in, manifest_or_text, mapping_document, nat_le, nat_lt, nat_tests, refl, true, ℕ, ◌<◌, ◌≡◌, ◌≤◌}

at_most : (n most : ℕ) → n ≤ most → nat_le n most ≡ true
at_most n most h = grind (arith, nat_tests)

not_above : (n most : ℕ) → n ≤ most → nat_lt most n ≡ false
not_above n most h = grind (arith, nat_tests)

is_above : (n most : ℕ) → most < n → nat_lt most n ≡ true
is_above n most h = grind (arith, nat_tests)

above : (n most : ℕ) → most < n → nat_le n most ≡ false
above n most h = grind (arith, nat_tests)

pub mapping_document-within : (bytes : List ℕ) → length bytes ≤ 1_048_576 → mapping_document bytes ≡ document_of bytes
mapping_document-within bytes h = rw (at_most (length bytes) 1_048_576 h) refl

pub mapping_document-past : (bytes : List ℕ) → 1_048_576 < length bytes → mapping_document bytes ≡ None
mapping_document-past bytes h = rw (above (length bytes) 1_048_576 h) refl

-- a manifest within the limit of its bytes, and one past it
pub manifest_in-within : (bytes : List ℕ) → length bytes ≤ 65_536 → manifest_in bytes ≡ manifest_or_text (document_of bytes)
manifest_in-within bytes h = rw (not_above (length bytes) 65_536 h) refl

pub manifest_in-past : (bytes : List ℕ) → 65_536 < length bytes → manifest_in bytes ≡ Err (codes "length")
manifest_in-past bytes h = rw (is_above (length bytes) 65_536 h) refl
