use Rattle.dv_mapfile.proofs.Vocabulary.{Bool, IsUtf8, IsUtf8-from_is_utf8, List, Members, None, Some, document_of, false, false≢true, is_utf8, is_utf8-from_IsUtf8, parse_document, refl, sym, true, ℕ, ◌∙◌, ◌≡◌}
use Rattle.dv_mapfile.proofs.documents.any_document.Goals as goal

read : (bytes : List ℕ) (document : Members) → IsUtf8 bytes → parse_document bytes ≡ Some document → document_of bytes ≡ Some document
read bytes document is_text parsed = rw (is_utf8-from_IsUtf8 bytes is_text) parsed

refused : (bytes : List ℕ) → (IsUtf8 bytes → parse_document bytes ≡ None) → document_of bytes ≡ None
refused bytes h = by (is_utf8 bytes) refl
  where
    by : (b : Bool) → is_utf8 bytes ≡ b → document_of bytes ≡ None
    by true e = rw e (h (IsUtf8-from_is_utf8 bytes e))
    by false e = rw e refl

pub returns-in-Ok : goal.returns-in-Ok
returns-in-Ok c = sym (read c.args.bytes.now _ c.in-Ok.ensures.ok.0 c.in-Ok.ensures.ok.1)

pub returns-in-Err-2 : goal.returns-in-Err-2
returns-in-Err-2 c =
    sym (refused c.args.bytes.now (c.in-Err.ensures.refused (λ memory. false≢true (sym c.if-is_memory.false ∙ c.is_memory.ensures.1 memory))))
