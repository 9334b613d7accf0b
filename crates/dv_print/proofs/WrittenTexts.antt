-- A text that was written in parts: a header, some records and more of them.
use Rattle.dv_print.proofs.Vocabulary.{Appends, List, None, Option, Some, [], ap, append_assoc, csv_text, default_writer, flat_map-append, row_text, same_Some, subst, sym, ℕ, ◌++◌, ◌∙◌, ◌∷◌, ◌≡◌}

parts_of : (first second third : Option (List ℕ)) (text a b c : List ℕ) → Appends (Some []) first a → Appends first second b → Appends second third c → third ≡ Some text
    → text ≡ a ++ (b ++ c)
parts_of None second third text a b c begun next last is = absurd begun
parts_of (Some x) None third text a b c begun next last is = absurd next
parts_of (Some x) (Some y) None text a b c begun next last is = absurd last
parts_of (Some x) (Some y) (Some z) text a b c begun next last is =
    sym (same_Some z text is) ∙ last ∙ ap (λ front. front ++ c) (next ∙ ap (λ front. front ++ b) begun) ∙ append_assoc a b c

pub text_of_parts : (start first second third : Option (List ℕ)) (text : List ℕ) (header top : List (List ℕ)) (some more rows : List (List (List ℕ)))
    → start ≡ Some [] → Appends start first (row_text default_writer header) → Appends first second (csv_text some) → Appends second third (csv_text more) → third ≡ Some text
    → header ≡ top → some ++ more ≡ rows → text ≡ csv_text (top ∷ rows)
text_of_parts start first second third text header top some more rows empty begun next last is same all =
    parts_of first second third text (row_text default_writer header) (csv_text some) (csv_text more) (subst (λ front. Appends front first (row_text default_writer header)) empty begun) next last is
    ∙ ap (λ rest. row_text default_writer header ++ rest) (sym (flat_map-append (row_text default_writer) some more))
    ∙ ap (λ front. csv_text (front ∷ (some ++ more))) same
    ∙ ap (λ rest. csv_text (top ∷ rest)) all
