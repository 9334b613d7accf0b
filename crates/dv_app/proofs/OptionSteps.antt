-- What words say, word by word.
use Rattle.dv_app.proofs.Vocabulary.{Found, Global, List, Option, String, ap, at_drop_more, drop, get_or, length, map, option_and_then, parted_from, string_bytes, sym, taken, ℕ, ◌+◌, ◌<◌, ◌∙◌, ◌≡◌}

module _ (words : List (String Global)) (i : ℕ) (word : String Global) (within : i < length words) (is : word ≡ get_or words i word) where
  -- what the words behind this one say, if it was taken
  abbrev on : Option Found → Option Found
  on next = option_and_then (λ more. parted_from more (map string_bytes (drop (i + 1) words))) next

  next_is : (found : Found) → parted_from found (map string_bytes (drop i words)) ≡ on (taken found.next found (string_bytes word))
  next_is found = at_drop_more (λ ws. parted_from found (map string_bytes ws)) words i word within ∙ ap (λ w. on (taken found.next found (string_bytes w))) (sym is)

  -- one word is taken
  pub goes_on : (found : Found) (whole : Option Found) → parted_from found (map string_bytes (drop i words)) ≡ whole
      → (text : List ℕ) → text ≡ string_bytes word → (next : Option Found) → next ≡ taken found.next found text → on next ≡ whole
  goes_on found whole so text text_is next next_is' =
      ap on (next_is' ∙ ap (taken found.next found) text_is) ∙ sym (next_is found) ∙ so
