-- How much there is to hash in a staged row at most: four references of four parts, and thirty-two attributes, of 4,096 bytes each.
use Rattle.std.specs.Prelude.{ℕ, Bool, ◌&&◌, List, length, nat_le}
use Rattle.std.specs.List.{list_all}
use Rattle.dv_text.specs.declared.rows.Key.{Key}
use Rattle.dv_text.specs.Limits.{most_field_bytes}

-- at most so many texts, none too long
abbrev pub texts_fit : ℕ → List (List ℕ) → Bool
texts_fit most texts = nat_le (length texts) most && list_all (λ text. nat_le (length text) most_field_bytes) texts

-- at most four references, of at most four parts each
abbrev pub refs_fit : List Key → Bool
refs_fit refs = nat_le (length refs) 4 && list_all (λ key. texts_fit 4 key.parts) refs

-- at most thirty-two attributes
abbrev pub attrs_fit : List (List ℕ) → Bool
attrs_fit attrs = texts_fit 32 attrs
