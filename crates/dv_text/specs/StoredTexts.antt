-- The bytes of a text, of which short ones are held in place.
use Rattle.std.specs.Prelude.{◌≡◌, ◌≤◌, ℕ, List, length, take}
use Rattle.dv_text.specs.declared.texts.Stored.{Stored}
use Rattle.dv_text.specs.declared.texts.Stored.TheVariants.{Short, Long}

-- the bytes that are held
abbrev pub stored_text : Stored → List ℕ
stored_text (Short length place) = take length place
stored_text (Long bytes) = bytes.value.items

-- the place has its size, and holds no more than that
abbrev pub IsStoredText : Stored → Type 0
IsStoredText (Short n place) = (n ≤ 22) × (length place ≡ 22)
IsStoredText (Long bytes) = Unit {0}
