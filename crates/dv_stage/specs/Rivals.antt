-- Rows that have the same references and the same sub, and what is kept to find those with other attributes.
use Rattle.std.specs.Prelude.{◌≡◌, ℕ, ◌&&◌, true, false, Bool, List, [], Contains, is_some, position}
use Rattle.std.specs.BTreeMap.{BTreeMap, get}
use Rattle.std.specs.Cmp.Lexicographic.{slice_cmp}
use Rattle.std.specs.Ordering.{ordering_then}
use Rattle.std.specs.declared.cmp.Ordering.{Ordering}
use Rattle.dv_text.specs.Keys.{refs_eq, texts_eq}
use Rattle.dv_text.specs.Orders.{refs_cmp, text_cmp}
use Rattle.dv_text.specs.declared.rows.NRow.{NRow}
use Rattle.dv_catalog.specs.Records.{are_rivals}
use Rattle.dv_stage.specs.declared.taken_rows.RowName.{RowName}
use Rattle.dv_stage.specs.declared.taken_rows.TakenRows.{TakenRows}
use Rattle.dv_stage.specs.Neighbours.{first_neighbour}

-- the order of names: by references, then sub
abbrev pub name_cmp : RowName → RowName → Ordering
name_cmp a b = ordering_then (refs_cmp a.refs b.refs) (slice_cmp text_cmp a.sub b.sub)

-- whether a row has a name
abbrev pub is_named : RowName → NRow → Bool
is_named name row = refs_eq row.refs name.refs && texts_eq row.sub name.sub

abbrev pub name_of : NRow → RowName
name_of row = record { refs = row.refs; sub = row.sub }

-- whether two rows have one name
abbrev pub share_name : NRow → NRow → Bool
share_name before row = is_named (name_of before) row

-- whether a row has the name of the one before it
abbrev pub repeats_name : List NRow → Bool
repeats_name rows = is_some (first_neighbour share_name rows)

-- the map has the place of the first row of each name
abbrev pub IsFirsts : BTreeMap RowName ℕ → List NRow → Type 0
IsFirsts firsts rows = (name : RowName) → get name_cmp firsts name ≡ position (is_named name) rows

-- no row is a rival of another
abbrev pub HasNoRivals : List NRow → Type 0
HasNoRivals rows = (a b : NRow) → Contains rows a → Contains rows b → are_rivals a b ≡ false

-- no row is a rival of another, and the names are those of the rows, unless these have no attributes
pub record IsTakenRows (taken : TakenRows) : Type 0 where
  pub apart : HasNoRivals taken.rows.items
  pub named : taken.bare ≡ false → IsFirsts taken.firsts taken.rows.items
  pub bare : taken.bare ≡ true → (row : NRow) → Contains taken.rows.items row → row.attrs ≡ []
