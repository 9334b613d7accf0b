-- Parts of the form of a stored window, where the definitions of a state have no name for them.
use Rattle.std.specs.Prelude.{ℕ, ◌==◌, Bool, ◌&&◌, List, length}
use Rattle.std.specs.Cmp.Lexicographic.{slice_cmp}
use Rattle.std.specs.List.{list_all}
use Rattle.std.specs.Ordering.{ordering_then}
use Rattle.std.specs.declared.cmp.Ordering.{Ordering}
use Rattle.dv_text.specs.Orders.{refs_cmp, text_cmp}
use Rattle.dv_text.specs.declared.rows.NRow.{NRow}
use Rattle.dv_records.specs.States.{is_field}

-- fields are as many as the columns, and each is in normal form and not too long
abbrev pub are_fields : List (List ℕ) → List (List ℕ) → Bool
are_fields columns fields = (length fields == length columns) && list_all is_field fields

-- rows by references, then sub
abbrev pub row_name_cmp : NRow → NRow → Ordering
row_name_cmp a b = ordering_then (refs_cmp a.refs b.refs) (slice_cmp text_cmp a.sub b.sub)
