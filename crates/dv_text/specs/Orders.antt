-- The orders of texts, business keys, reference lists and rows.
use Rattle.std.specs.Prelude.{ℕ, List}
use Rattle.std.specs.declared.cmp.Ordering.{Ordering}
use Rattle.std.specs.Ordering.{nat_cmp, ordering_then}
use Rattle.std.specs.Cmp.Lexicographic.{slice_cmp}
use Rattle.dv_text.specs.declared.rows.Key.{Key}
use Rattle.dv_text.specs.declared.rows.NRow.{NRow}

-- texts by their bytes, a prefix first
abbrev pub text_cmp : List ℕ → List ℕ → Ordering
text_cmp = slice_cmp nat_cmp

-- keys by their parts, a prefix first
abbrev pub key_cmp : Key → Key → Ordering
key_cmp a b = slice_cmp text_cmp a.parts b.parts

-- reference lists by their keys, a prefix first
abbrev pub refs_cmp : List Key → List Key → Ordering
refs_cmp = slice_cmp key_cmp

-- rows by references, then sub, then attributes
abbrev pub row_cmp : NRow → NRow → Ordering
row_cmp a b =
    ordering_then
    (refs_cmp a.refs b.refs)
    (ordering_then (slice_cmp text_cmp a.sub b.sub) (slice_cmp text_cmp a.attrs b.attrs))
