use Rattle.dv_http.proofs.Vocabulary.{drop, header_bytes, is_named, list_any, map, ◌≡◌}
use Rattle.dv_http.proofs.fields.has_field.Given as goal

-- what is told is told by the fields that are left
abbrev pub invariant-loop-span : goal.invariant-loop-span
invariant-loop-span l = list_any (is_named l.name) (map (header_bytes l.bytes) (drop l.span-index l.spans)) ≡ list_any (is_named l.name) (map (header_bytes l.bytes) l.spans)
