use Rattle.dv_http.proofs.Vocabulary.{IfSome, IsWithin, drop, header_bytes, length, map, option_map, option_to_list, span_bytes, values_named, ◌++◌, ◌≡◌}
use Rattle.dv_http.proofs.fields.find.Given as goal

-- the value that was found, and those of the fields that are left, are those of all
abbrev pub invariant-loop-span : goal.invariant-loop-span
invariant-loop-span l = record {
  told : option_to_list (option_map (span_bytes l.bytes) l.value) ++ values_named l.name (map (header_bytes l.bytes) (drop l.span-index l.spans)) ≡ values_named l.name (map (header_bytes l.bytes) l.spans);
  within : IfSome l.value (IsWithin (length l.bytes));
}
