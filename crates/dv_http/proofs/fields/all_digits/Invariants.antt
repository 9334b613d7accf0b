use Rattle.dv_http.proofs.Vocabulary.{drop, is_ascii_digit, list_all, ◌≡◌}
use Rattle.dv_http.proofs.fields.all_digits.Given as goal

abbrev pub invariant-loop-byte : goal.invariant-loop-byte
invariant-loop-byte l = list_all is_ascii_digit (drop l.byte-index l.value) ≡ list_all is_ascii_digit l.value
