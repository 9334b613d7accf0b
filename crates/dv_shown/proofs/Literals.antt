-- What unfolds where an extract is read on literal bytes.
use Rattle.dv_shown.proofs.Vocabulary.{chars, csv_on_literals, encode_utf8, is_utf8, ⊤}

unfoldable pub extracts_on_literals : ⊤
unfolding csv_on_literals is_utf8 chars encode_utf8
extracts_on_literals = tt
