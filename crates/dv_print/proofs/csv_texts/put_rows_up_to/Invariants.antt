use Rattle.dv_print.proofs.Vocabulary.{Appends, IsBetweenRecords, csv_text, filter, map, nat_le, take, text_written}
use Rattle.dv_print.proofs.csv_texts.put_rows_up_to.Given as goal

abbrev pub invariant-loop-row : goal.invariant-loop-row
invariant-loop-row g l =
    Appends (text_written g.W.Write.contents l.initial.writer) (text_written g.W.Write.contents l.writer)
    (csv_text (map g.R.Recorded.record_of (filter (λ row. nat_le (g.R.Placed.place row).load l.fn.date) (take l.row-index l.rows))))
    × IsBetweenRecords l.writer
