use Rattle.dv_print.proofs.Vocabulary.{Appends, IsBetweenRecords, csv_text, map, pit_record, take, text_written}
use Rattle.dv_print.proofs.pit_texts.put_dated.Given as goal

abbrev pub invariant-loop-row : goal.invariant-loop-row
invariant-loop-row g l =
    Appends (text_written g.W.Write.contents l.initial.writer) (text_written g.W.Write.contents l.writer) (csv_text (map (pit_record l.fn.date) (take l.row-index l.rows)))
    × IsBetweenRecords l.writer
