use Rattle.dv_mart.proofs.Vocabulary.{Appends, IsBetweenRecords, csv_text, feed_record, map, take, text_written}
use Rattle.dv_mart.proofs.lent_texts.put_lent.Given as goal

abbrev pub invariant-loop-row : goal.invariant-loop-row
invariant-loop-row g l =
    Appends (text_written g.W.Write.contents l.initial.writer) (text_written g.W.Write.contents l.writer) (csv_text (map feed_record (take l.row-index l.rows)))
    × IsBetweenRecords l.writer
