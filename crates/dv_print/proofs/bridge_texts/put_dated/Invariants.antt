use Rattle.dv_print.proofs.Vocabulary.{Appends, IsBetweenRecords, bridge_record, csv_text, map, take, text_written}
use Rattle.dv_print.proofs.bridge_texts.put_dated.Given as goal

abbrev pub invariant-loop-row : goal.invariant-loop-row
invariant-loop-row g l =
    Appends (text_written g.W.Write.contents l.initial.writer) (text_written g.W.Write.contents l.writer) (csv_text (map (bridge_record l.fn.date) (take l.row-index l.rows)))
    × IsBetweenRecords l.writer
