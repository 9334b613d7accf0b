use Rattle.dv_mart.proofs.Vocabulary.{Appends, IsBetweenRecords, csv_text, hub_record, map, take, text_written}
use Rattle.dv_mart.proofs.hub_rows.put_all_lent.Given as goal

abbrev pub invariant-loop-row : goal.invariant-loop-row
invariant-loop-row g l =
    Appends (text_written g.W.Write.contents l.initial.writer) (text_written g.W.Write.contents l.writer) (csv_text (map hub_record (take l.row-index l.rows)))
    × IsBetweenRecords l.writer
