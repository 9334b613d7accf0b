use Rattle.dv_print.proofs.Vocabulary.{Appends, IsBetweenRecords, codes, csv_text, head_record, map, take, text_written}
use Rattle.dv_print.proofs.windows_texts.put_sealed.Given as goal

abbrev pub invariant-loop-head : goal.invariant-loop-head
invariant-loop-head g l =
    Appends (text_written g.W.Write.contents l.initial.writer) (text_written g.W.Write.contents l.writer) (csv_text (map (head_record l.catalog (codes "sealed")) (take l.head-index l.sealed)))
    × IsBetweenRecords l.writer
