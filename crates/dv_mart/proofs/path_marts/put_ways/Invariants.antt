use Rattle.dv_mart.proofs.Vocabulary.{Appends, IsBetweenRecords, csv_text, map, take, text_written, way_record}
use Rattle.dv_mart.proofs.path_marts.put_ways.Given as goal

-- the records of the first ways
abbrev pub invariant-loop-number : goal.invariant-loop-number
invariant-loop-number g l =
    Appends (text_written g.W.Write.contents l.initial.writer) (text_written g.W.Write.contents l.writer) (csv_text (map way_record (take l.number l.ways)))
    × IsBetweenRecords l.writer
