use Rattle.dv_stage.proofs.Vocabulary.{HasNoRivals, IsExtractReader, [], length, map, records_left, records_rule, row_of, ◌++◌, ◌+◌, ◌≡◌, ◌≤◌}
use Rattle.dv_stage.proofs.whole.whole_rows.Given as goal

-- what the records that are left still say, behind the rows that were read
abbrev pub invariant-loop-row_no : goal.invariant-loop-row_no
invariant-loop-row_no l = record {
  reader : IsExtractReader l.reader;
  number : l.row_no ≡ length l.rows.items + 1;
  rule : l.row_no ≤ l.room + 1 → HasNoRivals (map (row_of l.header.feed.now l.header.names) (records_left l.fn.reader))
      → records_rule l.header.feed.now l.header.names l.room 1 [] (records_left l.fn.reader) ≡ records_rule l.header.feed.now l.header.names l.room l.row_no l.rows.items (records_left l.reader);
  rows : map (row_of l.header.feed.now l.header.names) (records_left l.fn.reader) ≡ l.rows.items ++ map (row_of l.header.feed.now l.header.names) (records_left l.reader);
}
