use Rattle.dv_stage.proofs.Vocabulary.{IsExtractReader, IsTakenRows, [], length, map, records_left, records_rule, row_of, true, ◌++◌, ◌+◌, ◌≡◌, ◌≤◌}
use Rattle.dv_stage.proofs.readings.read_rows.Given as goal

-- what the records that are left still say, behind the rows that were taken
abbrev pub invariant-loop-row_no : goal.invariant-loop-row_no
invariant-loop-row_no l = record {
  reader : IsExtractReader l.reader;
  taken : IsTakenRows l.taken;
  bare : l.taken.bare ≡ true → l.header.layout.attrs ≡ [];
  number : l.row_no ≡ length l.taken.rows.items + 1;
  within : l.row_no ≤ l.room + 1;
  rule : records_rule l.header.feed.now l.header.names l.room 1 [] (records_left l.fn.reader) ≡ records_rule l.header.feed.now l.header.names l.room l.row_no l.taken.rows.items (records_left l.reader);
  rows : map (row_of l.header.feed.now l.header.names) (records_left l.fn.reader) ≡ l.taken.rows.items ++ map (row_of l.header.feed.now l.header.names) (records_left l.reader);
}
