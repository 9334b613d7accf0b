use Rattle.dv_sat.proofs.Vocabulary.{attrs_fit, filter_map, hashes_of, list_all, map, option_map, sat_change, true, valid_at, ◌++◌, ◌≡◌}
use Rattle.dv_sat.proofs.sat_tables.SatTable.changes.Given as goal

-- what the rows so far add, and the rows behind them with their hash keys and the rows that are valid for these
abbrev pub invariant-loop-row : goal.invariant-loop-row
invariant-loop-row g l = record {
  made : l.made.items ++ filter_map (sat_change (hashes_of g.H.KeyDigest.function) l.source l.self.rows l.load) l.row-iterator.a.a.rest.now
      ≡ filter_map (sat_change (hashes_of g.H.KeyDigest.function) l.source l.self.rows l.load) l.rows;
  keys : l.row-iterator.a.b.rest.now ≡ map (λ row. (hashes_of g.H.KeyDigest.function).hash row.refs) l.row-iterator.a.a.rest.now;
  valid : map (option_map (λ row. row.now)) l.row-iterator.b.rest.now ≡ map (λ key. valid_at l.self.rows key l.load) l.row-iterator.a.b.rest.now;
  fit : list_all (λ row. attrs_fit row.attrs) l.row-iterator.a.a.rest.now ≡ true;
}
