use Rattle.dv_sat.proofs.Vocabulary.{MultiRow, attrs_fit, bytes_eq, filter_map, find, hashes_of, list_all, map, multi_change, nat_le, option_map, reverse, true, ◌&&◌, ◌++◌, ◌≡◌}
use Rattle.dv_sat.proofs.multi_tables.MultiTable.changes.Given as goal

-- what the rows so far add, and the rows behind them with their hash keys and the last rows of these
abbrev pub invariant-loop-row : goal.invariant-loop-row
invariant-loop-row g l = record {
  made : l.made.items ++ filter_map (multi_change (hashes_of g.H.KeyDigest.function) l.source l.self.rows l.load l.rows) l.row-iterator.a.a.rest.now
      ≡ filter_map (multi_change (hashes_of g.H.KeyDigest.function) l.source l.self.rows l.load l.rows) l.rows;
  keys : l.row-iterator.a.b.rest.now ≡ map (λ row. (hashes_of g.H.KeyDigest.function).hash row.refs) l.row-iterator.a.a.rest.now;
  latest : map (option_map (λ row. row.now)) l.row-iterator.b.rest.now ≡ map (λ key. find (λ (row : MultiRow). bytes_eq row.parent key && nat_le row.load l.load) (reverse l.self.rows)) l.row-iterator.a.b.rest.now;
  fit : list_all (λ row. attrs_fit row.attrs) l.row-iterator.a.a.rest.now ≡ true;
}
