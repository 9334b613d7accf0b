use Rattle.dv_window_keys.proofs.Vocabulary.{AreTold, flat_map, hashes_of, item_of, map, row_items, take, ◌++◌, ◌≡◌}
use Rattle.dv_window_keys.proofs.gathered_items.add_feed_items.Given as goal

abbrev pub invariant-loop-place : goal.invariant-loop-place
invariant-loop-place g l = record {
  items : map item_of l.items.items ≡ map item_of l.initial.items.items ++ flat_map (row_items l.catalog l.staged.feed) (take l.place l.staged.rows);
  told : AreTold (hashes_of g.H.KeyDigest.function) l.items.items;
}
