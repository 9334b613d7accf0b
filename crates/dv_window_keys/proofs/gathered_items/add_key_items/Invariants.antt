use Rattle.dv_window_keys.proofs.Vocabulary.{AreTold, drop, hashes_of, hub_items, item_of, map, ◌++◌, ◌≡◌}
use Rattle.dv_window_keys.proofs.gathered_items.add_key_items.Given as goal

-- the items so far and those behind them are all
abbrev pub invariant-loop-place : goal.invariant-loop-place
invariant-loop-place g l = record {
  items : map item_of l.items.items ++ hub_items l.feed (drop l.place l.hubs) (drop l.place l.refs) ≡ map item_of l.initial.items.items ++ hub_items l.feed l.hubs l.refs;
  told : AreTold (hashes_of g.H.KeyDigest.function) l.items.items;
}
