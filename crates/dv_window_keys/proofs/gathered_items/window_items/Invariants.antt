use Rattle.dv_window_keys.proofs.Vocabulary.{AreTold, flat_map, hashes_of, item_of, items_of, map, take, ◌≡◌}
use Rattle.dv_window_keys.proofs.gathered_items.window_items.Given as goal

abbrev pub invariant-loop-extract : goal.invariant-loop-extract
invariant-loop-extract g l = record {
  items : map item_of l.items.items ≡ flat_map (items_of l.catalog) (map (λ extract. extract.staged.now) (take l.extract-index l.extract-items));
  told : AreTold (hashes_of g.H.KeyDigest.function) l.items.items;
}
