use Rattle.dv_contents.proofs.Vocabulary.{map, missing_key, range_with_len, ◌≡◌, ◌≤◌}
use Rattle.dv_contents.proofs.lenders.missing_keys_of.Given as goal

-- the missing keys of the hubs so far
abbrev pub invariant-loop-hub : goal.invariant-loop-hub
invariant-loop-hub l = (l.keys ≡ map (missing_key l.catalog) (range_with_len 0 l.hub)) × (l.hub ≤ l.hub-end)
