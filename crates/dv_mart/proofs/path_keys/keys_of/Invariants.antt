use Rattle.dv_mart.proofs.Vocabulary.{Bor, Key, keys_read, length, list_all, map, nat_lt, true, ◌++◌, ◌≡◌}
use Rattle.dv_mart.proofs.path_keys.keys_of.Given as goal

-- the keys so far and those behind them are all
abbrev pub invariant-loop-hub : goal.invariant-loop-hub
invariant-loop-hub l =
    (map (λ (key : Bor Key). key.now) l.keys ++ keys_read l.vault.mapping l.vault.tables l.hub-iterator.a.rest.now l.hub-iterator.b.rest.now ≡ keys_read l.vault.mapping l.vault.tables l.hubs l.digests)
    × (list_all (λ hub. nat_lt hub (length l.vault.mapping.hubs)) l.hub-iterator.a.rest.now ≡ true)
