use Rattle.dv_contents.proofs.Vocabulary.{keys_read, length, list_all, map, nat_lt, true, ◌++◌, ◌≡◌}
use Rattle.dv_contents.proofs.lenders.Lender.keys.Given as goal

-- the keys so far and those behind them are all
abbrev pub invariant-loop-hub : goal.invariant-loop-hub
invariant-loop-hub l =
    (map (λ key. key.now) l.keys ++ keys_read l.self.vault.now.mapping l.self.vault.now.tables l.hub-iterator.a.rest.now l.hub-iterator.b.rest.now
    ≡ keys_read l.self.vault.now.mapping l.self.vault.now.tables l.hubs l.digests)
    × (list_all (λ hub. nat_lt hub (length l.self.vault.now.mapping.hubs)) l.hub-iterator.a.rest.now ≡ true)
