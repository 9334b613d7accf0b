use Rattle.dv_vault.proofs.Vocabulary.{are_hub_rows, entries_of, hub_rows_in, list_all, map, range_with_len, true, ◌≡◌, ◌≤◌}
use Rattle.dv_vault.proofs.hub_keys.hub_keys.Given as goal

-- the hubs so far, whose rows are those of the vault
abbrev pub invariant-loop-i : goal.invariant-loop-i
invariant-loop-i l =
    (map (λ hub. hub.now.rows) l.hubs.items ≡ map (λ hub. hub_rows_in hub (entries_of l.raw)) (range_with_len 0 l.i))
    × (list_all are_hub_rows (map (λ hub. hub.now.rows) l.hubs.items) ≡ true) × (l.i ≤ l.i-end)
