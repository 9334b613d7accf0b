use Rattle.dv_vault.proofs.Vocabulary.{entry_of, map, no_rows, take, ◌≡◌}
use Rattle.dv_vault.proofs.raw_tables.empty_tables.Given as goal

abbrev pub invariant-loop-id : goal.invariant-loop-id
invariant-loop-id l = map entry_of l.tables.items ≡ map (λ id. record { table = id; rows = no_rows id }) (take l.id-index l.ids)
