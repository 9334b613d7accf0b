-- The vault of no windows has the sealed windows of a state with none.
use Rattle.dv_vault.proofs.Vocabulary.{HasSealed, Hashes, RawVault, [], map, no_rows, none_valid, tables, ◌∙◌, ◌≡◌}
use Rattle.dv_vault.proofs.EmptyTables.{empty_vault}

pub none_sealed : (hashes : Hashes) (raw : RawVault) → raw.tables ≡ map (λ id. record { table = id; rows = no_rows id }) (tables raw.mapping) → raw.heads ≡ [] → HasSealed hashes [] raw
none_sealed hashes raw tables_are no_heads = record {
  valid = none_valid raw.mapping hashes;
  tables_are = tables_are ∙ empty_vault raw.mapping hashes (tables raw.mapping);
  heads_are = no_heads;
}
