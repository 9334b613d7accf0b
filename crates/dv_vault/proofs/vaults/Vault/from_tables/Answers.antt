use Rattle.dv_vault.proofs.vaults.Vault.from_tables.Goals as goal

pub invariant_of-result : goal.invariant_of-result
invariant_of-result c = (c.requires.tables, c.requires.rows, c.requires.heads, c.requires.weight, c.note_valid.ensures)
