-- One raw table that is read: its rows are those that are stored, or its first flaw is theirs.
use Rattle.dv_restore.proofs.Vocabulary.{AllRows, Checked, Damage, Err, IfOk, Known, Mapping, None, Ok, Option, OtherKind, Read, Result, Some, Store, StoreFault, Table, TableId, TellsRows, Told, ap, clear_whole, damage_at, entry_of, flaw_in, flaw_read, option_map, read_tells, refl, rows_in}
use Rattle.dv_restore.proofs.Vocabulary.{subst, table_name, tables_weight, ℕ, ◌∙◌, ◌≡◌}
use Rattle.dv_store_rules.proofs.Fronts as fronts

same_flaw : (before : Known) (id : TableId) (read : Read) → fronts.flaw_read before id read ≡ flaw_read before id read
same_flaw before id (AllRows rows) = refl
same_flaw before id (OtherKind row) = refl

module _ (before : Known) (id : TableId) (weight : ℕ) (is : tables_weight before.tables ≡ weight) (told : Option Store) (read : Read) (tells : Told told (λ s. TellsRows id weight (rows_in id s.tables) read)) where
  pub rows_told : (result : Result (Checked Table) StoreFault) → IfOk result (λ made. read ≡ AllRows (entry_of made.table).rows) → IfOk result (λ made. flaw_in before id (entry_of made.table).rows ≡ None)
      → IfOk result (λ made. Told told (λ s. (entry_of made.table).rows ≡ rows_in id s.tables))
  rows_told (Ok made) all clear = λ s e. clear_whole before id weight (rows_in id s.tables) (entry_of made.table).rows is (subst (TellsRows id weight (rows_in id s.tables)) all (tells s e)) clear
  rows_told (Err fault) all clear = tt

  pub damage_told : (mapping : Mapping) (damage : Damage) → option_map (damage_at (table_name mapping id)) (flaw_read before id read) ≡ Some damage
      → Told told (λ s. option_map (damage_at (table_name mapping id)) (flaw_in before id (rows_in id s.tables)) ≡ Some damage)
  damage_told mapping damage found s e =
      ap (option_map (damage_at (table_name mapping id))) (read_tells before id weight (rows_in id s.tables) read is (tells s e) ∙ same_flaw before id read) ∙ found
