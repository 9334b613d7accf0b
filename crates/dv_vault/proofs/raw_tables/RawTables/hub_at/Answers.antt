use Rattle.dv_vault.proofs.Vocabulary.{Hubs, entries_of, entry_of, hub_rows, is_hub, refl, sym}
use Rattle.dv_vault.proofs.VaultFacts.{found_none, if_none, seen_none, seen_rows}
use Rattle.dv_catalog.specs.declared.tables.TableId.TheVariants as ids
use Rattle.dv_vault.proofs.raw_tables.RawTables.hub_at.Goals as goal

pub returns-in_err-table-clause-none : goal.returns-in_err-table-clause-none
returns-in_err-table-clause-none c =
    if_none c.from_residual.result (found_none (ids.Hub c.args.i) (entries_of c.args.self.now) (sym c.in_err-table.ensures))

pub returns-clause-some : goal.returns-clause-some
returns-clause-some c =
    seen_rows (ids.Hub c.args.i) Hubs hub_rows (λ rows. refl) (entries_of c.args.self.now) (entry_of c.in_ok-table.field-0.now) c.as_hub.result c.in_ok-table.ensures c.as_hub.ensures.some

pub returns-clause-none : goal.returns-clause-none
returns-clause-none c =
    seen_none (ids.Hub c.args.i) is_hub refl (entries_of c.args.self.now) (entry_of c.in_ok-table.field-0.now) c.as_hub.result c.in_ok-table.ensures c.as_hub.ensures.none
