use Rattle.dv_vault.proofs.Vocabulary.{Links, entries_of, entry_of, is_link, link_rows, refl, sym}
use Rattle.dv_vault.proofs.VaultFacts.{found_none, if_none, seen_none, seen_rows}
use Rattle.dv_catalog.specs.declared.tables.TableId.TheVariants as ids
use Rattle.dv_vault.proofs.raw_tables.RawTables.link_at.Goals as goal

pub returns-in_err-table-clause-none : goal.returns-in_err-table-clause-none
returns-in_err-table-clause-none c =
    if_none c.from_residual.result (found_none (ids.Link c.args.i) (entries_of c.args.self.now) (sym c.in_err-table.ensures))

pub returns-clause-some : goal.returns-clause-some
returns-clause-some c =
    seen_rows (ids.Link c.args.i) Links link_rows (λ rows. refl) (entries_of c.args.self.now) (entry_of c.in_ok-table.field-0.now) c.as_link.result c.in_ok-table.ensures c.as_link.ensures.some

pub returns-clause-none : goal.returns-clause-none
returns-clause-none c =
    seen_none (ids.Link c.args.i) is_link refl (entries_of c.args.self.now) (entry_of c.in_ok-table.field-0.now) c.as_link.result c.in_ok-table.ensures c.as_link.ensures.none
