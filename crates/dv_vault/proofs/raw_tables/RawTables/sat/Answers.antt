use Rattle.dv_vault.proofs.Vocabulary.{Sats, entries_of, entry_of, is_sat, refl, sat_rows, sym}
use Rattle.dv_vault.proofs.VaultFacts.{found_none, if_none, seen_none, seen_rows, seen_there}
use Rattle.dv_catalog.specs.declared.tables.TableId.TheVariants as ids
use Rattle.dv_vault.proofs.raw_tables.RawTables.sat.Goals as goal

pub returns-in_err-table-clause-none : goal.returns-in_err-table-clause-none
returns-in_err-table-clause-none c =
    if_none c.from_residual.result (found_none (ids.Sat c.args.feed) (entries_of c.args.self.now) (sym c.in_err-table.ensures))

pub returns-clause-some : goal.returns-clause-some
returns-clause-some c =
    seen_rows (ids.Sat c.args.feed) Sats sat_rows (λ rows. refl) (entries_of c.args.self.now) (entry_of c.in_ok-table.field-0.now) c.as_sat.result c.in_ok-table.ensures c.as_sat.ensures.some

pub returns-clause-none : goal.returns-clause-none
returns-clause-none c =
    seen_none (ids.Sat c.args.feed) is_sat refl (entries_of c.args.self.now) (entry_of c.in_ok-table.field-0.now) c.as_sat.result c.in_ok-table.ensures c.as_sat.ensures.none

pub returns-clause-there : goal.returns-clause-there
returns-clause-there c = seen_there (ids.Sat c.args.feed) (entries_of c.args.self.now) (entry_of c.in_ok-table.field-0.now) c.as_sat.result c.in_ok-table.ensures
