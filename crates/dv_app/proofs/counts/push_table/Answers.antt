use Rattle.dv_app.proofs.Vocabulary.{Mapping, is_table_of, of_mapping, subst, sym, true, ◌≡◌}
use Rattle.dv_app.proofs.counts.push_table.Goals as goal

pub table_name-requires : goal.table_name-requires
table_name-requires c =
    subst (λ (m : Mapping). is_table_of m c.args.table ≡ true) (sym c.catalog.ensures.value) (of_mapping c.args.vault.now.mapping c.args.table c.requires.among)
