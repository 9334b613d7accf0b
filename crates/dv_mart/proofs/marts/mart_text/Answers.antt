use Rattle.dv_mart.proofs.Vocabulary.{Ok, ap, subst, sym}
use Rattle.dv_mart.proofs.{OfferedTables.CanBe, OfferedTables.can_be, VaultMarts.kind_of}
use Rattle.dv_mart.proofs.marts.mart_text.Goals as goal

pub feed_mart_text-requires : goal.feed_mart_text-requires
feed_mart_text-requires c = subst (CanBe c.args.vault.now.mapping) c.in-Feed.is (can_be c.args.vault.now.mapping c.args.what.now c.requires.offered)

pub period_mart_text-requires : goal.period_mart_text-requires
period_mart_text-requires c = subst (CanBe c.args.vault.now.mapping) c.in-Period.is (can_be c.args.vault.now.mapping c.args.what.now c.requires.offered)

pub table_text-requires : goal.table_text-requires
table_text-requires c = subst (CanBe c.args.vault.now.mapping) c.in-Table.is (can_be c.args.vault.now.mapping c.args.what.now c.requires.offered)

pub hub_mart_text-requires : goal.hub_mart_text-requires
hub_mart_text-requires c = subst (CanBe c.args.vault.now.mapping) c.in-Hub.is (can_be c.args.vault.now.mapping c.args.what.now c.requires.offered)

pub pit_mart_text-requires : goal.pit_mart_text-requires
pit_mart_text-requires c = subst (CanBe c.args.vault.now.mapping) c.in-Pit.is (can_be c.args.vault.now.mapping c.args.what.now c.requires.offered)

pub path_mart_text-requires : goal.path_mart_text-requires
path_mart_text-requires c = subst (CanBe c.args.vault.now.mapping) c.in-Path.is (can_be c.args.vault.now.mapping c.args.what.now c.requires.offered)

pub bridge_mart_text-requires : goal.bridge_mart_text-requires
bridge_mart_text-requires c = subst (CanBe c.args.vault.now.mapping) c.in-Bridge.is (can_be c.args.vault.now.mapping c.args.what.now c.requires.offered)

pub returns-in_ok-table_text-in-Table-clause-text : goal.returns-in_ok-table_text-in-Table-clause-text
returns-in_ok-table_text-in-Table-clause-text c hashes sealed zeros has =
    let can = subst (CanBe c.args.vault.now.mapping) c.in-Table.is (can_be c.args.vault.now.mapping c.args.what.now c.requires.offered) in
    rw c.in-Table.is (ap Ok (sym (c.in_ok-table_text-in-Table.ensures (kind_of hashes sealed c.args.vault.now has c.in-Table.table can))))
