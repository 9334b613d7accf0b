use Rattle.dv_mart.proofs.Vocabulary.{Contains, subst, tables}
use Rattle.dv_mart.proofs.VaultMarts.{hub_within, link_within, status_within}
use Rattle.dv_mart.proofs.whole_tables.put_vault_rows.Goals as goal

pub hub-requires : goal.hub-requires
hub-requires g c = hub_within c.args.vault.now.mapping c.in-Hub.hub (subst (Contains (tables c.args.vault.now.mapping)) c.in-Hub.is c.requires.among)

pub link-requires : goal.link-requires
link-requires g c = link_within c.args.vault.now.mapping c.in-Link.link (subst (Contains (tables c.args.vault.now.mapping)) c.in-Link.is c.requires.among)

pub status-requires : goal.status-requires
status-requires g c = status_within c.args.vault.now.mapping c.in-Status.feed (subst (Contains (tables c.args.vault.now.mapping)) c.in-Status.is c.requires.among)
