use Rattle.dv_app.proofs.Vocabulary.{Contains, hub_within, link_within, status_within, subst, tables}
use Rattle.dv_app.proofs.counts.table_count.Goals as goal

pub hub-requires : goal.hub-requires
hub-requires c = hub_within c.args.vault.now.mapping c.in-Hub.hub (subst (Contains (tables c.args.vault.now.mapping)) c.in-Hub.is c.requires.among)

pub link-requires : goal.link-requires
link-requires c = link_within c.args.vault.now.mapping c.in-Link.link (subst (Contains (tables c.args.vault.now.mapping)) c.in-Link.is c.requires.among)

pub status-requires : goal.status-requires
status-requires c = status_within c.args.vault.now.mapping c.in-Status.feed (subst (Contains (tables c.args.vault.now.mapping)) c.in-Status.is c.requires.among)
