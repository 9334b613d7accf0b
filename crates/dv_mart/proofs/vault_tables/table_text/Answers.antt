use Rattle.dv_mart.proofs.Vocabulary.{Contains, Effect, Effects, Hub, Hubs, IfOk-weaker, Link, Links, Multi, Multis, Sat, Sats, Status, Statuses, effect_rows, link_rows, multi_rows, sat_rows, status_rows, subst, tables, ◌∙◌}
use Rattle.dv_records.specs.ReadBack.{hub_rows}
use Rattle.dv_mart.proofs.VaultMarts.{effects_back, hub_within, hubs_back, link_within, links_back, multis_back, said_for, sats_back, status_within, statuses_back, table_here}
use Rattle.dv_mart.proofs.vault_tables.table_text.Goals as goal

pub hub-requires : goal.hub-requires
hub-requires c = hub_within c.args.vault.now.mapping c.in-Hub.hub (subst (Contains (tables c.args.vault.now.mapping)) c.in-Hub.is c.requires)

pub table_text-requires : goal.table_text-requires
table_text-requires c = table_here c.args.vault.now.mapping c.catalog-catalog.result.now (Hub c.in-Hub.hub) c.args.table c.catalog-catalog.ensures.value c.in-Hub.is c.requires

pub returns-in-Hub : goal.returns-in-Hub
returns-in-Hub c =
    IfOk-weaker c.table_text.result _ _
    (said_for (Hub c.in-Hub.hub) c.args.table Hubs hub_rows c.args.vault.now.mapping c.args.vault.now.tables c.args.date
    (hubs_back c.in-Hub.hub _) c.in-Hub.is _ (c.rows.ensures.value ∙ c.hub.ensures) _ c.catalog-catalog.ensures.value)
    c.table_text.ensures

pub link-requires : goal.link-requires
link-requires c = link_within c.args.vault.now.mapping c.in-Link.link (subst (Contains (tables c.args.vault.now.mapping)) c.in-Link.is c.requires)

pub table_text-requires-in-Link : goal.table_text-requires-in-Link
table_text-requires-in-Link c = table_here c.args.vault.now.mapping c.catalog-catalog.result.now (Link c.in-Link.link) c.args.table c.catalog-catalog.ensures.value c.in-Link.is c.requires

pub returns-in-Link : goal.returns-in-Link
returns-in-Link c =
    IfOk-weaker c.table_text-in-Link.result _ _
    (said_for (Link c.in-Link.link) c.args.table Links link_rows c.args.vault.now.mapping c.args.vault.now.tables c.args.date
    (links_back c.in-Link.link _) c.in-Link.is _ (c.rows-in-Link.ensures.value ∙ c.link.ensures) _ c.catalog-catalog.ensures.value)
    c.table_text-in-Link.ensures

pub table_text-requires-in-Some : goal.table_text-requires-in-Some
table_text-requires-in-Some c = table_here c.args.vault.now.mapping c.catalog-catalog.result.now (Sat c.in-Sat.feed) c.args.table c.catalog-catalog.ensures.value c.in-Sat.is c.requires

pub returns-in-Some : goal.returns-in-Some
returns-in-Some c =
    IfOk-weaker c.table_text-in-Some.result _ _
    (said_for (Sat c.in-Sat.feed) c.args.table Sats sat_rows c.args.vault.now.mapping c.args.vault.now.tables c.args.date
    (sats_back c.in-Sat.feed _) c.in-Sat.is _ (c.rows-in-Some.ensures.value ∙ (c.in-Some.ensures {u = tt}).rows) _ c.catalog-catalog.ensures.value)
    c.table_text-in-Some.ensures

pub table_text-requires-in-Some-multi : goal.table_text-requires-in-Some-multi
table_text-requires-in-Some-multi c = table_here c.args.vault.now.mapping c.catalog-catalog.result.now (Multi c.in-Multi.feed) c.args.table c.catalog-catalog.ensures.value c.in-Multi.is c.requires

pub returns-in-Some-multi : goal.returns-in-Some-multi
returns-in-Some-multi c =
    IfOk-weaker c.table_text-in-Some-multi.result _ _
    (said_for (Multi c.in-Multi.feed) c.args.table Multis multi_rows c.args.vault.now.mapping c.args.vault.now.tables c.args.date
    (multis_back c.in-Multi.feed _) c.in-Multi.is _ (c.rows-in-Some-multi.ensures.value ∙ (c.in-Some-multi.ensures {u = tt}).rows) _ c.catalog-catalog.ensures.value)
    c.table_text-in-Some-multi.ensures

pub status-requires : goal.status-requires
status-requires c = status_within c.args.vault.now.mapping c.in-Status.feed (subst (Contains (tables c.args.vault.now.mapping)) c.in-Status.is c.requires)

pub table_text-requires-in-Status : goal.table_text-requires-in-Status
table_text-requires-in-Status c = table_here c.args.vault.now.mapping c.catalog-catalog.result.now (Status c.in-Status.feed) c.args.table c.catalog-catalog.ensures.value c.in-Status.is c.requires

pub returns-in-Status : goal.returns-in-Status
returns-in-Status c =
    IfOk-weaker c.table_text-in-Status.result _ _
    (said_for (Status c.in-Status.feed) c.args.table Statuses status_rows c.args.vault.now.mapping c.args.vault.now.tables c.args.date
    (statuses_back c.in-Status.feed _) c.in-Status.is _ (c.rows-in-Status.ensures.value ∙ c.status.ensures) _ c.catalog-catalog.ensures.value)
    c.table_text-in-Status.ensures

pub table_text-requires-in-Some-effect : goal.table_text-requires-in-Some-effect
table_text-requires-in-Some-effect c = table_here c.args.vault.now.mapping c.catalog-catalog.result.now (Effect c.in-Effect.feed) c.args.table c.catalog-catalog.ensures.value c.in-Effect.is c.requires

pub returns-in-Some-effect : goal.returns-in-Some-effect
returns-in-Some-effect c =
    IfOk-weaker c.table_text-in-Some-effect.result _ _
    (said_for (Effect c.in-Effect.feed) c.args.table Effects effect_rows c.args.vault.now.mapping c.args.vault.now.tables c.args.date
    (effects_back c.in-Effect.feed _) c.in-Effect.is _ (c.rows-in-Some-effect.ensures.value ∙ (c.in-Some-effect.ensures {u = tt}).rows) _ c.catalog-catalog.ensures.value)
    c.table_text-in-Some-effect.ensures
