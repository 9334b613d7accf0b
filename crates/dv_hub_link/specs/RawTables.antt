-- The tables of hubs and links as raw tables.
use Rattle.std.specs.Prelude.{◌++◌, IsTrue}
use Rattle.dv_records.specs.declared.stores.Rows.{Rows}
use Rattle.dv_records.specs.declared.stores.Rows.TheVariants.{Hubs, Links}
use Rattle.dv_hub_link.specs.HubRows.{are_hub_rows}
use Rattle.dv_hub_link.specs.LinkRows.{are_link_rows}

-- rows may stand behind those of a hub
abbrev pub HubsFollow : Rows → Rows → Type 0
HubsFollow (Hubs rows) (Hubs more) = IsTrue (are_hub_rows (rows ++ more))
HubsFollow rows more = ⊥

-- rows may stand behind those of a link
abbrev pub LinksFollow : Rows → Rows → Type 0
LinksFollow (Links rows) (Links more) = IsTrue (are_link_rows (rows ++ more))
LinksFollow rows more = ⊥
