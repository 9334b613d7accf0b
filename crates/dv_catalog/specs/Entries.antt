-- A mapping as its entries, in declared order.
use Rattle.std.specs.Prelude.{List}
use Rattle.dv_catalog.specs.declared.entries.HubDef.{HubDef}
use Rattle.dv_catalog.specs.declared.entries.LinkDef.{LinkDef}
use Rattle.dv_catalog.specs.declared.entries.FeedDef.{FeedDef}
use Rattle.dv_catalog.specs.declared.entries.PathDef.{PathDef}

pub record Mapping : Type 0 where
  pub hubs : List HubDef
  pub links : List LinkDef
  pub feeds : List FeedDef
  pub paths : List PathDef
