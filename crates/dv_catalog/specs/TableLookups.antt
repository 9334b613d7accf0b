-- Look-ups of raw tables.
use Rattle.std.specs.Prelude.{ℕ, Bool, List, Option, length, find, nat_lt}
use Rattle.std.specs.Str.{bytes_eq}
use Rattle.dv_catalog.specs.declared.tables.TableId.{TableId}
use Rattle.dv_catalog.specs.declared.tables.TableId.TheVariants.{Hub, Link, Sat, Multi, Status, Effect}
use Rattle.dv_catalog.specs.Entries.{Mapping}
use Rattle.dv_catalog.specs.Tables.{table_name, tables}

-- the hub, link or feed of a table is in the mapping
abbrev pub is_table_of : Mapping → TableId → Bool
is_table_of mapping (Hub n) = nat_lt n (length mapping.hubs)
is_table_of mapping (Link n) = nat_lt n (length mapping.links)
is_table_of mapping (Sat n) = nat_lt n (length mapping.feeds)
is_table_of mapping (Multi n) = nat_lt n (length mapping.feeds)
is_table_of mapping (Status n) = nat_lt n (length mapping.feeds)
is_table_of mapping (Effect n) = nat_lt n (length mapping.feeds)

-- the raw table with a name
abbrev pub table_named : Mapping → List ℕ → Option TableId
table_named mapping name = find (λ table. bytes_eq (table_name mapping table) name) (tables mapping)
