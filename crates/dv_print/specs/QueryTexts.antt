-- A query's rule as it is printed: its code, its name and its fields.
use Rattle.std.specs.Prelude.{ℕ, List, ◌++◌, Option, Some, None, codes}
use Rattle.std.specs.Fmt.{decimal}
use Rattle.dv_text.specs.Stamps.{stamp_text}
use Rattle.dv_catalog.specs.Printed.{printed_field}
use Rattle.dv_catalog.specs.RuleTexts.{field_text}
use Rattle.dv_print.specs.declared.query_rules.QueryRule.{QueryRule}
use Rattle.dv_print.specs.declared.query_rules.QueryRule.TheVariants.{UnknownMart, BadDate, TooLarge, Future, NoSnapshot, UnknownTable, SnapshotsFull, NothingOpen}

-- a stamp; none is printed as `none`
abbrev pub stamp_or_none : Option ℕ → List ℕ
stamp_or_none None = codes "none"
stamp_or_none (Some stamp) = stamp_text stamp

abbrev pub query_text : QueryRule → List ℕ
query_text (UnknownMart name) = codes "Q1 UnknownMart" ++ printed_field (codes "name") name
query_text (BadDate text) = codes "Q2 BadDate" ++ printed_field (codes "text") text
query_text (TooLarge path) = codes "Q3 TooLarge" ++ printed_field (codes "path") path
query_text (Future last) = codes "Q4 Future" ++ field_text (codes "last") (stamp_or_none last)
query_text (NoSnapshot date) = codes "Q5 NoSnapshot" ++ field_text (codes "date") (stamp_text date)
query_text (UnknownTable name) = codes "Q6 UnknownTable" ++ printed_field (codes "name") name
query_text (SnapshotsFull weight) = codes "Q7 SnapshotsFull" ++ field_text (codes "weight") (decimal weight)
query_text NothingOpen = codes "Q8 NothingOpen"
