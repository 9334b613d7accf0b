-- The records of rows of raw tables: of rows with others behind them they are those of both.
use Rattle.dv_mart.proofs.Vocabulary.{Bor, Effect, Effects, Hub, Hubs, IfSome, Link, Links, Multi, Multis, None, Option, Rows, Sat, Sats, Some, Status, Statuses, TableId, [], append-nil, is_of_kind, map-append, option_map, option_map_or, raw_records, rows_behind, rows_then, sym, true, ◌++◌, ◌≡◌}

pub records_then : (table : TableId) (a b : Rows) → is_of_kind table a ≡ true → is_of_kind table b ≡ true → raw_records (rows_then a b) ≡ raw_records a ++ raw_records b
records_then (Hub n) (Hubs a) (Hubs b) k l = map-append _ a b
records_then (Link n) (Links a) (Links b) k l = map-append _ a b
records_then (Sat n) (Sats a) (Sats b) k l = map-append _ a b
records_then (Multi n) (Multis a) (Multis b) k l = map-append _ a b
records_then (Status n) (Statuses a) (Statuses b) k l = map-append _ a b
records_then (Effect n) (Effects a) (Effects b) k l = map-append _ a b
records_then table a b k l = cc

-- also where there may be none behind
pub records_behind : (table : TableId) (rows : Rows) (behind : Option (Bor Rows)) → is_of_kind table rows ≡ true → IfSome behind (λ more. is_of_kind table more.now ≡ true)
    → raw_records rows ++ option_map_or (λ more. raw_records more.now) behind [] ≡ raw_records (rows_behind rows (option_map (λ more. more.now) behind))
records_behind table rows None kind kinds = append-nil (raw_records rows)
records_behind table rows (Some more) kind kinds = sym (records_then table rows more.now kind kinds)
