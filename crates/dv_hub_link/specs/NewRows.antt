-- The rows of reference lists that a table has not yet.
use Rattle.std.specs.Prelude.{ℕ, Option}
use Rattle.std.specs.Option.{option_map}
use Rattle.dv_text.specs.Keys.{Hashes}
use Rattle.dv_catalog.specs.Entries.{Mapping}
use Rattle.dv_catalog.specs.Feeds.{source}
use Rattle.dv_records.specs.declared.raw_rows.HubRow.{HubRow}
use Rattle.dv_records.specs.declared.raw_rows.LinkRow.{LinkRow}
use Rattle.dv_records.specs.Hubs.{each_hash, only_key}
use Rattle.dv_hub_link.specs.HashedLists.{HashedList}

-- the hub row of a list of one key
abbrev pub hub_row_of : Mapping → ℕ → HashedList → Option HubRow
hub_row_of mapping load hashed =
    option_map
    (λ key. record { digest = hashed.digest; load = load; source = source mapping hashed.feed; key = key })
    (only_key hashed.refs)

-- the link row of a list
abbrev pub link_row : Mapping → Hashes → ℕ → HashedList → LinkRow
link_row mapping hashes load hashed = record { digest = hashed.digest; load = load; source = source mapping hashed.feed; hubs = each_hash hashes hashed.refs }
