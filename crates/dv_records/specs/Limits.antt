-- The limits of windows, of the vault, of snapshots and of paths.
use Rattle.std.specs.Prelude.{ℕ}
-- ---- windows

pub use Rattle.dv_catalog.specs.Limits.{most_extract_bytes, most_field_bytes, most_records, most_window_bytes, most_window_records}

-- ---- the vault

-- the windows of a vault
abbrev pub most_windows : ℕ
most_windows = 10_000

-- what a vault weighs
abbrev pub most_weight : ℕ
most_weight = 1_073_741_824

-- ---- snapshots

-- the snapshots of a vault
abbrev pub most_snapshots : ℕ
most_snapshots = 1_000

-- what all snapshots weigh together
abbrev pub most_snapshot_weight : ℕ
most_snapshot_weight = 268_435_456

-- the rows of a path mart
abbrev pub most_path_rows : ℕ
most_path_rows = 1_000_000
