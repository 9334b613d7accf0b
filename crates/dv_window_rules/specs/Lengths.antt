-- The extract that is too long, before the rule is made of it.
use Rattle.std.specs.Prelude.{ℕ, ◌+◌, ◌||◌, nat_lt, List, [], ◌∷◌, Option, Some, None, length, if◌then◌else◌}
use Rattle.dv_catalog.specs.declared.windows.ExtractIn.{ExtractIn}
use Rattle.dv_records.specs.Limits.{most_extract_bytes, most_window_bytes}

-- the first extract that is too long, or with which the window is, where so many bytes stand before
abbrev pub first_long : ℕ → List ExtractIn → Option ExtractIn
first_long bytes [] = None
first_long bytes (extract ∷ extracts) =
    if nat_lt most_extract_bytes (length extract.bytes) || nat_lt most_window_bytes (bytes + length extract.bytes) then Some extract
    else first_long (bytes + length extract.bytes) extracts
