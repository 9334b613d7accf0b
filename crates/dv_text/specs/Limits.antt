-- The limit of texts.
use Rattle.std.specs.Prelude.{ℕ}

-- the bytes of a field of a record
abbrev pub most_field_bytes : ℕ
most_field_bytes = 4_096
