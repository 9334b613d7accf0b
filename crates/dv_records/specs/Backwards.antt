-- Windows from the newest to the oldest, as tables and their batches are told: not to be taken for sealed windows, which
-- stand in the order in which they were sealed.
use Rattle.std.specs.Prelude.{List, ◌∷◌, reverse}
use Rattle.dv_text.specs.declared.rows.Window.{Window}

-- windows, the newest first
pub record Backwards : Type 0 where
  pub windows : List Window

-- sealed windows, turned round
abbrev pub backwards : List Window → Backwards
backwards sealed = record { windows = reverse sealed }

-- one more window, newer than all of them
abbrev pub with_newest : Window → Backwards → Backwards
with_newest newest older = record { windows = newest ∷ older.windows }
