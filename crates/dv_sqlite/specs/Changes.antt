-- Two statements in one transaction.
use Rattle.std.specs.Prelude.{◌≡◌, ℕ, true, List, Ok}
use Rattle.sqlite.specs.Order.{Row}
use Rattle.sqlite.specs.Store.{Ghosts}
use Rattle.sqlite.specs.Effect.{Database}
use Rattle.sqlite.specs.State.{Executes}
use Rattle.sqlite.specs.Held.{Held, state}

-- The database is what the two statements make of the one before, each of which changed one row.
pub record ChangedBoth {S : Type 0} (g : Ghosts S) (first : List ℕ) (first_values : Row) (second : List ℕ) (second_values : Row) (old : Held S) (db : Database) : Type 0 where
  pub mid : Held S
  pub last : Held S
  pub one : Executes first first_values (state g (record old { in_transaction = true })) (state g mid) (Ok 1)
  pub two : Executes second second_values (state g mid) (state g last) (Ok 1)
  pub is : db ≡ (state g last).now
