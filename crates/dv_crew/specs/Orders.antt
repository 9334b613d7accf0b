-- The order in which tasks are begun.
use Rattle.std.specs.Prelude.{ℕ, ◌-◌}
use Rattle.dv_crew.specs.declared.orders.Order.{Order}
use Rattle.dv_crew.specs.declared.orders.Order.TheVariants.{Declared, Reverse}

-- the task for which a drawn number stands, of so many tasks: the one with that number, or the one as far from the last; so also the number for a task
abbrev pub counterpart : Order → ℕ → ℕ → ℕ
counterpart Declared tasks number = number
counterpart Reverse tasks number = tasks - 1 - number
