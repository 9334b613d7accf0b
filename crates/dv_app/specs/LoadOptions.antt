-- How windows are loaded, as the code has it.
use Rattle.std.specs.Prelude.{ℕ}
use Rattle.dv_crew.specs.declared.orders.Order.{Order}
use Rattle.dv_app.specs.declared.load_options.LoadOptions.{LoadOptions}

-- by so many workers, in this order
abbrev pub loads_by : LoadOptions → ℕ × Order
loads_by options = (options.workers, options.order)
