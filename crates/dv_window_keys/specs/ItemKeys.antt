-- The items of a window's keys, as the key table over them sees them.
use Rattle.std.specs.Prelude.{map}
use Rattle.dv_board.specs.declared.views.Keys.{Keys}
use Rattle.dv_window_keys.specs.declared.items.WindowItems.{WindowItems}
use Rattle.dv_window_keys.specs.WindowItems.{item_of, keys_of}

abbrev pub keys_in : WindowItems → Keys
keys_in all = keys_of all.mixing (map item_of all.items.now)
