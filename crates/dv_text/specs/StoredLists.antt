-- The items of a list, of which the first is held in place while it is the only one.
use Rattle.std.specs.Prelude.{List, []}
use Rattle.dv_text.specs.declared.lists.Stored.{Stored}
use Rattle.dv_text.specs.declared.lists.Stored.TheVariants.{Empty, One, Many}

-- the items that are held
abbrev pub stored_items : {T : Type 0} → Stored T → List T
stored_items Empty = []
stored_items (One item) = item
stored_items (Many items) = items.items
