-- The reference lists that a table holds, each under its hash key.
use Rattle.std.specs.Prelude.{ℕ, Bool, true, not, ◌&&◌, List, [], ◌∷◌, Option, Some, None, find, if◌then◌else◌, option_map}
use Rattle.std.specs.List.{list_any}
use Rattle.std.specs.Str.{bytes_eq}
use Rattle.dv_text.specs.declared.rows.Key.{Key}
use Rattle.dv_text.specs.Keys.{refs_eq}
use Rattle.dv_records.specs.Deltas.{Hashed}
use Rattle.dv_hub_link.specs.HashedLists.{HashedList}
use Rattle.dv_hub_link.specs.declared.holds_lists.Standing.{Standing}
use Rattle.dv_hub_link.specs.declared.holds_lists.Standing.TheVariants.{Held, New, Other}

-- the list with a hash key
abbrev pub list_under : List ℕ → List Hashed → Option (List Key)
list_under digest held = option_map (λ list. list.refs) (find (λ list. bytes_eq list.digest digest) held)

-- whether a list has a hash key
abbrev pub is_held : List ℕ → List Hashed → Bool
is_held digest held = list_any (λ list. bytes_eq list.digest digest) held

-- how a list stands to the one that has its hash key
abbrev pub beside : List Key → Option (List Key) → Standing
beside refs None = New
beside refs (Some other) = if refs_eq other refs then Held else Other

-- how a list with its hash key stands to those that are held
abbrev pub standing : List Hashed → HashedList → Standing
standing held list = beside list.refs (list_under list.digest held)

-- no two lists have one hash key
abbrev pub are_held_apart : List Hashed → Bool
are_held_apart [] = true
are_held_apart (list ∷ held) = not (is_held list.digest held) && are_held_apart held
