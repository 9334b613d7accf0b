-- Pairs of different reference lists with one hash key, among lists in the order of their hash keys and held ones.
use Rattle.std.specs.Prelude.{Bool, true, false, not, ◌&&◌, ◌||◌, List, [], ◌∷◌, ◌++◌, Option, None, Some, if◌then◌else◌, slice_get}
use Rattle.std.specs.List.{cons_option, filter_map}
use Rattle.std.specs.Ordering.{match_ordering, ordering_then}
use Rattle.std.specs.Str.{bytes_eq}
use Rattle.std.specs.declared.cmp.Ordering.{Ordering}
use Rattle.dv_text.specs.declared.rows.Key.{Key}
use Rattle.dv_text.specs.Keys.{refs_eq}
use Rattle.dv_text.specs.Orders.{refs_cmp}
use Rattle.dv_text.specs.Sorting.{sorted_by}
use Rattle.dv_records.specs.Deltas.{Hashed}
use Rattle.dv_hub_link.specs.HashedLists.{HashedList}
use Rattle.dv_hub_link.specs.HeldLists.{list_under}
use Rattle.dv_hub_link.specs.declared.holds_lists.Standing.{Standing}
use Rattle.dv_hub_link.specs.declared.holds_lists.Standing.TheVariants.{Other}
use Rattle.dv_hub_link.specs.declared.rivals.Rivals.{Rivals}

-- by the first list, then by the second one
abbrev pub rivals_cmp : Rivals → Rivals → Ordering
rivals_cmp a b = ordering_then (refs_cmp a.first b.first) (refs_cmp a.second b.second)

-- the pair of two lists; none where they are equal
abbrev pub rivals_of : List Key → List Key → Option Rivals
rivals_of a b = match_ordering (refs_cmp a b) (Some (record { first = a; second = b })) None (Some (record { first = b; second = a }))

-- the pair of two lists with one hash key
abbrev pub neighbours : HashedList → HashedList → Option Rivals
neighbours last next = if bytes_eq last.digest next.digest then rivals_of last.refs next.refs else None

-- the pair of a held list and another one
abbrev pub rivals_with : Option (List Key) → List Key → Option Rivals
rivals_with None refs = None
rivals_with (Some other) refs = rivals_of other refs

-- the pair of a list and the held one with its hash key
abbrev pub held_rival : List Hashed → HashedList → Option Rivals
held_rival held list = rivals_with (list_under list.digest held) list.refs

-- whether two lists are different and have one hash key
abbrev pub clash : HashedList → HashedList → Bool
clash last next = bytes_eq last.digest next.digest && not (refs_eq last.refs next.refs)

-- whether a list and the next one do
abbrev pub has_clash : List HashedList → Bool
has_clash [] = false
has_clash (last ∷ []) = false
has_clash (last ∷ next ∷ rest) = clash last next || has_clash (next ∷ rest)

-- whether another list is held
abbrev pub is_other : Standing → Bool
is_other Other = true
is_other standing = false

-- the pairs of each list and the next one
abbrev pub all_neighbours : List HashedList → List Rivals
all_neighbours [] = []
all_neighbours (last ∷ []) = []
all_neighbours (last ∷ next ∷ rest) = cons_option (neighbours last next) (all_neighbours (next ∷ rest))

-- all pairs
abbrev pub all_rivals : List Hashed → List HashedList → List Rivals
all_rivals held lists = all_neighbours lists ++ filter_map (held_rival held) lists

-- the least pair
abbrev pub least_rivals : List Hashed → List HashedList → Option Rivals
least_rivals held lists = slice_get (sorted_by rivals_cmp (all_rivals held lists)) 0
