-- The premises, window by window and row by row.
use Rattle.dv_shown.proofs.Vocabulary.{All-contains, All-from_recursion, AllByRecursion, Contains, Extract, IsInLoadOrder, IsStrictlySortedBy, Key, List, NRow, [], bare_row, codes, false, history, is_missing, key, key_row, keys_come_and_go, refl, row_cmp, ◌∷◌, ◌≡◌}
use Rattle.dv_shown.proofs.premises_met.Goals as goal

-- a row of a key alone that isn't missing
IsAlone : NRow → Type 0
IsAlone row = (key : Key) × (row ≡ key_row key) × (is_missing key ≡ false)

AreAlone : Extract → Type 0
AreAlone extract = (row : NRow) → Contains extract.rows row → IsAlone row

each_row : (rows : List NRow) → AllByRecursion IsAlone rows → (row : NRow) → Contains rows row → IsAlone row
each_row rows all row has = All-contains IsAlone rows row (All-from_recursion IsAlone rows all) has

a1 : IsAlone (bare_row (codes "A1"))
unfolding IsAlone
a1 = (key (codes "A1"), refl, refl)

a2 : IsAlone (bare_row (codes "A2"))
unfolding IsAlone
a2 = (key (codes "A2"), refl, refl)

a3 : IsAlone (bare_row (codes "A3"))
unfolding IsAlone
a3 = (key (codes "A3"), refl, refl)

alone : (extract : Extract) → Contains (history 0 keys_come_and_go) extract → AreAlone extract
unfolding AreAlone
alone extract has =
    All-contains AreAlone (history 0 keys_come_and_go) extract
    (All-from_recursion AreAlone (history 0 keys_come_and_go) (
      each_row (bare_row (codes "A1") ∷ bare_row (codes "A2") ∷ []) (a1, (a2, tt)),
      (each_row (bare_row (codes "A2") ∷ bare_row (codes "A3") ∷ []) (a2, (a3, tt)), (each_row [] tt, (each_row (bare_row (codes "A1") ∷ []) (a1, tt), tt))),
    ))
    has

Ascends : Extract → Type 0
Ascends extract = IsStrictlySortedBy row_cmp extract.rows

ascending : (extract : Extract) → Contains (history 0 keys_come_and_go) extract → Ascends extract
unfolding Ascends IsStrictlySortedBy
ascending extract has =
    All-contains Ascends (history 0 keys_come_and_go) extract
    (All-from_recursion Ascends (history 0 keys_come_and_go) (((refl, tt), (tt, tt)), (((refl, tt), (tt, tt)), (tt, ((tt, tt), tt))))) has

in_order : IsInLoadOrder keys_come_and_go
unfolding IsStrictlySortedBy
in_order = ((refl, (refl, (refl, tt))), ((refl, (refl, tt)), ((refl, tt), (tt, tt))))

pub returns : goal.returns
unfolding IsAlone AreAlone Ascends
returns c = record { order = in_order; keys = record { alone = alone; ascending = ascending }; free = refl }
