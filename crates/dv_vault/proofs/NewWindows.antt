-- The parts of a window that is to be opened: no table has rows of it.
use Rattle.dv_vault.proofs.Vocabulary.{AllZip, ArePartsOf, Follow, List, Part, Rows, Table, TableId, TableRows, [], ap, arith, entry_of, is_of_kind, map, no_rows, opened_in, refl, rest_in, row_count, rows_then, sum_by, sum_by-cons, true, whole_in, ◌∙◌, ◌∷◌, ◌≡◌}
use Rattle.dv_vault.proofs.BatchSteps.{then_nothing}
use Rattle.dv_catalog.specs.declared.tables.TableId.TheVariants as ids
use Rattle.dv_records.specs.declared.stores.Rows.TheVariants as of
use Rattle.dv_vault.specs.declared.tables.Table.TheVariants as table

-- lists that are one have one head and one rest
pub first_one : (a b : Rows) (xs ys : List Rows) → a ∷ xs ≡ b ∷ ys → (a ≡ b) × (xs ≡ ys)
first_one a b xs ys e = (cc, cc)

of_kind : (t : Table) (rows : Rows) → Follow (entry_of t).rows rows → (is_of_kind (entry_of t).table (entry_of t).rows ≡ true) × (is_of_kind (entry_of t).table (no_rows (entry_of t).table) ≡ true) × (is_of_kind (entry_of t).table rows ≡ true)
of_kind (table.Hub n t) (of.Hubs rows) follow = (refl, refl, refl)
of_kind (table.Link n t) (of.Links rows) follow = (refl, refl, refl)
of_kind (table.Sat n t) (of.Sats rows) follow = (refl, refl, refl)
of_kind (table.Multi n t) (of.Multis rows) follow = (refl, refl, refl)
of_kind (table.Status n t) (of.Statuses rows) follow = (refl, refl, refl)
of_kind (table.Effect n t) (of.Effects rows) follow = (refl, refl, refl)
of_kind t rows follow = absurd follow

pub new_kinds : (tables : List Table) (parts : List Part) → opened_in parts ≡ map (λ (entry : TableRows). no_rows entry.table) (map entry_of tables) → AllZip Follow (map (λ entry. entry.rows) (map entry_of tables)) (rest_in parts)
    → ArePartsOf (map entry_of tables) parts
new_kinds [] [] none follow = tt
new_kinds [] (part ∷ parts) none follow = absurd follow
new_kinds (t ∷ tables) [] none follow = absurd follow
new_kinds (t ∷ tables) (part ∷ parts) none (here, behind) =
    let (first, rest) = first_one part.opened (no_rows (entry_of t).table) (opened_in parts) (map (λ (entry : TableRows). no_rows entry.table) (map entry_of tables)) none in
    let (own, bare, more) = of_kind t part.rest here in
    (record { rows = own; opened = ap (is_of_kind (entry_of t).table) first ∙ bare; rest = more }, new_kinds tables parts rest behind)

pub new_whole : (entries : List TableRows) (parts : List Part) → opened_in parts ≡ map (λ (entry : TableRows). no_rows entry.table) entries → ArePartsOf entries parts → whole_in parts ≡ rest_in parts
new_whole [] [] none are = refl
new_whole [] (part ∷ parts) none are = absurd are
new_whole (entry ∷ entries) [] none are = absurd are
new_whole (entry ∷ entries) (part ∷ parts) none (here, behind) =
    let (first, rest) = first_one part.opened (no_rows entry.table) (opened_in parts) (map (λ (entry : TableRows). no_rows entry.table) entries) none in
    λ i. (ap (λ rows. rows_then rows part.rest) first ∙ then_nothing entry.table part.rest here.rest) i ∷ new_whole entries parts rest behind i

none_count : (id : TableId) → row_count (no_rows id) ≡ 0
none_count (ids.Hub n) = refl
none_count (ids.Link n) = refl
none_count (ids.Sat n) = refl
none_count (ids.Multi n) = refl
none_count (ids.Status n) = refl
none_count (ids.Effect n) = refl

pub none_counted : (entries : List TableRows) → sum_by row_count (map (λ (entry : TableRows). no_rows entry.table) entries) ≡ 0
none_counted [] = refl
none_counted (entry ∷ entries) =
    let here = none_count entry.table in
    let behind = none_counted entries in
    let all = sum_by-cons row_count (no_rows entry.table) (map (λ (entry : TableRows). no_rows entry.table) entries) in
    omega (arith, here, behind, all)
