-- What the tables hold, and how they grow by a window.
use Rattle.dv_laws.proofs.Vocabulary.{Contains, Hashes, HoldsKeys, HoldsLists, Hub, HubRow, HubTable, Hubs, IsApart, Link, LinkRow, LinkTable, Links, List, Mapping, PartialEnds, TableId, Window, [], ap, arith, backwards, batch_adds, common_steps, flat_map, grown, hub_has, hub_row, hub_rows}
use Rattle.dv_laws.proofs.Vocabulary.{link_has, link_row, link_rows, loaded, nat_tests, offered_refs, reverse, reverse-append, row_count, rows_in, rows_then, subst, sum_by, sym, table_after, table_after-newest, table_batch, tables, vault, vault_holds, ℕ, ◌++◌, ◌+◌, ◌∙◌, ◌∷◌, ◌≡◌}

pub hub_holds : (mapping : Mapping) (hashes : Hashes) (hub : ℕ) (windows : List Window) (rows : List HubRow) → table_after mapping hashes (record { windows = windows }) (HubTable hub) ≡ Hubs rows
    → IsApart hashes (flat_map (offered_refs mapping (Hub hub)) windows) → HoldsKeys mapping hashes hub windows rows
hub_holds mapping hashes hub windows rows table apart = subst (HoldsKeys mapping hashes hub windows) (ap hub_rows table) (record { only = hub_row mapping hub hashes windows; each = hub_has mapping hub hashes windows apart })

pub link_holds : (mapping : Mapping) (hashes : Hashes) (link : ℕ) (windows : List Window) (rows : List LinkRow) → table_after mapping hashes (record { windows = windows }) (LinkTable link) ≡ Links rows
    → IsApart hashes (flat_map (offered_refs mapping (Link link)) windows) → HoldsLists mapping hashes link windows rows
link_holds mapping hashes link windows rows table apart = subst (HoldsLists mapping hashes link windows) (ap link_rows table) (record { only = link_row mapping link hashes windows; each = link_has mapping link hashes windows apart })

pub table_grows : (mapping : Mapping) (hashes : Hashes) (sealed : List Window) (next : Window) (table : TableId) → Contains (tables mapping) table
    → rows_in table (vault mapping hashes (sealed ++ next ∷ [])) ≡ rows_then (rows_in table (vault mapping hashes sealed)) (table_batch mapping hashes table (backwards sealed) next)
table_grows mapping hashes sealed next table has =
    let turned : reverse (sealed ++ next ∷ []) ≡ next ∷ reverse sealed = reverse-append sealed (next ∷ []) in
    (vault_holds mapping hashes (sealed ++ next ∷ []) table).rows has
    ∙ ap (λ windows. table_after mapping hashes (record { windows = windows }) table) turned
    ∙ table_after-newest mapping hashes (backwards sealed) next table
    ∙ ap (λ rows. rows_then rows (table_batch mapping hashes table (backwards sealed) next)) (sym ((vault_holds mapping hashes sealed table).rows has))

pub count-push : (mapping : Mapping) (hashes : Hashes) (sealed : List Window) (next : Window)
    → sum_by (λ entry. row_count entry.rows) (vault mapping hashes (sealed ++ next ∷ [])) ≡ sum_by (λ entry. row_count entry.rows) (vault mapping hashes sealed) + loaded mapping hashes sealed next
count-push mapping hashes sealed next =
    rw (reverse-append sealed (next ∷ [])) (grown row_count mapping hashes (backwards sealed) next (λ table. (batch_adds mapping hashes (backwards sealed) next table).count) (tables mapping))

-- no table has the batch, and all have
pub partial-ends : (mapping : Mapping) (hashes : Hashes) (sealed : List Window) (next : Window) → PartialEnds mapping hashes sealed next
partial-ends mapping hashes sealed next = grind (arith, common_steps, nat_tests)
