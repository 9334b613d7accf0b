use Rattle.dv_vault.proofs.Vocabulary.{All, All-map, Hub, HubRow, Hubs, IsLeastClash, List, Rows, ap, delivered, deliveries, err_from_is_err_and, hashes_of, hub_hashed, list_all-map, nat_le, subst, sym, ◌∙◌, ◌≡◌}
use Rattle.dv_vault.proofs.{Stamped.hub_delta_load, TableItems.hub_items, DeliverySets.collides_as, DeliverySets.hub_apart_same, DeliverySets.hub_clash_same, DeliverySets.hub_rows_same, DeliverySets.set_of_hub}
use Rattle.dv_vault.proofs.tables.hub_rows.Goals as goal

pub delta-requires-clause-items : goal.delta-requires-clause-items
delta-requires-clause-items g c κs within =
    let mapping = c.args.catalog.now in
    let window = c.args.window.now.window.now in
    set_of_hub mapping (hashes_of g.H.KeyDigest.function) c.args.hub window (delivered c.in_ok-items.items) (c.in_ok-items.ensures {u = tt}).items (hub_items mapping window c.requires.window c.args.hub c.requires.hub)

pub returns-clause-rows : goal.returns-clause-rows
returns-clause-rows g c =
    let mapping = c.args.catalog.now in
    let window = c.args.window.now.window.now in
    ap Hubs (
    (c.in_ok-rows.ensures {u = tt}).rows
    ∙ hub_rows_same mapping (hashes_of g.H.KeyDigest.function) c.args.hub window (delivered c.in_ok-items.items) (c.in_ok-items.ensures {u = tt}).items (hub_items mapping window c.requires.window c.args.hub c.requires.hub)
    window.load c.args.table.now.rows (c.in_ok-rows.ensures {u = tt}).apart)

pub returns-clause-apart : goal.returns-clause-apart
returns-clause-apart g c =
    let mapping = c.args.catalog.now in
    let window = c.args.window.now.window.now in
    hub_apart_same mapping (hashes_of g.H.KeyDigest.function) c.args.hub window (delivered c.in_ok-items.items) (c.in_ok-items.ensures {u = tt}).items (hub_items mapping window c.requires.window c.args.hub c.requires.hub)
    c.args.table.now.rows (c.in_ok-rows.ensures {u = tt}).apart

pub returns-in_err-rows-clause-collision : goal.returns-in_err-rows-clause-collision
returns-in_err-rows-clause-collision g c =
    let mapping = c.args.catalog.now in
    let hashes = hashes_of g.H.KeyDigest.function in
    let window = c.args.window.now.window.now in
    let p = err_from_is_err_and c.from_residual-in_err-rows.result c.from_residual-in_err-rows.ensures.1 in
    rw (p.1, p.2)
    (collides_as (List HubRow) Rows c.in_err-rows.field-0.0 (IsLeastClash (hub_hashed mapping hashes c.args.table.now.rows (delivered c.in_ok-items.items))) (IsLeastClash (hub_hashed mapping hashes c.args.table.now.rows (deliveries mapping (Hub c.args.hub) window)))
    (hub_clash_same mapping hashes c.args.hub window (delivered c.in_ok-items.items) (c.in_ok-items.ensures {u = tt}).items (hub_items mapping window c.requires.window c.args.hub c.requires.hub) c.args.table.now.rows)
    c.in_err-rows.ensures.collision)

pub returns-clause-stamped : goal.returns-clause-stamped
returns-clause-stamped g c =
    All-map (λ load. load ≡ c.args.window.now.window.now.load) (λ (row : HubRow). row.load) c.in_ok-rows.rows
    (subst (All (λ (row : HubRow). row.load ≡ c.args.window.now.window.now.load)) (sym ((c.in_ok-rows.ensures {u = tt}).rows))
    (hub_delta_load c.args.catalog.now (hashes_of g.H.KeyDigest.function) c.args.window.now.window.now.load c.args.table.now.rows (delivered c.in_ok-items.items)))

pub delta-requires-clause-dated : goal.delta-requires-clause-dated
delta-requires-clause-dated g c κs within = sym (list_all-map (λ load. nat_le load c.args.window.now.window.now.load) (λ (row : HubRow). row.load) c.args.table.now.rows) ∙ c.requires.dated
