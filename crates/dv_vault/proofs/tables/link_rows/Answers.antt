use Rattle.dv_vault.proofs.Vocabulary.{All, All-map, IsLeastClash, Link, LinkRow, Links, List, Rows, ap, delivered, deliveries, err_from_is_err_and, hashes_of, link_hashed, list_all-map, nat_le, subst, sym, ◌∙◌, ◌≡◌}
use Rattle.dv_vault.proofs.{Stamped.link_delta_load, TableItems.link_items, DeliverySets.collides_as, DeliverySets.link_apart_same, DeliverySets.link_clash_same, DeliverySets.link_rows_same, DeliverySets.set_of_link}
use Rattle.dv_vault.proofs.tables.link_rows.Goals as goal

pub delta-requires-clause-items : goal.delta-requires-clause-items
delta-requires-clause-items g c κs within =
    let mapping = c.args.catalog.now in
    let window = c.args.window.now.window.now in
    set_of_link mapping (hashes_of g.H.KeyDigest.function) c.args.link window (delivered c.in_ok-items.items) (c.in_ok-items.ensures {u = tt}).items (link_items mapping window c.requires.window c.args.link c.requires.link)
    (g.N.HubNames.names c.args.names.now)

pub returns-clause-rows : goal.returns-clause-rows
returns-clause-rows g c =
    let mapping = c.args.catalog.now in
    let window = c.args.window.now.window.now in
    ap Links (
    (c.in_ok-rows.ensures {u = tt}).rows
    ∙ link_rows_same mapping (hashes_of g.H.KeyDigest.function) c.args.link window (delivered c.in_ok-items.items) (c.in_ok-items.ensures {u = tt}).items (link_items mapping window c.requires.window c.args.link c.requires.link)
    (g.N.HubNames.names c.args.names.now) window.load c.args.table.now.rows (c.in_ok-rows.ensures {u = tt}).apart)

pub returns-clause-apart : goal.returns-clause-apart
returns-clause-apart g c =
    let mapping = c.args.catalog.now in
    let window = c.args.window.now.window.now in
    link_apart_same mapping (hashes_of g.H.KeyDigest.function) c.args.link window (delivered c.in_ok-items.items) (c.in_ok-items.ensures {u = tt}).items (link_items mapping window c.requires.window c.args.link c.requires.link)
    (g.N.HubNames.names c.args.names.now) c.args.table.now.rows (c.in_ok-rows.ensures {u = tt}).apart

pub returns-in_err-rows-clause-collision : goal.returns-in_err-rows-clause-collision
returns-in_err-rows-clause-collision g c =
    let mapping = c.args.catalog.now in
    let hashes = hashes_of g.H.KeyDigest.function in
    let window = c.args.window.now.window.now in
    let p = err_from_is_err_and c.from_residual-in_err-rows.result c.from_residual-in_err-rows.ensures.1 in
    rw (p.1, p.2)
    (collides_as (List LinkRow) Rows c.in_err-rows.field-0.0
    (IsLeastClash (link_hashed mapping hashes (g.N.HubNames.names c.args.names.now) c.args.table.now.rows (delivered c.in_ok-items.items)))
    (IsLeastClash (link_hashed mapping hashes (g.N.HubNames.names c.args.names.now) c.args.table.now.rows (deliveries mapping (Link c.args.link) window)))
    (link_clash_same mapping hashes c.args.link window (delivered c.in_ok-items.items) (c.in_ok-items.ensures {u = tt}).items (link_items mapping window c.requires.window c.args.link c.requires.link) (g.N.HubNames.names c.args.names.now) c.args.table.now.rows)
    c.in_err-rows.ensures.collision)

pub returns-clause-stamped : goal.returns-clause-stamped
returns-clause-stamped g c =
    All-map (λ load. load ≡ c.args.window.now.window.now.load) (λ (row : LinkRow). row.load) c.in_ok-rows.rows
    (subst (All (λ (row : LinkRow). row.load ≡ c.args.window.now.window.now.load)) (sym ((c.in_ok-rows.ensures {u = tt}).rows))
    (link_delta_load c.args.catalog.now (hashes_of g.H.KeyDigest.function) c.args.window.now.window.now.load c.args.table.now.rows (delivered c.in_ok-items.items)))

pub delta-requires-clause-dated : goal.delta-requires-clause-dated
delta-requires-clause-dated g c κs within = sym (list_all-map (λ load. nat_le load c.args.window.now.window.now.load) (λ (row : LinkRow). row.load) c.args.table.now.rows) ∙ c.requires.dated
