use Rattle.dv_vault.proofs.Vocabulary.{Bool, Contains, List, Some, Table, TableId, TableRows, ap, entry_of, false≢true, found_at, map, map_member, none_placed, option_map, placed_within, same_table, slice_get, slice_get-map, subst, sym, table_eq, table_eq-itself, ◌∙◌, ◌≡◌}
use Rattle.dv_vault.proofs.jobs.WindowJob.batch.Goals as goal

pub unreachable-requires : goal.unreachable-requires
unreachable-requires g c =
    let job = c.args.self.now in
    let is : Table → Bool = λ table. table_eq (entry_of table).table c.args.id in
    let among = subst (λ (ids : List TableId). Contains ids c.args.id) (sym job.tables_are) c.requires in
    let (entry, entry_in, named) = map_member (λ (entry : TableRows). entry.table) (map entry_of job.tables.now) c.args.id among in
    let (table, table_in, made) = map_member entry_of job.tables.now entry entry_in in
    let none = none_placed is job.tables.now (sym c.find_place.ensures ∙ c.in-None.is) table table_in in
    let same : (entry_of table).table ≡ c.args.id = ap (λ (e : TableRows). e.table) made ∙ named in
    false≢true (sym none ∙ ap (λ t. table_eq t c.args.id) same ∙ table_eq-itself c.args.id)

pub batch_at-requires-clause-place : goal.batch_at-requires-clause-place
batch_at-requires-clause-place g c κs b = placed_within (λ (table : Table). table_eq (entry_of table).table c.args.id) c.args.self.now.tables.now c.in-Some.place (sym c.find_place.ensures ∙ c.in-Some.is)

pub returns-clause-table : goal.returns-clause-table
returns-clause-table g c =
    let tables = c.args.self.now.tables.now in
    let place = c.in-Some.place in
    let found = found_at (λ (table : Table). table_eq (entry_of table).table c.args.id) tables place (sym c.find_place.ensures ∙ c.in-Some.is) in
    ap (λ n. option_map (λ (entry : TableRows). entry.table) (slice_get (map entry_of tables) n)) c.batch_at.ensures.place
    ∙ ap (option_map (λ (entry : TableRows). entry.table)) (slice_get-map entry_of tables place ∙ ap (option_map entry_of) found.there)
    ∙ ap (λ t. Some t) (same_table (entry_of found.item).table c.args.id found.passes)
