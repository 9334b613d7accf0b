use Rattle.dv_pit.proofs.Vocabulary.{List, Mapping, TableRows, ap, hub_feeds, map, pit_read, told, ◌∙◌}
use Rattle.dv_pit.proofs.{PitTells.pit_tells, PitCells.table_of}
use Rattle.dv_pit.proofs.pits.pit_rows.Goals as goal

pub returns-clause-read : goal.returns-clause-read
returns-clause-read c =
    let feeds = ap (map told) c.as_slice.ensures.value ∙ c.in_ok-feeds.ensures.feeds ∙ ap (λ (m : Mapping). hub_feeds m c.args.hub) c.catalog-catalog.ensures.value in
    table_of c.args.vault.now.mapping c.args.vault.now.tables c.args.hub c.args.date c.hub.result.now.rows (map told c.as_slice.result.now) c.in_ok-rows.rows c.add_cells.new.rows
    c.hub.ensures c.in_ok-rows.ensures feeds c.in_ok-add_cells.ensures

pub returns-clause-pit : goal.returns-clause-pit
returns-clause-pit c hashes sealed has =
    let mapping = c.args.vault.now.mapping in
    returns-clause-read c
    ∙ ap (λ (tables : List TableRows). pit_read mapping tables c.args.hub c.args.date) has.tables_are
    ∙ pit_tells mapping hashes sealed c.args.hub c.args.date (rw c.catalog-catalog.ensures.value at c.note_valid.ensures) has.valid c.requires
