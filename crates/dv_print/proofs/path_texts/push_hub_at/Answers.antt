use Rattle.dv_print.proofs.Vocabulary.{arith, slice_get_past}
use Rattle.dv_print.proofs.PartColumns.{no_columns}
use Rattle.dv_print.proofs.path_texts.push_hub_at.Goals as goal

pub returns-else-hub-hub_count : goal.returns-else-hub-hub_count
returns-else-hub-hub_count c =
    no_columns c.args.catalog.now c.args.feed.now c.args.hub c.args.header.now (slice_get_past c.args.catalog.now.hubs c.args.hub (omega (arith, c.hub_count.ensures.value)))
