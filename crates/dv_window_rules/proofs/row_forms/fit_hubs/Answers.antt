use Rattle.dv_window_rules.proofs.Vocabulary.{length, ◌∙◌}
use Rattle.dv_window_rules.proofs.RowForms.{fit_hubs_told, not_equal, other_count}
use Rattle.dv_window_rules.proofs.row_forms.fit_hubs.Goals as goal

pub returns-then-hubs-refs : goal.returns-then-hubs-refs
returns-then-hubs-refs c = c.each_fits.ensures ∙ fit_hubs_told c.args.catalog.now c.args.hubs.now c.args.refs.now c.if-hubs-refs.true

pub returns-else-hubs-refs : goal.returns-else-hubs-refs
returns-else-hubs-refs c = not_equal (length c.args.hubs.now) (length c.args.refs.now) c.if-hubs-refs.false ∙ other_count c.args.catalog.now c.args.hubs.now c.args.refs.now c.if-hubs-refs.false
