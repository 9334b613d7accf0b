use Rattle.dv_mart.proofs.Vocabulary.{Bor, NRow, ap, is_some, shown_attrs, ◌∙◌}
use Rattle.dv_mart.proofs.HubRows.{some_told}
use Rattle.dv_mart.proofs.hub_columns.HubColumn.cell.Goals as goal

pub returns : goal.returns
returns c =
    let seen = c.row-row.ensures in
    λ i. record {
      present = (c.is_some.ensures ∙ some_told (λ (row : Bor NRow). row.now) c.row-row.result ∙ ap is_some seen) i;
      attrs = (c.in_ok-attrs.ensures ∙ ap (shown_attrs c.args.self.now.feed.definition.now) seen) i;
    }
