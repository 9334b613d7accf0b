use Rattle.dv_mart.proofs.Vocabulary.{Bor, List, NRow, OnOk, [], ap, append_assoc, is_some, row_at, shown_attrs, subst, yes_or_no, ℕ, ◌++◌, ◌∙◌, ◌∷◌, ◌≡◌}
use Rattle.dv_mart.proofs.HubRows.{some_told}
use Rattle.dv_mart.proofs.hub_columns.HubColumn.push_cell.Goals as goal

pub returns : goal.returns
returns c =
    let feed = c.args.self.now.feed.definition.now in
    let seen = c.row-row.ensures in
    let present = c.is_some.ensures ∙ some_told (λ (row : Bor NRow). row.now) c.row-row.result ∙ ap is_some seen in
    let shown = shown_attrs feed (row_at c.args.place c.args.self.now) in
    subst (λ (all : List (List ℕ)). OnOk c.push_attrs.result (c.push_attrs.new.fields ≡ all))
    ((λ i. c.in_ok-push_yes_or_no.ensures i ++ shown_attrs feed (seen i))
    ∙ append_assoc c.args.fields.now (yes_or_no c.is_some.result ∷ []) shown
    ∙ (λ i. c.args.fields.now ++ yes_or_no (present i) ∷ shown))
    c.push_attrs.ensures
