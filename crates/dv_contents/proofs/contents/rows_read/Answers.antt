use Rattle.dv_contents.proofs.Vocabulary.{FeedDef, IfOk-weaker, ap, filter_map, map, one_value, row_read, valid_attrs, ◌∙◌}
use Rattle.dv_contents.proofs.ContentFacts.{hub_within, link_within}
use Rattle.dv_contents.proofs.contents.rows_read.Goals as goal

pub hub_rows_read-requires : goal.hub_rows_read-requires
hub_rows_read-requires c = hub_within c.args.lender.now.vault.now.mapping c.feed-definition.result.now.parent c.in-Hub.hub c.feed-definition.ensures.parent c.in-Hub.is

pub link_rows_read-requires : goal.link_rows_read-requires
link_rows_read-requires c = link_within c.args.lender.now.vault.now.mapping c.feed-definition.result.now.parent c.in-Link.link c.feed-definition.ensures.parent c.in-Link.is

pub returns-in-Hub : goal.returns-in-Hub
returns-in-Hub c =
    let vault = c.args.lender.now.vault.now in
    let own = c.feed-definition.result.now in
    let valid_are = ap (map valid_attrs) c.deref.ensures.value ∙ c.in_ok-valid.ensures in
    IfOk-weaker c.hub_rows_read.result _ _
    (λ rows is definition got.
    is own c.args.feed c.args.date c.in-Hub.is valid_are
    ∙ ap (λ (d : FeedDef). filter_map (row_read vault.mapping vault.tables d c.args.feed c.args.date) c.args.parents.now) (one_value _ own definition c.feed-definition.ensures.definition got))
    c.hub_rows_read.ensures

pub returns : goal.returns
returns c =
    let vault = c.args.lender.now.vault.now in
    let own = c.feed-definition.result.now in
    let valid_are = ap (map valid_attrs) c.deref-in-Link.ensures.value ∙ c.in_ok-valid.ensures in
    IfOk-weaker c.link_rows_read.result _ _
    (λ rows is definition got.
    is own c.args.feed c.args.date c.in-Link.is valid_are
    ∙ ap (λ (d : FeedDef). filter_map (row_read vault.mapping vault.tables d c.args.feed c.args.date) c.args.parents.now) (one_value _ own definition c.feed-definition.ensures.definition got))
    c.link_rows_read.ensures
