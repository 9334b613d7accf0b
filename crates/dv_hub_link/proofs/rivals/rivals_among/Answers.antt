use Rattle.dv_hub_link.proofs.Vocabulary.{sym, ◌∙◌}
use Rattle.dv_hub_link.proofs.Clashes.{none_among}
use Rattle.dv_hub_link.proofs.rivals.rivals_among.Goals as goal

pub returns-then-not-has_other : goal.returns-then-not-has_other
returns-then-not-has_other g c =
    none_among (g.T.HoldsLists.held c.args.table.now) c.args.lists.now c.args.standings.now c.requires (sym c.has_clash.ensures ∙ c.if-not-has_clash.true) (sym c.has_other.ensures ∙ c.if-not-has_other.true)
