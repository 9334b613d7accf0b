use Rattle.dv_contents.proofs.Vocabulary.{Mapping, Some, ap, is_hub, link_hubs, list_all, slice_get, subst, sym, valid_link, ◌∙◌, ◌≡◌}
use Rattle.dv_contents.proofs.lenders.Lender.link_hubs.Goals as goal

pub returns-clause-value : goal.returns-clause-value
returns-clause-value c =
    c.items.ensures ∙ ap link_hubs (sym (subst (λ (m : Mapping). slice_get m.links c.args.link ≡ Some c.link.result.now) c.catalog.ensures.value c.link.ensures))

pub returns-clause-declared : goal.returns-clause-declared
returns-clause-declared c =
    let mapping = c.args.self.now.vault.now.mapping in
    let got = subst (λ (m : Mapping). slice_get m.links c.args.link ≡ Some c.link.result.now) c.catalog.ensures.value c.link.ensures in
    ap (list_all (is_hub mapping)) c.items.ensures ∙ (valid_link mapping c.args.self.now.valid c.args.link c.link.result.now got).in_range
