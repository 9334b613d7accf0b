use Rattle.dv_hub_link.proofs.Vocabulary.{Contains-map, HashedDelivery, List, Some, delivered, delivery_of, got_member, slice_get, subst, sym, ◌∙◌, ◌≡◌}
use Rattle.dv_hub_link.proofs.{Brought.missing_first, Hashables.table_known}
use Rattle.dv_hub_link.proofs.additions.missing_for.Goals as goal

pub missing_refs-requires : goal.missing_refs-requires
missing_refs-requires c =
    let got : slice_get c.args.items.now 0 ≡ Some c.in-Some.first.now = subst (λ (items : List HashedDelivery). slice_get items 0 ≡ Some c.in-Some.first.now) c.items.ensures (sym c.in-Some.ensures.value) in
    table_known c.args.catalog.now c.note_valid.ensures (delivered c.args.items.now) c.requires (delivery_of c.in-Some.first.now)
    (Contains-map delivery_of c.args.items.now c.in-Some.first.now (got_member c.args.items.now 0 c.in-Some.first.now got))

pub returns : goal.returns
returns c =
    c.in_ok-missing.ensures ∙ sym (missing_first c.args.catalog.now c.args.items.now c.in-Some.first.now (subst (λ (items : List HashedDelivery). slice_get items 0 ≡ Some c.in-Some.first.now) c.items.ensures (sym c.in-Some.ensures.value)))
