use Rattle.dv_window_keys.proofs.Vocabulary.{HaveOffered, Offerer, ap, item_of, map, subst, sym, ◌++◌, ◌∙◌}
use Rattle.dv_window_keys.proofs.OfferedItems.{both_offered}
use Rattle.dv_window_keys.proofs.offered_items.KeyOffersCarrierKeySeat.join.Goals as goal

pub join-requires-clause-seat : goal.join-requires-clause-seat
join-requires-clause-seat c κs within = c.requires.some.1.0

pub join-requires-clause-other : goal.join-requires-clause-other
join-requires-clause-other c κs within = c.requires.others.1.0

pub returns-clause-both : goal.returns-clause-both
returns-clause-both c = λ done more has others.
    let items = map item_of c.args.self.now.items.now in
    let ranges = c.args.self.now.ranges.now in
    let put = c.join.ensures in (
      (ap (λ (s : Offerer). s.table) put ∙ has.0.0, ap (λ (s : Offerer). s.keys) put ∙ has.0.1),
      subst (HaveOffered items ranges (done ++ more)) (sym (ap (λ (s : Offerer). s.offers) put))
          (both_offered items ranges done more c.args.own.now.offers c.args.other.offers has.1 others.1),
    )
