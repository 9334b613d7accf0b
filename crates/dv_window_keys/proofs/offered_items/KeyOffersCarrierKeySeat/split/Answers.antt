use Rattle.dv_window_keys.proofs.Vocabulary.{HaveOffered, Offerer, ap, item_of, map, subst, sym, ◌∙◌}
use Rattle.dv_window_keys.proofs.OfferedItems.{none_offered}
use Rattle.dv_window_keys.proofs.offered_items.KeyOffersCarrierKeySeat.split.Goals as goal

pub split-requires-clause-mine : goal.split-requires-clause-mine
split-requires-clause-mine c κs within = c.requires.some.1.0

pub returns-clause-kept : goal.returns-clause-kept
returns-clause-kept c = λ done has.
    let left = c.split.ensures.left in (
      (ap (λ (s : Offerer). s.table) left ∙ has.0.0, ap (λ (s : Offerer). s.keys) left ∙ has.0.1),
      subst (HaveOffered (map item_of c.args.self.now.items.now) c.args.self.now.ranges.now done) (sym (ap (λ (s : Offerer). s.offers) left)) has.1,
    )

pub returns-clause-none : goal.returns-clause-none
returns-clause-none c =
    let right = c.split.ensures.right in
    let mine = c.requires.some.1.0 in (
      (ap (λ (s : Offerer). s.table) right ∙ mine.0, ap (λ (s : Offerer). s.keys) right ∙ mine.1),
      none_offered (map item_of c.args.self.now.items.now) c.args.self.now.ranges.now c.split.result.offers (ap (λ (s : Offerer). s.offers) right),
    )
