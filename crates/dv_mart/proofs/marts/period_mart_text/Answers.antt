use Rattle.dv_mart.proofs.Vocabulary.{Mapping, effect_within, length, subst, sym, ◌<◌}
use Rattle.dv_mart.proofs.marts.period_mart_text.Goals as goal

pub feed-requires : goal.feed-requires
feed-requires c = subst (λ (m : Mapping). c.args.feed < length m.feeds) (sym c.catalog.ensures.value) (effect_within c.args.vault.now.mapping c.args.feed c.requires)
