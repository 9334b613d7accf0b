use Rattle.dv_vault.proofs.Vocabulary.{ap, are_hub_rows, arith, entries_of, hub_rows_in, list_all, map, ◌∙◌}
use Rattle.dv_vault.proofs.{HubLists.hubs_more, HubLists.kept_more, VaultFacts.hub_there}
use Rattle.dv_vault.proofs.hub_keys.hub_keys.Goals as goal

pub hub_at-requires : goal.hub_at-requires
hub_at-requires c =
    hub_there c.args.catalog.now (entries_of c.args.raw.now) c.requires c.loop-i.i (omega (arith, c.loop-i-test.true, c.hub_count-i-end.ensures.value))

pub loop-i-preserved : goal.loop-i-preserved
loop-i-preserved c = (
  ap (map (λ hub. hub.now.rows)) (c.in_ok-push.ensures {u = tt}).items
      ∙ hubs_more (λ hub. hub_rows_in hub (entries_of c.args.raw.now)) c.loop-i.i c.loop-i.hubs.items c.hub_at.result c.loop-i.invariant.0 c.hub_at.ensures.value,
  ap (λ (items : _). list_all are_hub_rows (map (λ hub. hub.now.rows) items)) (c.in_ok-push.ensures {u = tt}).items
      ∙ kept_more c.loop-i.hubs.items c.hub_at.result c.loop-i.invariant.1 c.hub_at.ensures.kept,
  omega (arith, c.loop-i-test.true),
)
