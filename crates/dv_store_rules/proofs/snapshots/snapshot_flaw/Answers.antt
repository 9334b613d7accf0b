use Rattle.dv_store_rules.proofs.Vocabulary.{SnapHead, Some, ap, arith, heads_weight, length, most_snapshot_weight, refl, slice_get-get_or, snapshot_rule, sum_by_more, sym, take, ◌+◌, ◌∙◌, ◌≡◌, ◌≤◌}
use Rattle.dv_store_rules.proofs.{FirstFlaws.clear_fewer, FirstFlaws.clear_more, FirstFlaws.flaw_is, FirstFlaws.no_flaw, LightSnapshots.light_with}
use Rattle.dv_store_rules.proofs.snapshots.snapshot_flaw.Goals as goal

pub returns-then-not-is_snapshot : goal.returns-then-not-is_snapshot
returns-then-not-is_snapshot c =
    let heads = c.args.heads.now in
    let place = c.loop-place.place in
    let head = c.index-heads-place.result in
    let there = slice_get-get_or heads place head c.loop-place-test.true ∙ ap Some (sym c.index-heads-place.is) in
    sym (flaw_is (snapshot_rule c.args.windows.now) heads _ (record { place = place; numbered = refl; clear = c.loop-place.invariant.0; breaks = (head, there, rw (← c.if-not-is_snapshot.ensures) refl) }))

pub loop-place-preserved : goal.loop-place-preserved
loop-place-preserved c =
    let heads = c.args.heads.now in
    let place = c.loop-place.place in
    let head = c.index-heads-place.result in
    let there = slice_get-get_or heads place head c.loop-place-test.true ∙ ap Some (sym c.index-heads-place.is) in
    let before : c.loop-place.weight ≡ heads_weight (take place heads) = c.loop-place.invariant.1 in
    let weight : c.loop-place.weight + head.weight ≡ heads_weight (take (place + 1) heads) =
    ap (λ n. n + head.weight) before ∙ ap (λ (h : SnapHead). heads_weight (take place heads) + h.weight) c.index-heads-place.is ∙ sym (sum_by_more (λ (h : SnapHead). h.weight) heads place head c.loop-place-test.true) in
    let light : heads_weight (take place heads) + head.weight ≤ most_snapshot_weight = light_with c.args.windows.now (take place heads) head (sym c.if-not-is_snapshot.ensures) in (
      clear_more (snapshot_rule c.args.windows.now) heads place head there (rw (← c.if-not-is_snapshot.ensures) refl) c.loop-place.invariant.0,
      weight,
      omega (arith, light, before),
    )

pub returns : goal.returns
returns c =
    let heads = c.args.heads.now in
    sym (no_flaw (snapshot_rule c.args.windows.now) heads (clear_fewer (snapshot_rule c.args.windows.now) heads (length heads) c.loop-place.place c.loop-place-test.false c.loop-place.invariant.0))
