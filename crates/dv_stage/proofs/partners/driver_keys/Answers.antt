use Rattle.dv_stage.proofs.Vocabulary.{append-nil, filter_map_more, slice_get, sym, ◌∙◌}
use Rattle.dv_stage.proofs.partners.driver_keys.Goals.{in-Some+in_ok-copy+in_ok-push, in_default}
use Rattle.dv_stage.proofs.partners.driver_keys.Goals as goal

pub loop-place-preserved : goal.loop-place-preserved
loop-place-preserved c =
    let more = filter_map_more (slice_get c.args.row.now.refs) c.items-place-items.result.now c.loop-place.place-index 0 c.loop-place-test.true in
    elim c.match-ref_at.branch [
      | in-Some+in_ok-copy+in_ok-push w ↦
          let here = rw c.items-refs.ensures at w.in-Some.ensures in
          w.keys-is ∙ w.in_ok-push.ensures.ok ∙ rw (w.in_ok-copy.ensures, c.loop-place.invariant) (sym (rw (← here) at more))
      | in_default w ↦
          let none = rw c.items-refs.ensures at w.in_default.ensures in
          w.keys-is ∙ c.loop-place.invariant ∙ sym (rw (← none) at more ∙ append-nil _)
    ]
