use Rattle.dv_stage.proofs.Vocabulary.{append-nil, fields_of, norm_field, slice_get, sym, ◌∙◌}
use Rattle.dv_stage.proofs.{RowFacts.map-filter_map-more, rows.texts_at.Goals.in-Some+in_ok-text+in_ok-push, rows.texts_at.Goals.in_default}
use Rattle.dv_stage.proofs.rows.texts_at.Goals as goal

pub loop-place-preserved : goal.loop-place-preserved
loop-place-preserved c =
    let fields = fields_of c.args.row.now in
    let more = map-filter_map-more norm_field (slice_get fields) c.args.places.now c.loop-place.place-index 0 c.loop-place-test.true in
    elim c.match-field_at.branch [
      | in-Some+in_ok-text+in_ok-push w ↦
          w.texts-is ∙ w.in_ok-push.ensures.ok ∙ rw (w.in_ok-text.ensures, c.loop-place.invariant) (sym (rw (← w.in-Some.ensures) at more))
      | in_default w ↦ w.texts-is ∙ c.loop-place.invariant ∙ sym (rw (← w.in_default.ensures) at more ∙ append-nil _)
    ]
