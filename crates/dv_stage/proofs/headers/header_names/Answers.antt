use Rattle.dv_stage.proofs.Vocabulary.{[], fields_of, map-append, norm_field, refl, take, take_got, ◌∷◌}
use Rattle.dv_stage.proofs.headers.header_names.Goals as goal

pub loop-place-preserved : goal.loop-place-preserved
loop-place-preserved c =
    let fields = fields_of c.args.header.now in
    let place = c.loop-place.place in
    let field = c.field_in.result.now in
    rw (c.in_ok-push.ensures.ok, c.in_ok-name.ensures, take_got fields place field c.field_in.ensures, map-append norm_field (take place fields) (field ∷ []), c.loop-place.invariant) refl
