use Rattle.dv_contents.proofs.Vocabulary.{[], ap, append-nil, filter_map, inl, inr, key_row, sym, zip, zip_ended, ◌++◌, ◌∙◌, ◌≡◌}
use Rattle.dv_contents.proofs.contents.key_rows.Goals as goal

pub returns : goal.returns
returns c =
    let ended : zip c.loop-row.row-iterator.a.rest.now c.loop-row.row-iterator.b.rest.now ≡ [] = elim c.in-None.ensures.steps [
      | inl (x, both) ↦ zip_ended _ _ (inl both.0)
      | inr (x, both) ↦ zip_ended _ _ (inr both.0)
    ] in
    sym (append-nil c.loop-row.rows.items)
    ∙ ap (λ pairs. c.loop-row.rows.items ++ filter_map (λ (row, valid). key_row row valid) pairs) (sym ended)
    ∙ c.loop-row.invariant
