use Rattle.dv_hub_link.proofs.Vocabulary.{[], ap, append-nil, filter_map, inl, inr, map, new_beside, sym, told, zip, ◌++◌, ◌∙◌, ◌≡◌}
use Rattle.dv_hub_link.proofs.Keys.{zip_ended}
use Rattle.dv_hub_link.proofs.additions.kept.Goals as goal

pub returns : goal.returns
returns c =
    let ended : zip c.loop-list.list-iterator.a.rest.now c.loop-list.list-iterator.b.rest.now ≡ [] = elim c.in-None.ensures.steps [
      | inl (x, both) ↦ zip_ended _ _ (inl both.0)
      | inr (x, both) ↦ zip_ended _ _ (inr both.0)
    ] in
    sym (append-nil (map told c.loop-list.made))
    ∙ ap (λ pairs. map told c.loop-list.made ++ filter_map (λ (list, standing). new_beside list standing) pairs) (sym ended)
    ∙ c.loop-list.invariant
