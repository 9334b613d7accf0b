use Rattle.dv_hub_link.proofs.Vocabulary.{[], ap, append-nil, beside, inl, inr, map, option_map, sym, zip, ◌++◌, ◌∙◌, ◌≡◌}
use Rattle.dv_hub_link.proofs.Keys.{zip_ended}
use Rattle.dv_hub_link.proofs.told_lists.all_beside.Goals as goal

pub returns : goal.returns
returns g c =
    let ended : zip c.loop-list.list-iterator.a.rest.now c.loop-list.list-iterator.b.rest.now ≡ [] = elim c.in-None.ensures.steps [
      | inl (x, both) ↦ zip_ended _ _ (inl both.0)
      | inr (x, both) ↦ zip_ended _ _ (inr both.0)
    ] in
    sym (append-nil c.loop-list.made.items)
    ∙ ap (λ pairs. c.loop-list.made.items ++ map (λ (list, row). beside list.refs.now (option_map (λ row. g.L.TellsLists.list c.args.told.now row.now) row)) pairs) (sym ended)
    ∙ c.loop-list.invariant
