use Rattle.dv_hub_link.proofs.Vocabulary.{LentList, List, [], ap, hashed_list, hashes_of, list_beside, map, told, ◌++◌, ◌∙◌, ◌∷◌}
use Rattle.dv_hub_link.proofs.Brought.{told_in_order}
use Rattle.dv_hub_link.proofs.hashed_lists.hashed_lists.Goals as goal

pub returns : goal.returns
returns g c =
    let hashes = hashes_of g.H.KeyDigest.function in
    ap (map told) c.in_ok-lists.ensures
    ∙ told_in_order hashes c.args.missing.now c.args.feed c.args.items.now c.requires.hashed _
    ((rw c.items.ensures at (c.in_ok-add_items.ensures ∙ ap (λ all. all ++ map list_beside c.args.items.now) c.in_ok-add_missing.ensures))
    ∙ ap (λ (start : List LentList). (map told start ++ hashed_list hashes c.args.missing.now c.args.feed ∷ []) ++ map list_beside c.args.items.now) c.new-made.ensures.items)
