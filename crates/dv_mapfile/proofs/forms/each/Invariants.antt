use Rattle.dv_mapfile.proofs.Vocabulary.{drop, items_view, option_map, ◌++◌, ◌≡◌}
use Rattle.dv_catalog.specs.Forms as spec
use Rattle.dv_mapfile.proofs.forms.each.Given as goal

-- what was made of the items so far stands before what is made of the rest
abbrev pub invariant-loop-value : goal.invariant-loop-value
invariant-loop-value g l =
    spec.each g.F.Form.made_of (items_view l.values)
    ≡ option_map (λ rest. l.made.items ++ rest) (spec.each g.F.Form.made_of (items_view (drop l.value-index l.values)))
