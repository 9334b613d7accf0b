use Rattle.dv_mapfile.proofs.Vocabulary.{map, members_view, ◌≡◌}
use Rattle.dv_mapfile.proofs.Keys.{first_unknown}
use Rattle.dv_catalog.specs.Shapes as shape
use Rattle.dv_mapfile.proofs.fields.unknown_key.Given as goal

-- the first unknown key is among those left
abbrev pub invariant-loop-key : goal.invariant-loop-key
invariant-loop-key l =
    shape.unknown_key (map (λ name. name.now) l.fn.known) (members_view l.fn.table.entries) ≡ first_unknown l.fn.known l.key-iterator
