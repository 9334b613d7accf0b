use Rattle.dv_desk.proofs.Vocabulary.{Ok, drop, items_view, ◌++◌, ◌+◌, ◌>>=◌, ◌≡◌}
use Rattle.dv_desk.specs.Posted as spec
use Rattle.dv_desk.proofs.posted.extracts_in.Given as goal

-- the extracts so far stand before those of the items that are left
abbrev pub invariant-loop-item : goal.invariant-loop-item
invariant-loop-item l = record {
  counted : l.number ≡ l.item-index + 1;
  so_far : spec.extracts_in 1 (items_view l.fn.items)
      ≡ (spec.extracts_in l.number (items_view (drop l.item-index l.items)) >>= (λ rest. Ok (l.extracts.items ++ rest)));
}
