use Rattle.dv_board.proofs.Vocabulary.{AreMarked, length, slots_items, ◌≡◌}
use Rattle.dv_board.proofs.listing.mark_taken.Given as goal

abbrev pub invariant-loop-slot : goal.invariant-loop-slot
invariant-loop-slot l = record {
  len : length l.marks.items ≡ length l.initial.marks.items;
  marks : AreMarked (slots_items l.closed.words) l.slot l.marks.items;
}
