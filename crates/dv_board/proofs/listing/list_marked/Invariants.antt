use Rattle.dv_board.proofs.Vocabulary.{length, marked, take, ◌≡◌, ◌≤◌}
use Rattle.dv_board.proofs.listing.list_marked.Given as goal

abbrev pub invariant-loop-item : goal.invariant-loop-item
invariant-loop-item l = record {
  len : length l.room.items ≡ length l.initial.room.items;
  listed : l.listed ≤ l.item;
  so_far : take l.listed l.room.items ≡ marked l.marks l.item;
}
