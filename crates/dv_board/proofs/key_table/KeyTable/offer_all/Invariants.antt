use Rattle.dv_board.proofs.Vocabulary.{take, ◌++◌, ◌≡◌}
use Rattle.dv_board.proofs.key_table.KeyTable.offer_all.Given as goal

abbrev pub invariant-offers : goal.invariant-offers
invariant-offers g l = l.seat ≡ record l.initial.seat { offers = l.initial.seat.offers ++ take l.place l.items }
