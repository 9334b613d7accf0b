use Rattle.dv_board.proofs.Vocabulary.{get_or, home_of, length, ℕ, ◌<◌, ◌≡◌}
use Rattle.dv_board.proofs.key_table.KeyTable.first_slots.Given as goal

abbrev pub invariant-homes : goal.invariant-homes
invariant-homes g l = (length l.homes ≡ 32) × ((k : ℕ) → k < l.place → get_or l.homes k 0 ≡ home_of (g.I.KeyItems.keys l.self.items) (get_or l.items k 0))
