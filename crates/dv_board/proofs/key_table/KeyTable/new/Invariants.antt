use Rattle.dv_board.proofs.key_table.KeyTable.new.Given as goal

abbrev pub ghosts-begin : goal.ghosts-begin
ghosts-begin g a = record { keys = g.I.KeyItems.keys a.items.now }
