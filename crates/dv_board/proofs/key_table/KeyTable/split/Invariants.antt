use Rattle.dv_board.proofs.key_table.KeyTable.split.Given as goal

abbrev pub ghosts-cut : goal.ghosts-cut
ghosts-cut g a = record { share = a.share }
