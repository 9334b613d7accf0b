use Rattle.dv_board.proofs.Vocabulary.{arith}
use Rattle.dv_board.proofs.KeyClosing.{begins_table}
use Rattle.dv_board.proofs.key_table.begin.Goals as goal

pub load-requires : goal.load-requires
load-requires g c =
    let size = c.requires.size in
    (c.requires.mine, omega (arith, size), begins_table _ _ _ _ _ c.requires.fresh size.0)
