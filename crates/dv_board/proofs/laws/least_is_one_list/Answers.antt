use Rattle.dv_board.proofs.OneList.{least_is_one_list}
use Rattle.dv_board.proofs.laws.least_is_one_list.Goals as goal

pub returns : goal.returns
returns c = least_is_one_list
