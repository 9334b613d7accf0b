-- A board and its seats, as contracts see them.
use Rattle.std.specs.Prelude.{ℕ, List, Bool}
use Rattle.atomic_table.specs.Seated.{TableId}
use Rattle.dv_board.specs.declared.views.BoardView.{BoardView}

-- which board it is, its number of tasks and its number of workers
pub record BoardId : Type 0 where
  pub table : TableId
  pub tasks : ℕ
  pub workers : ℕ

-- a seat: its board, the numbers that it has drawn, whether it has had a None, and its share of the workers
pub record Claimant : Type 0 where
  pub board : BoardId
  pub claims : List ℕ
  pub had_none : Bool
  pub share : ℕ

-- the seat of a table that has this view
abbrev pub claimant_of : TableId → BoardView → Claimant
claimant_of table v = record {
  board = record { table = table; tasks = v.tasks; workers = v.workers };
  claims = v.claims;
  had_none = v.had_none;
  share = v.share;
}
