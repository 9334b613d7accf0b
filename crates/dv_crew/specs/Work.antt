-- What a worker draws, and what it has done.
use Rattle.std.specs.Prelude.{◌≡◌, ℕ, ◌≤◌, List, [], Result, map, All, true, false}
use Rattle.dv_board.specs.Boards.{BoardId, Claimant}
use Rattle.dv_crew.specs.Orders.{counterpart}
use Rattle.dv_crew.specs.Results.{DoesTasks, GivesWith, IsReadyWith}
use Rattle.dv_crew.specs.declared.orders.Order.{Order}
use Rattle.dv_text.specs.declared.failure.Memory.{Memory}
use Rattle.dv_crew.specs.declared.crews.Done.{Done}
use Rattle.dv_crew.specs.declared.crews.Worker.{Worker}

-- the numbers of what was done
abbrev pub numbers : {T : Type 0} → List (Done T) → List ℕ
numbers done = map (λ one. one.number) done

-- a seat of a board that has so much of the workers and has drawn nothing
abbrev pub new_seat : BoardId → ℕ → Claimant
new_seat board share = record { board = board; claims = []; had_none = false; share = share }

-- Each of these has the result of the task for which its number stands.
abbrev pub AreDone : {T : Type 0} → (ℕ → T → Type 0) → Order → ℕ → List (Done T) → Type 0
AreDone gives order tasks done = All (λ one. gives (counterpart order tasks one.number) one.out) done

-- the tasks for which drawn numbers stand
abbrev pub tasks_drawn : Order → ℕ → List ℕ → List ℕ
tasks_drawn order tasks claims = map (counterpart order tasks) claims

-- A worker that has drawn until no number was left, and what was done of all the numbers that it drew.
pub record HasWorked {S T : Type 0} (has_done : S → List ℕ → Type 0) (gives : ℕ → T → Type 0) (order : Order) (tasks : ℕ) (board : BoardId) (share : ℕ) (worker : Worker S) (done : List (Done T)) : Type 0 where
  pub mine : worker.seat.board ≡ board
  pub ended : worker.seat.had_none ≡ true
  pub whole : worker.seat.share ≡ share
  pub drew : numbers done ≡ worker.seat.claims
  pub each : AreDone gives order tasks done
  pub did : has_done worker.own (tasks_drawn order tasks worker.seat.claims)

-- It has worked with a share of the board, and what it carries has the share that it had.
abbrev pub HasWorkedWith : {S T : Type 0} → (S → List ℕ → Type 0) → (S → ℕ) → (ℕ → S → Result (S × T) Memory → Type 0) → Order → ℕ → BoardId → ℕ → S → Worker S → List (Done T) → Type 0
HasWorkedWith has_done share_of post order tasks board share own worker done =
    HasWorked has_done (GivesWith post) order tasks board share worker done × (share_of worker.own ≡ share_of own)

-- So many workers may begin: the call may do the tasks of the board, the seat has drawn nothing, and what is carried has a share for each and no work.
abbrev pub MayWork : {S T : Type 0} → (S → List ℕ → Type 0) → (S → ℕ) → (ℕ → S → Type 0) → (ℕ → S → Result (S × T) Memory → Type 0) → ℕ → BoardId → ℕ → Claimant → S → Type 0
MayWork has_done share_of pre post tasks board workers seat own =
    (1 ≤ workers) × IsReadyWith has_done pre tasks × DoesTasks share_of has_done post tasks × (board.tasks ≡ tasks)
    × (seat ≡ new_seat board workers) × has_done own [] × (workers ≤ share_of own) × (share_of own ≤ 64)
