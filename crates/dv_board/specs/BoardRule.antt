-- What holds of a board's one word, the next number, and of the views of its seats between any two steps.
use Rattle.std.specs.Prelude.{◌≡◌, ℕ, ◌+◌, ◌-◌, ◌<◌, ◌≤◌, min, [], ◌∷◌, ◌++◌, slice_index, length, true, false, cond, nat_lt, ◌||◌}
use mathlib.Core.Option.{some}
use lib.ListN.{get_elem?}
use Rattle.atomic_table.specs.Table.{State, Me, Step}
use Rattle.dv_board.specs.Counting.{total, times, once_below}
use Rattle.dv_board.specs.declared.views.Sizes.{Sizes}
use Rattle.dv_board.specs.declared.views.BoardView.{BoardView}

-- the view of a seat that another has taken in: spent, with nothing left
abbrev pub nobody : BoardView
nobody = record { tasks = 0; workers = 0; claims = []; had_none = false; share = 0; is_spent = true }

-- the view of the first seat: the whole share, and nothing drawn
abbrev pub first_view : Sizes → BoardView
first_view k = record { tasks = k.tasks; workers = k.workers; claims = []; had_none = false; share = k.workers; is_spent = false }

-- the share of a view that has noted a None, else 0
abbrev pub noted : BoardView → ℕ
noted v = cond v.had_none v.share 0

-- One view, where the word is n.
pub record Fits (k : Sizes) (n : ℕ) (v : BoardView) : Type 0 where
  -- A spent view has nothing, since only a join spends a view, and it leaves nothing.
  pub spent : v.is_spent ≡ true → v ≡ nobody
  -- The numbers of tasks and of workers are the board's in each other view, since a split copies them and no step changes them.
  pub sizes : v.is_spent ≡ false → (v.tasks ≡ k.tasks) × (v.workers ≡ k.workers)
  -- Its share is at least 1, since a split leaves something on both sides and a join only adds.
  pub some_share : v.is_spent ≡ false → 1 ≤ v.share
  -- A noted None means that the word is above the number of tasks, since the claim that noted it found at least that number and added 1, and the word never falls.
  pub past : v.had_none ≡ true → k.tasks < n

pub record Holds (k : Sizes) (s : State ℕ BoardView) : Type 0 where
  -- There is one word, and no step adds or takes one.
  pub one_word : length s.words ≡ 1
  pub each : (id : ℕ) (v : BoardView) → get_elem? s.views id ≡ some v → Fits k (slice_index s.words 0) v
  -- The shares sum to the workers, since a split cuts a share in two and a join adds two.
  pub shares : total (λ v. v.share) s.views ≡ k.workers
  -- The claims of all views are the numbers below the lesser of the word and the number of tasks, each once, since a claim adds the very number by which the word grows, and none from the number of tasks on.
  pub claimed : (x : ℕ) → total (λ v. times x v.claims) s.views ≡ once_below x (min (slice_index s.words 0) k.tasks)
  -- The word is at most the number of tasks plus the shares of the views that noted a None, since a claim that lifts it further notes one, and a seat that has noted one claims no more.
  pub high : slice_index s.words 0 ≤ k.tasks + total noted s.views

-- the view after a claim that found n
abbrev pub drawn : BoardView → ℕ → BoardView
drawn v n = cond (nat_lt n v.tasks) (record v { claims = v.claims ++ n ∷ [] }) (record v { had_none = true })

-- What a claim that found n tells: the view after it, and that n is above the seat's earlier claims.
abbrev pub Drew : Step ℕ → Me ℕ BoardView → ℕ → Me ℕ BoardView → Type 0
Drew _ me n after = (after ≡ (drawn me.0 n, me.1)) × ((x : ℕ) → 1 ≤ times x me.0.claims → x < n)

-- a split: what the seat keeps
abbrev pub less : ℕ → BoardView → BoardView
less part v = record v { share = v.share - part }

-- and what the new seat has
abbrev pub portion : ℕ → BoardView → BoardView
portion part v = record v { claims = []; share = part }

-- a join: what the seat that stays has
abbrev pub both_of : BoardView → BoardView → BoardView
both_of v w = record v { claims = v.claims ++ w.claims; had_none = v.had_none || w.had_none; share = v.share + w.share }
