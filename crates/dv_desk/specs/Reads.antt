-- Why a request that is only read is answered so, whatever the keeper tells.
use Rattle.std.specs.Prelude.{◌≡◌, ◌≤◌, ℕ, List, Some, Result, Ok, Err}
use Rattle.dv_text.specs.Causes.{Rose}
use Rattle.dv_text.specs.Keys.{DigestFunction, Hashes, hashes_of}
use Rattle.dv_text.specs.Told.{Told}
use Rattle.dv_print.specs.declared.query_rules.QueryRule.TheVariants.{BadDate}
use Rattle.dv_mart.specs.declared.whats.What.{What}
use Rattle.dv_records.specs.declared.snapshots.SnapId.{SnapId}
use Rattle.dv_records.specs.declared.snapshots.SnapId.TheVariants.{Pit}
use Rattle.dv_records.specs.declared.stores.Store.{Store}
use Rattle.dv_records.specs.States.{State}
use Rattle.dv_window.specs.declared.stored.StoredFault.{StoredFault}
use Rattle.dv_window.specs.declared.stored.StoredFault.TheVariants as stored
use Rattle.dv_window.specs.StoredTexts.{IsRowOf, IsStoredDamage}
use Rattle.dv_window.specs.Offices.{Agrees, Held, IsIn, StandsFor}
use Rattle.dv_desk.specs.declared.answers.Answer.{Answer}
use Rattle.dv_desk.specs.declared.answers.Answer.TheVariants as answers
use Rattle.dv_desk.specs.Queries.{mart_on, stored_pit}
use Rattle.dv_desk.specs.Routes.{Query, Read}
use Rattle.dv_desk.specs.Turns.{IsDue, IsStoredFor, Moment, ReadOffice, due}

-- what is due in a state and by a store, under hash keys
abbrev pub Due : Type 0
Due = Hashes → State → Store → Answer

-- the answer where a date is no stamp
abbrev pub bad_date : List ℕ → Answer
bad_date date = answers.BadQuery (BadDate date)

-- what was answered, or that memory ran out
abbrev pub or_memory : {E : Type 0} → Result Answer E → Answer
or_memory (Ok answer) = answer
or_memory (Err memory) = answers.Memory

-- ---- what needs the office alone

-- neither the keeper failed nor is the store damaged, and the route has the method
abbrev pub IsQuiet : Answer → Type 0
IsQuiet answers.Keeper = ⊥
IsQuiet (answers.Damaged damage) = ⊥
IsQuiet (answers.NotAllowed methods) = ⊥
IsQuiet answer = Unit {0}

-- this answer is due in each state that an office stands for and by each store that agrees with it, under hash keys by a
-- digest function
pub record LookedBy (due : Due) (held : Held) (answer : Answer) : Type 0 where
  pub due_is : (function : DigestFunction) (state : State) (s : Store) → Agrees held s → StandsFor (hashes_of function) state held
      → answer ≡ due (hashes_of function) state s
  pub quiet : IsQuiet answer

-- what is due to what is only read
abbrev pub due_by : Query → Held → Due
due_by query held = λ hashes state s. due held.vault.mapping hashes state query s

-- this answer is due to it
abbrev pub Looked : Query → Held → Answer → Type 0
Looked query held answer = LookedBy (due_by query held) held answer

-- what is due to a mart over the sealed windows, at a date
abbrev pub mart_due : What → ℕ → Held → Due
mart_due what at held = λ hashes state s. mart_on held.vault.mapping hashes state what at

-- ---- what needs its keeper too

-- the route has the method; the keeper failed only where its count rose, and a damage is that of the stored table that is
-- asked for
abbrev pub IsReadCause : (SnapId → ℕ → Type 0) → Moment → Moment → Answer → Type 0
IsReadCause IsFor before after answers.Keeper = Rose before.faults after.faults
IsReadCause IsFor before after (answers.Damaged damage) =
    (id : SnapId) × (at : ℕ) × IsFor id at × Told before.store (λ s. IsStoredDamage before.held id at s.snapshots damage) × IsRowOf before.held.vault.mapping id damage
IsReadCause IsFor before after (answers.NotAllowed methods) = ⊥
IsReadCause IsFor before after answer = Unit {0}

-- what is only read is answered so: this is due, or the keeper failed or memory ran out, in each state that an office and its
-- keeper's told store are in, by digests of the office's width; the store is as it was, and so is the office, or it is stale
pub record IsReadBy (due : Due) (IsFor : SnapId → ℕ → Type 0) (answer : Answer) (before after : Moment) : Type 0 where
  pub due_is : (function : DigestFunction) (state : State) (s : Store) → before.store ≡ Some s → IsIn (hashes_of function) state before.held (Some s)
      → before.held.width ≡ function.width → IsDue (due (hashes_of function) state s) answer
  pub cause : IsReadCause IsFor before after answer
  pub office : ReadOffice answer before.held after.held
  pub store : after.store ≡ before.store
  pub later : before.faults ≤ after.faults

-- so is a query
abbrev pub IsReadAs : Query → Answer → Moment → Moment → Type 0
IsReadAs query answer before after = IsReadBy (due_by query before.held) (IsStoredFor before.held.vault.mapping (Read query)) answer before after

-- the point-in-time table of this hub at this date
abbrev pub IsPitAt : ℕ → ℕ → SnapId → ℕ → Type 0
IsPitAt hub date id at = (id ≡ Pit hub) × (at ≡ date)

-- and what is due to it
abbrev pub pit_due : ℕ → ℕ → Held → Due
pit_due hub date held = λ hashes state s. stored_pit held.vault.mapping hashes state hub date

-- the answer by the text of such a table, or by why there is none
abbrev pub answer_of_stored : Result (List ℕ) StoredFault → Answer
answer_of_stored (Ok text) = answers.Rows text
answer_of_stored (Err stored.NoSnapshot) = answers.NotFound
answer_of_stored (Err (stored.Damaged damage)) = answers.Damaged damage
answer_of_stored (Err stored.KeeperFault) = answers.Keeper
answer_of_stored (Err stored.Memory) = answers.Memory
