-- What comes of a snapshot.
use Rattle.dv_app.proofs.Vocabulary.{DateEnds, DigestFunction, Ending, Err, Future, HasZeroKeys, Hashes, Held, IsIn, LeavesBoth, List, Mapping, Ok, Opening, Option, Places, Reply, Result, Rose, SnapAnswer, SnapStep, SnapsTo, Snapshot, SnapshotSays, SnapshotsFull, Some, State, Store, Tells}
use Rattle.dv_app.proofs.Vocabulary.{TooLarge, Works, [], arith, hashes_of, inl, inr, name_of_path, refl, refused_said, rose_later, slice_get, snapshot_said, stamp_of, subst, sym, zero_keys, ℕ, ◌≡◌, ◌≤◌}
use Rattle.dv_app.proofs.{OpenSteps.Facts, OpenSteps.left_stands, OpenSteps.steps_come, QuerySteps.refused_works, WorkSteps.done_sound, WorkSteps.keeper_cause, WorkSteps.keeper_sound, WorkSteps.memory_cause, WorkSteps.memory_sound, WorkSteps.refused_sound}
use Rattle.dv_records.specs.declared.answers.SnapAnswer.TheVariants as answers

-- the date is none
pub undated_works : (date : List ℕ) (function : DigestFunction) (at : Places) → at.folder.new ≡ at.folder.old → at.folder.now ≡ at.folder.before → (office : Held) → Opening function at.keeper (Ok office)
    → (ending : Ending) → DateEnds date ending → Works (Snapshot date) function at (Err ending)
undated_works date function at kept same office opening ending ends = refused_works (Snapshot date) tt function at kept same office opening _
    (λ store e rule broken state stands. subst (λ d. SnapshotSays office.vault.mapping (hashes_of function) date d state at.keeper.new (refused_said rule)) (sym broken.1) (rw broken.0 refl)) ending ends

snapshot_facts : (date : List ℕ) (mapping : Mapping) (at : Places) (was held : Held) (answer : SnapAnswer) → LeavesBoth answer was held at.keeper.old at.keeper.new → (answer ≡ answers.KeeperFault → Rose at.keeper.before at.keeper.now)
    → Facts (Snapshot date) at (snapshot_said mapping answer)
snapshot_facts date mapping at was held (answers.Stored rows) left rose = record { cause = tt; leaves = inr (inl (rows, refl)); sound = done_sound }
snapshot_facts date mapping at was held answers.Repeated left rose = record { cause = tt; leaves = inl left.1; sound = done_sound }
snapshot_facts date mapping at was held (answers.Future last) left rose = record { cause = inl (Future last, ([], refl)); leaves = inl left.1; sound = refused_sound }
snapshot_facts date mapping at was held (answers.TooLarge path) left rose =
    record { cause = inl (TooLarge (name_of_path (slice_get mapping.paths path)), ([], refl)); leaves = inl left.1; sound = refused_sound }
snapshot_facts date mapping at was held (answers.Full weight) left rose = record { cause = inl (SnapshotsFull weight, ([], refl)); leaves = inl left.1; sound = refused_sound }
snapshot_facts date mapping at was held answers.KeeperFault left rose = record { cause = keeper_cause at (rose refl); leaves = inr (inr (inl refl)); sound = keeper_sound }
snapshot_facts date mapping at was held answers.Memory left rose = record { cause = memory_cause at; leaves = inl left.1; sound = memory_sound }

module _ (date : List ℕ) (function : DigestFunction) (at : Places) (kept : at.folder.new ≡ at.folder.old) (same : at.folder.now ≡ at.folder.before) (office : Held) (mid : Option Store) (between : ℕ)
    (opening : Opening function (record { old = at.keeper.old; new = mid; before = at.keeper.before; now = between }) (Ok office)) (day : ℕ) (dated : stamp_of date ≡ Some day) where
  pub snapshot_works : (answer : SnapAnswer) (held : Held)
      → ((hashes : Hashes) (state : State) → HasZeroKeys hashes → IsIn hashes state office mid → SnapsTo office.vault.mapping hashes state day answer held at.keeper.new)
      → held.vault.mapping ≡ office.vault.mapping → LeavesBoth answer office held mid at.keeper.new → (answer ≡ answers.KeeperFault → Rose between at.keeper.now) → between ≤ at.keeper.now
      → (result : Result Reply Ending) → Tells (snapshot_said office.vault.mapping answer) result → Works (Snapshot date) function at result
  snapshot_works answer held steps mapped left rose later result tells = record {
    comes = steps_come (Snapshot date) tt function at office opening.opens (λ state. SnapStep office.vault.mapping (hashes_of function) state day) (snapshot_said office.vault.mapping) answer
        (λ store said so state stands. subst (λ d. SnapshotSays office.vault.mapping (hashes_of function) date d state at.keeper.new said) (sym dated) (so state stands))
        (λ state is_in. let to : SnapsTo office.vault.mapping (hashes_of function) state day answer held at.keeper.new =
        steps (hashes_of function) state (zero_keys function) (subst (IsIn (hashes_of function) state office) (sym opening.left) is_in) in
        (to.0, to.1, left_stands office.vault.mapping (hashes_of function) to.0 held at.keeper.new mapped to.2))
        (snapshot_facts date office.vault.mapping at office held answer (subst (λ m. LeavesBoth answer office held m at.keeper.new) opening.left left)
        (λ is. rose_later at.keeper.before between at.keeper.now opening.later (rose is)))
        (inr (inr (inr refl))) result tells;
    later = record { kept = kept; folder = omega (arith, same); keeper = omega (arith, opening.later, later) };
  }
