-- A command that opens what is kept: what it says where that could not be opened, and what it says by the office.
use Rattle.dv_app.proofs.Vocabulary.{Comes, Damage, DigestFunction, Does, Ending, Err, Finds, FindsFirst, HasFirst, Hashes, Held, Init, IsBroken, IsErrOf, IsIn, IsLeftIn, IsNamedBySome, IsOpen, IsSaidFor, IsUndamaged, IsUnopened, KeptCommand, KeptSays, Leaves, Load, Mapping, Mart, None}
use Rattle.dv_app.proofs.Vocabulary.{OfficeCommand, Ok, OpenedSays, Opening, OpensOr, Option, Places, Reply, Result, Resume, Rose, Seen, Snapshot, Some, Stands, StandsAt, StartFault, State, Stays, Steps, Store, Stored, Table, Tells, Told, Tried, Windows, Works, [], arith, damaged_said}
use Rattle.dv_app.proofs.Vocabulary.{ending_of_start, hashes_of, inl, inr, keeper_said, memory_said, office_command, refl, said_of, subst, sym, ◌∙◌, ◌≡◌, ◌⊎◌}
use Rattle.dv_app.proofs.WorkSteps.{Kept, comes_one, does, keeper_cause, keeper_sound, mapping_sound, memory_cause, memory_does, memory_sound}
use Rattle.dv_restore.specs.declared.faults.StoreFault.TheVariants as unread
use Rattle.dv_restore.specs.declared.faults.StartFault.TheVariants as faults
use Rattle.dv_given.specs.declared.endings.Ending.TheVariants as endings
use Rattle.dv_app.specs.declared.words.OfficeCommand.TheVariants as office_commands

-- ---- the opening

-- why no office could be started
pub unstarted : {T : Type 0} (function : DigestFunction) (keeper : Seen Store) (fault : StartFault)
    → (IsErrOf {T = T} (Err fault) faults.NoMapping → Told keeper.old (λ s. s.mapping ≡ None))
    → ((damage : Damage) → IsErrOf {T = T} (Err fault) (faults.Unread (unread.Damaged damage)) → Told keeper.old (λ s. HasFirst function s damage))
    → ((damage : Damage) → IsErrOf {T = T} (Err fault) (faults.Unread (unread.Damaged damage)) → (mapping : Mapping) → (state : State) → (store : Store) → keeper.old ≡ Some store → Stands mapping (hashes_of function) state store → ⊥)
    → ((damage : Damage) → IsErrOf {T = T} (Err fault) (faults.Unread (unread.Damaged damage)) → IsNamedBySome damage)
    → (IsErrOf {T = T} (Err fault) (faults.Unread unread.KeeperFault) → Rose keeper.before keeper.now) → IsUnopened function keeper (ending_of_start fault)
unstarted function keeper faults.NoMapping none damaged sound formed rose = none refl
unstarted function keeper (faults.Unread (unread.Damaged damage)) none damaged sound formed rose = record {
  has = damaged damage refl;
  may = formed damage refl;
  stands_for_none = λ standing. sound damage refl standing.mapping standing.state standing.store standing.told_is standing.stands;
}
unstarted function keeper (faults.Unread unread.KeeperFault) none damaged sound formed rose = rose refl
unstarted function keeper (faults.Unread unread.Memory) none damaged sound formed rose = tt

-- ---- of every command but the storing of the mapping

-- it opens what is kept
abbrev pub Opens : KeptCommand → Type 0
Opens Init = ⊥
Opens _ = Unit {0}

-- so does each over the office
pub office_opens : (command : OfficeCommand) → Opens (office_command command)
office_opens (office_commands.Load manifest options) = tt
office_opens office_commands.Resume = tt
office_opens (office_commands.Mart what date) = tt
office_opens (office_commands.Table name) = tt
office_opens office_commands.Windows = tt
office_opens (office_commands.Snapshot date) = tt
office_opens (office_commands.Stored table date) = tt

module _ (command : KeptCommand) (opens : Opens command) (function : DigestFunction) (at : Places) where
  pub kept_by : (store : Store) (said : Tried) → OpensOr at function command store said → KeptSays at function command store said
  kept_by store said says = by command opens says
    where
      by : (c : KeptCommand) → Opens c → OpensOr at function c store said → KeptSays at function c store said
      by Init none says = absurd none
      by (Load name) opens says = says
      by Resume opens says = says
      by (Mart what date) opens says = says
      by (Table name) opens says = says
      by Windows opens says = says
      by (Snapshot date) opens says = says
      by (Stored table date) opens says = says

  -- the first damage is one that the command may name
  pub first_found : (told : Option Store) (damage : Damage) → FindsFirst function told damage → Finds command function told damage
  first_found told damage found = by command opens
    where
      by : (c : KeptCommand) → Opens c → Finds c function told damage
      by Init none = absurd none
      by (Load name) opens = record { has = found.has; may = found.may; stands_for_none = found.stands_for_none }
      by Resume opens = record { has = found.has; may = found.may; stands_for_none = found.stands_for_none }
      by (Mart what date) opens = record { has = found.has; may = found.may; stands_for_none = found.stands_for_none }
      by (Table name) opens = record { has = found.has; may = found.may; stands_for_none = found.stands_for_none }
      by Windows opens = record { has = found.has; may = found.may; stands_for_none = found.stands_for_none }
      by (Snapshot date) opens = record { has = found.has; may = found.may; stands_for_none = found.stands_for_none }
      by (Stored table date) opens = record { has = λ s e. inl (found.has s e); may = inl found.may; stands_for_none = found.stands_for_none }

  -- the keeper failed, or memory ran out, and the store is left
  module _ (left : Stays at) where
    pub broken_kept : (said : Tried) → IsBroken said → Kept command function at said
    broken_kept said broken = λ store e. kept_by store said (inr (inl (broken, left)))

    pub memory_left : Does command function at memory_said
    memory_left = memory_does command function at (broken_kept memory_said (inr refl)) (inl left)

    pub keeper_left : Rose at.keeper.before at.keeper.now → Does command function at keeper_said
    keeper_left rose = does command function at keeper_said (broken_kept keeper_said (inl refl)) (keeper_cause at rose) (inl left) keeper_sound

    -- the store is shut
    shut_does : (ending : Ending) → IsUnopened function at.keeper ending → Does command function at (said_of ending)
    shut_does endings.NoMapping none =
        does command function at (said_of endings.NoMapping) (λ store e. kept_by store _ (inl (inl (none store e, refl)))) (inr (inl ([], refl))) (inl left) mapping_sound
    shut_does (endings.Damaged damage) found = record {
      says = λ store e. kept_by store (damaged_said damage) (inl (inr (damage, found.has store e, refl)));
      cause = (damage, ([], refl));
      leaves = inl left;
      damage = λ is. (damage, refl, first_found at.keeper.old damage found);
    }
    shut_does endings.KeeperFault rose = keeper_left rose
    shut_does endings.Memory short = memory_left
    shut_does ending none = absurd none

  pub shut_works : at.folder.new ≡ at.folder.old → at.folder.now ≡ at.folder.before → (ending : Ending) → Opening function at.keeper (Err ending) → Works command function at (Err ending)
  shut_works kept same ending opening = record {
    comes = (shut_does opening.left ending opening.opens, memory_left opening.left);
    later = record { kept = kept; folder = omega (arith, same); keeper = opening.later };
  }

-- ---- by the office

-- an office that was opened is that of the store behind the opening
pub open_then : (function : DigestFunction) (keeper : Seen Store) (office : Held) → Opening function keeper (Ok office) → IsOpen function keeper.new office
open_then function keeper office opening = subst (λ told. IsOpen function told office) (sym opening.left) opening.opens

-- an office that was opened is in each state that the store stands for
pub opened_in : (function : DigestFunction) (told : Option Store) (office : Held) → IsOpen function told office → (store : Store) → told ≡ Some store → (state : State) → Stands office.vault.mapping (hashes_of function) state store
    → IsIn (hashes_of function) state office told
opened_in function told office is_open store told_is state stands = record {
  stands = λ fresh. is_open.stands store told_is state stands;
  told = λ stale. (store, told_is);
  store_stands = λ s e. subst (Stands office.vault.mapping (hashes_of function) state) (same (sym told_is ∙ e)) stands;
}
  where
    same : {s : Store} → Some store ≡ Some s → store ≡ s
    same e = cc

-- what a call leaves is a store that stands for the state behind it
pub left_stands : (mapping : Mapping) (hashes : Hashes) (state' : State) (held : Held) (told : Option Store) → held.vault.mapping ≡ mapping → IsLeftIn hashes state' held told → StandsAt mapping hashes state' told
left_stands mapping hashes state' held told mapped left = λ s e. subst (λ m. Stands m hashes state' s) mapped (left.store_stands s e)

-- what is said has its cause, what it may have changed, and names no damage
pub record Facts (command : KeptCommand) (at : Places) (said : Tried) : Type 0 where
  pub cause : IsSaidFor at said
  pub leaves : Leaves command at.keeper said
  pub sound : IsUndamaged said

module _ (command : KeptCommand) (opens : Opens command) (function : DigestFunction) (at : Places) (office : Held) (is_open : IsOpen function at.keeper.old office) where
  abbrev hashes : Hashes
  hashes = hashes_of function

  -- what is said by the stored mapping
  pub opened_kept : (said : Tried) → ((store : Store) → at.keeper.old ≡ Some store → OpenedSays at hashes command store office.vault.mapping said) → Kept command function at said
  opened_kept said by = λ store e. kept_by command opens function at store said (inr (inr (office.vault.mapping, is_open.opened store e, by store e)))

  pub opened_does : (said : Tried) → ((store : Store) → at.keeper.old ≡ Some store → OpenedSays at hashes command store office.vault.mapping said) → Facts command at said → Does command function at said
  opened_does said by facts = does command function at said (opened_kept said by) facts.cause facts.leaves facts.sound

  -- an answer that is a step of the machine in each state that the office and the store are in
  module _ {A : Type 0} (Step : State → A → State → Type 0) (said_by : A → Tried) (answer : A)
      (so : (store : Store) (said : Tried) → ((state : State) → Stands office.vault.mapping hashes state store → Steps (Step state) said_by office.vault.mapping hashes at.keeper.new said)
      → OpenedSays at hashes command store office.vault.mapping said)
      (steps : (state : State) → IsIn hashes state office at.keeper.old → (state' : State) × Step state answer state' × StandsAt office.vault.mapping hashes state' at.keeper.new) where
    step_does : (said : Tried) → (said ≡ said_by answer) ⊎ (said ≡ memory_said) → Facts command at said → Does command function at said
    step_does said is facts = opened_does said (λ store e. so store said (λ state stands.
        let stepped : (state' : State) × Step state answer state' × StandsAt office.vault.mapping hashes state' at.keeper.new = steps state (opened_in function at.keeper.old office is_open store e state stands) in
        record { answer = answer; state' = stepped.0; step = stepped.1; says = is; sound = facts.sound; stands = stepped.2 })) facts

    pub steps_come : Facts command at (said_by answer) → Leaves command at.keeper memory_said → (result : Result Reply Ending) → Tells (said_by answer) result → Comes (Does command function at) result
    steps_come facts leaves result tells = comes_one (Does command function at) (said_by answer) (step_does (said_by answer) (inl refl) facts)
        (step_does memory_said (inr refl) (record { cause = memory_cause at; leaves = leaves; sound = memory_sound })) result tells
