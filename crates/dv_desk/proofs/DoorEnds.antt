-- How the serving of doors starts, and where it ends with a damage.
use Rattle.dv_desk.proofs.Vocabulary.{Damage, DigestFunction, Ends, EndsAs, EndsBy, EndsOrMemory, Err, Failed, HasCause, IsFaultOf, IsFirstDamage, IsNamedBySome, IsServeCause, List, None, Ok, Option, Result, Rose, Seen, StartFault, Status, Store, Told, ending_of_start, hashes_of, inl, inr, refl}
use Rattle.dv_desk.proofs.Vocabulary.{subst, sym, ℕ, ◌∙◌, ◌≡◌}
use Rattle.dv_outside.specs.declared.statuses.Status.TheVariants as statuses
use Rattle.dv_restore.specs.declared.faults.StoreFault.TheVariants as unread
use Rattle.dv_restore.specs.declared.faults.StartFault.TheVariants as faults

-- why no office could be started
pub fault_is : (function : DigestFunction) (store : Option Store) (before now : ℕ) (fault : StartFault) → (fault ≡ faults.NoMapping → Told store (λ s. s.mapping ≡ None))
    → ((damage : Damage) → fault ≡ faults.Unread (unread.Damaged damage) → Told store (λ s. IsFirstDamage (hashes_of function) function.width s damage) × IsNamedBySome damage)
    → (fault ≡ faults.Unread unread.KeeperFault → Rose before now) → IsFaultOf function store before now fault
fault_is function store before now faults.NoMapping none damaged rose = none refl
fault_is function store before now (faults.Unread (unread.Damaged damage)) none damaged rose = damaged damage refl
fault_is function store before now (faults.Unread unread.KeeperFault) none damaged rose = rose refl
fault_is function store before now (faults.Unread unread.Memory) none damaged rose = tt

-- ---- a store that is called damaged

module _ (err : Seen (List ℕ)) (result : Status) where
  -- a status of a damage was that
  was_damaged : (status : Status) (line : List ℕ) → Ends status line err.old err.new err.before err.now result → result ≡ statuses.Damaged → status ≡ statuses.Damaged
  was_damaged status line (inl said) is = sym said.status_is ∙ is
  was_damaged status line (inr cut) is = absurd (write_fault (sym cut.status_is ∙ is))
    where
      write_fault : statuses.WriteFault ≡ statuses.Damaged → ⊥
      write_fault e = cc

  was_damaged_or : (status : Status) (line : List ℕ) → EndsOrMemory status line err result → result ≡ statuses.Damaged → status ≡ statuses.Damaged
  was_damaged_or status line (inl ends) is = was_damaged status line ends is
  was_damaged_or status line (inr ends) is = absurd (memory (was_damaged statuses.Memory _ ends is))
    where
      memory : statuses.Memory ≡ statuses.Damaged → ⊥
      memory e = cc

  -- an office that could not be started for a damage is why
  unstarted_damaged : (fault : StartFault) → EndsBy (ending_of_start fault) err result → result ≡ statuses.Damaged → (damage : Damage) × (fault ≡ faults.Unread (unread.Damaged damage))
  unstarted_damaged (faults.Unread (unread.Damaged damage)) ends is = (damage, refl)
  unstarted_damaged faults.NoMapping ends is = let none : statuses.Mapping ≡ statuses.Damaged = was_damaged_or statuses.Mapping _ ends is in absurd (cc)
  unstarted_damaged (faults.Unread unread.KeeperFault) ends is = let none : statuses.KeeperFault ≡ statuses.Damaged = was_damaged_or statuses.KeeperFault _ ends is in absurd (cc)
  unstarted_damaged (faults.Unread unread.Memory) ends is = let none : statuses.Memory ≡ statuses.Damaged = was_damaged_or statuses.Memory _ ends is in absurd (cc)

  -- so what follows from each damage for which none could be started holds there
  pub unstarted_sound : {P : Type 0} (fault : StartFault) → ((damage : Damage) → fault ≡ faults.Unread (unread.Damaged damage) → P) → EndsBy (ending_of_start fault) err result
      → result ≡ statuses.Damaged → P
  unstarted_sound fault follows ends is = let found = unstarted_damaged fault ends is in follows found.0 found.1

-- ---- the status

module _ (before now : ℕ) (kept : Seen Store) (err : Seen (List ℕ)) (result : Status) where
  -- a status has its cause, and so has that of a write fault
  ends_cause : (status : Status) (line : List ℕ) → IsServeCause before now kept err status → Ends status line err.old err.new err.before err.now result → IsServeCause before now kept err result
  ends_cause status line cause (inl said) = subst (IsServeCause before now kept err) (sym said.status_is) cause
  ends_cause status line cause (inr cut) = subst (IsServeCause before now kept err) (sym cut.status_is) cut.rose

  or_cause : (status : Status) (line : List ℕ) → IsServeCause before now kept err status → EndsOrMemory status line err result → IsServeCause before now kept err result
  or_cause status line cause (inl ends) = ends_cause status line cause ends
  or_cause status line cause (inr ends) = ends_cause statuses.Memory _ tt ends

  pub unstarted_cause : (fault : StartFault) → (fault ≡ faults.Unread unread.KeeperFault → Rose kept.before kept.now) → EndsBy (ending_of_start fault) err result → IsServeCause before now kept err result
  unstarted_cause faults.NoMapping rose ends = or_cause statuses.Mapping _ tt ends
  unstarted_cause (faults.Unread (unread.Damaged damage)) rose ends = or_cause statuses.Damaged _ tt ends
  unstarted_cause (faults.Unread unread.KeeperFault) rose ends = or_cause statuses.KeeperFault _ (rose refl) ends
  unstarted_cause (faults.Unread unread.Memory) rose ends = or_cause statuses.Memory _ tt ends

-- ---- connections that were served

module _ (err : Seen (List ℕ)) (result : Status) where
  pub served_cause : (before now : ℕ) (kept : Seen Store) (ended : Result (Unit {0}) Failed) → HasCause before now ended → EndsAs ended err result → IsServeCause before now kept err result
  served_cause before now kept (Ok done) cause ends = subst (IsServeCause before now kept err) (sym ends.0) tt
  served_cause before now kept (Err failed) cause ends = ends_cause before now kept err result statuses.ReadFault _ cause.failed ends

  pub served_undamaged : (ended : Result (Unit {0}) Failed) → EndsAs ended err result → result ≡ statuses.Damaged → ⊥
  served_undamaged (Ok done) ends is = let no : statuses.Done ≡ statuses.Damaged = sym ends.0 ∙ is in cc
  served_undamaged (Err failed) ends is = let no : statuses.ReadFault ≡ statuses.Damaged = was_damaged err result statuses.ReadFault _ ends is in cc
