-- The damage of a stale office's store, and where it has none of the mapping.
use Rattle.dv_window.proofs.Vocabulary.{BreaksRule, CompletesTo, Damage, Err, Hashes, Held, IsDamageFor, IsLeftIn, IsNotRead, IsOther, IsOtherMapping, IsReadAs, Mapping, None, Ok, Option, Result, Some, Stands, State, StepsTo, Store, StoreFault, WindowIn, ap, inl, inr, never_unread, read_mapping}
use Rattle.dv_window.proofs.Vocabulary.{refl, same_Some, same_mapping, sym, unrefreshed, unresumed, ℕ, ◌∙◌, ◌≡◌, ◌⊎◌}
use Rattle.dv_records.specs.declared.answers.LoadAnswer.TheVariants as answers
use Rattle.dv_records.specs.declared.answers.ResumeAnswer.TheVariants as resumed
use Rattle.dv_restore.specs.declared.faults.StoreFault.TheVariants as faults

-- ---- the stored text is not another mapping

-- where it is read as the mapping
pub not_other : (mapping : Mapping) (store : Store) → IsReadAs mapping store → IsOther mapping store → ⊥
not_other mapping store here (inl gone) = none (sym here.stored_is ∙ gone)
  where
    none : Some here.text ≡ None → ⊥
    none e = cc
not_other mapping store here (inr (other, read, differs)) = differs (same_mapping other mapping store read here)

-- where it is read as none
unread_not_other : (mapping : Mapping) (store : Store) (damage : Damage) → IsNotRead store damage → IsOther mapping store → ⊥
unread_not_other mapping store damage unread (inl gone) = none (sym unread.stored_is ∙ gone)
  where
    none : Some unread.text ≡ None → ⊥
    none e = cc
unread_not_other mapping store damage unread (inr (other, read, differs)) =
    let text : read.text ≡ unread.text = same_Some read.text unread.text (sym read.stored_is ∙ unread.stored_is) in
    unread.refused other (ap read_mapping (sym text) ∙ read.reads)

-- ---- the damage for an office

-- of the mapping
pub mapping_for : (mapping : Mapping) (hashes : Hashes) (width : ℕ) (store : Store) (damage : Damage) → IsOtherMapping mapping store damage ⊎ IsNotRead store damage → IsDamageFor mapping hashes width store damage
mapping_for mapping hashes width store damage (inl other) = inl other
mapping_for mapping hashes width store damage (inr unread) = inr (inl unread, unread_not_other mapping store damage unread)

-- of what is behind it
pub rule_for : (mapping : Mapping) (hashes : Hashes) (width : ℕ) (store : Store) (damage : Damage) → IsReadAs mapping store → BreaksRule hashes width mapping store damage → IsDamageFor mapping hashes width store damage
rule_for mapping hashes width store damage read broken = inr (inr (mapping, read, broken), not_other mapping store read)

-- a store that stands for a state has none of the mapping
pub not_damaged : (mapping : Mapping) (hashes : Hashes) (state : State) (store : Store) → Stands mapping hashes state store → (damage : Damage) → IsOtherMapping mapping store damage ⊎ IsNotRead store damage → ⊥
not_damaged mapping hashes state store stands damage (inl (other, is)) = not_other mapping store stands.mapped other
not_damaged mapping hashes state store stands damage (inr unread) = never_unread mapping hashes state store stands damage unread

-- ---- what a call answers where an office could not be refreshed

pub unrefreshed_step : (mapping : Mapping) (hashes : Hashes) (state : State) (given : WindowIn) (held : Held) (after : Option Store) → IsLeftIn hashes state held after → (fault : StoreFault)
    → StepsTo mapping hashes state given (unrefreshed fault) held after
unrefreshed_step mapping hashes state given held after left (faults.Damaged damage) = (state, refl, left)
unrefreshed_step mapping hashes state given held after left faults.KeeperFault = (state, inl refl, left)
unrefreshed_step mapping hashes state given held after left faults.Memory = (state, inl refl, left)

pub unresumed_step : (mapping : Mapping) (hashes : Hashes) (state : State) (held : Held) (after : Option Store) → IsLeftIn hashes state held after → (fault : StoreFault)
    → CompletesTo mapping hashes state (unresumed fault) held after
unresumed_step mapping hashes state held after left (faults.Damaged damage) = (state, refl, left)
unresumed_step mapping hashes state held after left faults.KeeperFault = (state, inl refl, left)
unresumed_step mapping hashes state held after left faults.Memory = (state, inl refl, left)

pub was_damaged : (fault : StoreFault) (damage : Damage) → unrefreshed fault ≡ answers.Damaged damage → fault ≡ faults.Damaged damage
was_damaged (faults.Damaged other) damage e = cc
was_damaged faults.KeeperFault damage e = cc
was_damaged faults.Memory damage e = cc

pub is_damaged : (fault : StoreFault) (damage : Damage) → unresumed fault ≡ resumed.Damaged damage → fault ≡ faults.Damaged damage
is_damaged (faults.Damaged other) damage e = cc
is_damaged faults.KeeperFault damage e = cc
is_damaged faults.Memory damage e = cc

-- a refresh that answered Ok did not fail
pub not_err : (fault : StoreFault) → ◌≡◌ {A = Result (Unit {0}) StoreFault} (Ok tt) (Err fault) → ⊥
not_err fault e = cc
