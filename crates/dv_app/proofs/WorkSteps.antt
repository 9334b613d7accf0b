-- What comes of a command's work: what it says, why, what it leaves, and the damage that it names.
use Rattle.dv_app.proofs.Vocabulary.{Comes, DigestFunction, Does, Ending, Err, IsSaidFor, IsUndamaged, KeptCommand, KeptSays, Leaves, NamesDamage, Ok, Places, QueryRule, Reply, Result, Rose, Tells, Told, Tried, [], inl, inr, keeper_said, memory_said, refl, refused_said, said_of, subst, sym, ◌≡◌}
use Rattle.dv_app.proofs.Vocabulary.{◌⊎◌}
use Rattle.dv_outside.specs.declared.statuses.Status.TheVariants as statuses
use Rattle.dv_app.specs.Replies as replies

-- ---- no damage is named

pub done_sound : statuses.Done ≡ statuses.Damaged → ⊥
done_sound is = cc

pub refused_sound : statuses.Refused ≡ statuses.Damaged → ⊥
refused_sound is = cc

pub read_fault_sound : statuses.ReadFault ≡ statuses.Damaged → ⊥
read_fault_sound is = cc

pub mapping_sound : statuses.Mapping ≡ statuses.Damaged → ⊥
mapping_sound is = cc

pub keeper_sound : IsUndamaged keeper_said
keeper_sound is = let no : statuses.KeeperFault ≡ statuses.Damaged = is in cc

pub memory_sound : IsUndamaged memory_said
memory_sound is = let no : statuses.Memory ≡ statuses.Damaged = is in cc

-- a fault of the keeper and want of memory have their cause
pub keeper_cause : (at : Places) → Rose at.keeper.before at.keeper.now → IsSaidFor at keeper_said
keeper_cause at rose = (([], refl), rose)

pub memory_cause : (at : Places) → IsSaidFor at memory_said
memory_cause at = ([], refl)

-- ---- one thing is said, or that memory ran out

pub one_of : (P : Tried → Type 0) (says : Tried) → P says → P memory_said → (said : Tried) → (said ≡ says) ⊎ (said ≡ memory_said) → P said
one_of P says main memory said (inl same) = subst P (sym same) main
one_of P says main memory said (inr same) = subst P (sym same) memory

pub comes_one : (P : Tried → Type 0) (says : Tried) → P says → P memory_said → (result : Result Reply Ending) → Tells says result → Comes P result
comes_one P says main memory (Ok reply) tells = one_of P says main memory (replies.said reply) tells
comes_one P says main memory (Err ending) tells = (one_of P says main memory (said_of ending) tells.0, one_of P says main memory memory_said tells.1)

-- ---- a command

module _ (command : KeptCommand) (function : DigestFunction) (at : Places) where
  abbrev pub Kept : Tried → Type 0
  Kept said = Told at.keeper.old (λ store. KeptSays at function command store said)

  pub undamaged : (said : Tried) → IsUndamaged said → NamesDamage command function at.keeper.old said
  undamaged said sound = λ is. absurd (sound is)

  pub does : (said : Tried) → Kept said → IsSaidFor at said → Leaves command at.keeper said → IsUndamaged said → Does command function at said
  does said kept cause leaves sound = record { says = kept; cause = cause; leaves = leaves; damage = undamaged said sound }

  pub memory_does : Kept memory_said → Leaves command at.keeper memory_said → Does command function at memory_said
  memory_does kept leaves = does memory_said kept (memory_cause at) leaves memory_sound

  pub refused_does : (rule : QueryRule) → Kept (refused_said rule) → Leaves command at.keeper (refused_said rule) → Does command function at (refused_said rule)
  refused_does rule kept leaves = does (refused_said rule) kept (inl (rule, ([], refl))) leaves refused_sound
