-- What comes of the storing of the mapping.
use Rattle.dv_app.proofs.Vocabulary.{Changes, Compares, Damage, DigestFunction, Does, Ending, Err, Hashes, Init, InitAnswer, InitBy, InitFor, InitLeaves, InitSays, InitStep, InitWith, IsErrOf, IsFaultOf, IsNotRead, IsReadAs, IsReadCause, IsStanding, IsStored, List, MapError, Mapping, MappingEnds}
use Rattle.dv_app.proofs.Vocabulary.{MappingFile, NamedFile, None, Ok, Option, Places, ReadsMapping, Reply, Result, Rose, Seen, Settled, Some, Stays, Store, StoreFault, Tells, Told, Tried, Unsettled, Works, [], absent_line, ap, arith, changed, damaged_said, ended, ending_of_store, hashes_of}
use Rattle.dv_app.proofs.Vocabulary.{init_said, inl, inr, keeper_said, mapping_at, mapping_bytes, mapping_damage, memory_said, option_map, read_mapping, refl, rose_later, said_of, subst, sym, with_mapping, ℕ, ◌∙◌, ◌≡◌, ◌≤◌, ◌⊎◌}
use Rattle.dv_app.proofs.OpenSteps.{Facts}
use Rattle.dv_app.proofs.WorkSteps.{comes_one, does, done_sound, keeper_cause, keeper_sound, mapping_sound, memory_cause, memory_does, memory_sound, read_fault_sound, refused_sound}
use Rattle.dv_outside.specs.declared.statuses.Status.TheVariants as statuses
use Rattle.dv_records.specs.declared.answers.InitAnswer.TheVariants as init
use Rattle.dv_records.specs.declared.keepers.KeeperError.TheVariants as errors
use Rattle.dv_restore.specs.declared.faults.StoreFault.TheVariants as faults
use Rattle.dv_given.specs.declared.endings.Ending.TheVariants as endings

-- ---- the storing of the file

module _ (file : List ℕ) (keeper : Seen Store) (later : keeper.before ≤ keeper.now) where
  -- nothing was stored
  pub kept_settled : keeper.new ≡ keeper.old → (answer : InitAnswer) → ((store : Store) → keeper.old ≡ Some store → InitStep file store answer store) → (answer ≡ init.KeeperFault → Rose keeper.before keeper.now) → Settled file keeper answer
  kept_settled left answer step rose = record { step = λ store e. (store, step store e, left ∙ e); leaves = by answer; cause = rose; later = later }
    where
      by : (a : InitAnswer) → InitLeaves keeper a
      by init.Stored = tt
      by init.Kept = left
      by init.Differs = left
      by init.KeeperFault = tt
      by init.Memory = tt

  pub memory_settled : keeper.new ≡ keeper.old → Settled file keeper init.Memory
  memory_settled left = kept_settled left init.Memory (λ store e. inl refl) (λ is. absurd (let no : init.Memory ≡ init.KeeperFault = is in cc))

  module _ (mapping : Mapping) (reads : read_mapping file ≡ Ok mapping) where
    module _ (none : Told keeper.old (λ s. s.mapping ≡ None)) where
      is_stored : (store : Store) → keeper.old ≡ Some store → IsStored file store (with_mapping file store)
      is_stored store e = record { mapping = mapping; reads = reads; none_before = none store e; changed = refl }

      module _ (made : keeper.new ≡ changed (with_mapping file) keeper.old) where
        stored_told : (store : Store) → keeper.old ≡ Some store → keeper.new ≡ Some (with_mapping file store)
        stored_told store e = made ∙ ap (changed (with_mapping file)) e

        pub stored_settled : Settled file keeper init.Stored
        stored_settled = record { step = λ store e. (with_mapping file store, is_stored store e, stored_told store e); leaves = tt; cause = λ is. absurd (let no : init.Stored ≡ init.KeeperFault = is in cc); later = later }

        fault_made : Rose keeper.before keeper.now → Settled file keeper init.KeeperFault
        fault_made rose = record { step = λ store e. (with_mapping file store, inr (is_stored store e), stored_told store e); leaves = tt; cause = λ is. rose; later = later }

      -- a call that stored it or failed
      pub fault_settled : Changes {T = Unit {0}} (with_mapping file) keeper.old keeper.new (Err errors.Failed) → Rose keeper.before keeper.now → Settled file keeper init.KeeperFault
      fault_settled (inl left) rose = kept_settled left init.KeeperFault (λ store e. inl refl) (λ is. rose)
      fault_settled (inr made) rose = fault_made made rose

    -- the file was compared with the stored one
    pub compared_settled : keeper.new ≡ keeper.old → (stored : Mapping) → Told keeper.old (IsReadAs stored) → (answer : InitAnswer) → Compares stored mapping answer → Settled file keeper answer
    compared_settled left stored read init.Kept same = kept_settled left init.Kept (λ store e. (
      mapping,
      record {
        text = (read store e).text;
        stored_is = (read store e).stored_is;
        stored_reads = (read store e).reads ∙ ap Ok same;
        file_reads = reads;
      },
      refl,
    )) (λ is. absurd (let no : init.Kept ≡ init.KeeperFault = is in cc))
    compared_settled left stored read init.Differs other = kept_settled left init.Differs (λ store e. (
      stored,
      mapping,
      record {
        text = (read store e).text;
        stored_is = (read store e).stored_is;
        stored_reads = (read store e).reads;
        file_reads = reads;
      },
      (λ same. other (sym same)),
      refl,
    )) (λ is. absurd (let no : init.Differs ≡ init.KeeperFault = is in cc))
    compared_settled left stored read answer none = absurd none

-- what is stored could not be read
pub fault_of : {T : Type 0} (keeper : Seen Store) (fault : StoreFault) → ((damage : Damage) → IsErrOf {T = T} (Err fault) (faults.Damaged damage) → Told keeper.old (λ s. IsNotRead s damage))
    → ((damage : Damage) → IsErrOf {T = T} (Err fault) (faults.Damaged damage) → damage ≡ mapping_damage) → (IsErrOf {T = T} (Err fault) faults.KeeperFault → Rose keeper.before keeper.now) → IsFaultOf keeper fault
fault_of keeper (faults.Damaged damage) not_read formed rose = (not_read damage refl, formed damage refl)
fault_of keeper faults.KeeperFault not_read formed rose = rose refl
fault_of keeper faults.Memory not_read formed rose = tt

-- the same since an earlier moment, at which the keeper told the same store
pub settled_since : (file : List ℕ) (keeper : Seen Store) (mid : Option Store) (between : ℕ) (answer : InitAnswer) → mid ≡ keeper.old → keeper.before ≤ between
    → Settled file (record { old = mid; new = keeper.new; before = between; now = keeper.now }) answer → Settled file keeper answer
settled_since file keeper mid between answer same later settled = record {
  step = λ store e. settled.step store (same ∙ e);
  leaves = by answer settled.leaves;
  cause = λ is. rose_later keeper.before between keeper.now later (settled.cause is);
  later = omega (arith, later, settled.later);
}
  where
    by : (a : InitAnswer) → InitLeaves (record { old = mid; new = keeper.new; before = between; now = keeper.now }) a → InitLeaves keeper a
    by init.Stored is = tt
    by init.Kept left = left ∙ same
    by init.Differs left = left ∙ same
    by init.KeeperFault is = tt
    by init.Memory is = tt

-- ---- the whole command

init_facts : (at : Places) (answer : InitAnswer) → InitLeaves at.keeper answer → (answer ≡ init.KeeperFault → Rose at.keeper.before at.keeper.now) → Facts Init at (init_said answer)
init_facts at init.Stored left rose = record { cause = tt; leaves = inr (inl refl); sound = done_sound }
init_facts at init.Kept left rose = record { cause = tt; leaves = inl left; sound = done_sound }
init_facts at init.Differs left rose = record { cause = inr (inr ([], refl)); leaves = inl left; sound = mapping_sound }
init_facts at init.KeeperFault left rose = record { cause = keeper_cause at (rose refl); leaves = inr (inr (inl refl)); sound = keeper_sound }
init_facts at init.Memory left rose = record { cause = memory_cause at; leaves = inr (inr (inr refl)); sound = memory_sound }

-- a store that stands for a state has a text that is read
not_read_sound : (hashes : Hashes) (told : Option Store) (damage : Damage) → Told told (λ s. IsNotRead s damage) → IsStanding hashes told → ⊥
not_read_sound hashes told damage not_read standing =
    let bad : IsNotRead standing.store damage = not_read standing.store standing.told_is in
    let good = standing.stands.mapped in
    let same : bad.text ≡ good.text = texts_same (sym bad.stored_is ∙ good.stored_is) in
    bad.refused standing.mapping (ap read_mapping same ∙ good.reads)
  where
    texts_same : {a b : List ℕ} → Some a ≡ Some b → a ≡ b
    texts_same e = cc

module _ (function : DigestFunction) (at : Places) where
  abbrev Says : Tried → Type 0
  Says said = (store : Store) → at.keeper.old ≡ Some store → (files : List NamedFile) → at.folder.old ≡ Some files → InitSays at files store said

  module _ (left : Stays at) where
    memory_left : Does Init function at memory_said
    memory_left = memory_does Init function at (λ store e files t. inr (inr (inr refl, left))) (inl left)

    -- ---- the file was not read

    absent_by : (files : List NamedFile) (file : Option (List ℕ)) → mapping_bytes files ≡ file → mapping_at files ≡ None → mapping_bytes files ≡ None
    absent_by files None is none = is
    absent_by files (Some bytes) is none = let no : Some (read_mapping bytes) ≡ None = sym (ap (option_map read_mapping) is) ∙ none in cc

    refused_by : (files : List NamedFile) (store : Store) (e : MapError) (file : Option (List ℕ)) → mapping_bytes files ≡ file → mapping_at files ≡ Some (Err e) → InitWith store at.keeper.new file (said_of (endings.BadMapping e))
    refused_by files store e None is refused = let no : None ≡ Some (Err e) = sym (ap (option_map read_mapping) is) ∙ refused in cc
    refused_by files store e (Some bytes) is refused = subst (λ read. InitBy bytes store at.keeper.new read (said_of (endings.BadMapping e))) (sym reads) refl
      where
        reads : read_mapping bytes ≡ Err e
        reads = let same : Some (read_mapping bytes) ≡ Some (Err e) = sym (ap (option_map read_mapping) is) ∙ refused in cc

    unread_does : (ending : Ending) → Told at.folder.old (λ files. MappingEnds files ending) → IsReadCause at.folder.before at.folder.now ending → Does Init function at (said_of ending)
    unread_does (endings.BadMapping e) ends cause = does Init function at (said_of (endings.BadMapping e)) (λ store told files t. inl (refused_by files store e (mapping_bytes files) refl (ends files t)))
        (inl (e, ([], refl))) (inl left) mapping_sound
    unread_does (endings.Absent file) ends cause = does Init function at (said_of (endings.Absent file)) (λ store told files t. inl (
        subst (λ bytes. InitWith store at.keeper.new bytes (said_of (endings.Absent file))) (sym (absent_by files (mapping_bytes files) refl (ends files t).1)) (ap (λ f. ended statuses.ReadFault (absent_line f)) (ends files t).0)))
        (file, inl ([], refl)) (inl left) read_fault_sound
    unread_does (endings.Unread file) ends rose = does Init function at (said_of (endings.Unread file)) (λ store told files t. inr (inl (file, ends files t, rose, refl))) (file, inr (([], refl), rose)) (inl left) read_fault_sound
    unread_does endings.Memory ends cause = memory_left
    unread_does (endings.BadQuery rule) ends cause = does Init function at (said_of (endings.BadQuery rule)) (λ store told files t. absurd (ends files t)) (inl (rule, ([], refl))) (inl left) refused_sound
    unread_does ending ends none = absurd none

    pub unread_works : (ending : Ending) → ReadsMapping at.folder (Err ending) → at.keeper.now ≡ at.keeper.before → Works Init function at (Err ending)
    unread_works ending reads same = record {
      comes = (unread_does ending reads.ends reads.cause, memory_left);
      later = record { kept = reads.kept; folder = reads.later; keeper = omega (arith, same) };
    }

  -- ---- it was read

  module _ (file : MappingFile) (reads : ReadsMapping at.folder (Ok file)) (read : read_mapping file.bytes ≡ Ok file.catalog) where
    read_says : (said : Tried) → ((store : Store) → at.keeper.old ≡ Some store → InitFor file.bytes store at.keeper.new said) → Says said
    read_says said by = λ store e files t. inl (subst (λ bytes. InitWith store at.keeper.new bytes said) (sym (reads.ok files t).1)
        (subst (λ r. InitBy file.bytes store at.keeper.new r said) (sym read) (by store e)))

    fault_does : (fault : StoreFault) → Unsettled at.keeper fault → Does Init function at (said_of (ending_of_store fault))
    fault_does (faults.Damaged damage) un = record {
      says = read_says (damaged_said damage) (λ store e. inr (
        record { text = (un.is_fault.0 store e).text; stored_is = (un.is_fault.0 store e).stored_is; refused = (un.is_fault.0 store e).refused; is = refl },
        ap damaged_said un.is_fault.1,
      ));
      cause = (damage, ([], refl));
      leaves = inl un.left;
      damage = λ is. (damage, refl, record { has = un.is_fault.0; may = un.is_fault.1; stands_for_none = not_read_sound (hashes_of function) at.keeper.old damage un.is_fault.0 });
    }
    fault_does faults.KeeperFault un = does Init function at keeper_said (λ store e files t. inr (inr (inl refl, un.left))) (keeper_cause at un.is_fault) (inl un.left) keeper_sound
    fault_does faults.Memory un = memory_left un.left

    pub fault_works : (fault : StoreFault) → Unsettled at.keeper fault → Works Init function at (Err (ending_of_store fault))
    fault_works fault un = record {
      comes = (fault_does fault un, memory_left un.left);
      later = record { kept = reads.kept; folder = reads.later; keeper = un.later };
    }

    pub settled_works : (answer : InitAnswer) → Settled file.bytes at.keeper answer → (result : Result Reply Ending) → Tells (init_said answer) result → Works Init function at result
    settled_works answer settled result tells = record {
      comes = comes_one (Does Init function at) (init_said answer) (one (init_said answer) (inl refl) (init_facts at answer settled.leaves settled.cause))
          (one memory_said (inr refl) (record { cause = memory_cause at; leaves = inr (inr (inr refl)); sound = memory_sound })) result tells;
      later = record { kept = reads.kept; folder = reads.later; keeper = settled.later };
    }
      where
        one : (said : Tried) → (said ≡ init_said answer) ⊎ (said ≡ memory_said) → Facts Init at said → Does Init function at said
        one said is facts = does Init function at said (read_says said (λ store e. inl (record {
          answer = answer;
          store' = (settled.step store e).0;
          step = (settled.step store e).1;
          told_is = (settled.step store e).2;
          says = is;
        }))) facts.cause facts.leaves facts.sound
