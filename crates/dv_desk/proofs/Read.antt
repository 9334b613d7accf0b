-- What is read of an office is what is due in the state that it stands for, and by its store.
use Rattle.dv_desk.proofs.Vocabulary.{Answer, AreInNoState, Bool, CanReply, Contains, Damage, DigestFunction, Due, Err, HasSealed, HasZeroKeys, Hashes, Heads, Held, IfOk, IfSome, IsDue, IsErrOf, IsIn, IsPitAt, IsQuiet, IsReadAs, IsReadBy, IsReadCause, IsRowOf, IsStoredDamage, IsStoredFor, List}
use Rattle.dv_desk.proofs.Vocabulary.{Looked, LookedBy, Mapping, MartAt, Moment, None, Ok, Option, Pit, PitAt, Query, QueryRule, RawVault, Read, ReadOffice, Result, Rose, SnapHead, SnapId, Some, State, Store, StoredFault, TableId, TableOf, Told, What, Window, answer_of_stored, ap, arith}
use Rattle.dv_desk.proofs.Vocabulary.{bad_date, begun_load, due_by, false, find_none, has_table, hashes_of, head_at, heads_body, hub_place, if◌then◌else◌, inl, inr, list_any, list_any-map, made_stale, mart_at, mart_due, mart_for, mart_text, named_among, no_fault, none_found_at, none_pass}
use Rattle.dv_desk.proofs.Vocabulary.{none_passes, of_width, offered_mart, or_memory, pit, pit_at, pit_due, pit_for, pit_text, refl, rows_in, rows_there, snap_text, snapshot, staged, stamp_of, stored_pit, subst, sym, table_for, table_named, table_text, tables, text_or, true, zero_keys, ℕ, ◌==◌}
use Rattle.dv_desk.proofs.Vocabulary.{◌↔◌, ◌∙◌, ◌≡◌, ◌≤◌}
use Rattle.dv_window.specs.declared.stored.StoredFault.TheVariants as stored
pub use Rattle.dv_window.proofs.StartFacts.{none_of}
use Rattle.dv_desk.specs.declared.answers.Answer.TheVariants as answers

-- ---- what needs the office alone

-- what is said of an answer says more of it
pub so_answered : {E : Type 0} (P Q : Answer → Type 0) → ((answer : Answer) → P answer → Q answer) → (r : Result Answer E) → IfOk r P → IfOk r Q
so_answered P Q so (Ok answer) is = so answer is
so_answered P Q so (Err e) is = tt

-- what is due is due also where it is said in other words
looked_so : (due due' : Due) (held : Held) (answer : Answer) → ((hashes : Hashes) (state : State) (s : Store) → due hashes state s ≡ due' hashes state s) → LookedBy due held answer → LookedBy due' held answer
looked_so due due' held answer same looked = record {
  due_is = λ function state s agrees stands. looked.due_is function state s agrees stands ∙ same (hashes_of function) state s;
  quiet = looked.quiet;
}

pub looked_is : (due : Due) (held : Held) (answer : Answer) → IsQuiet answer → ((hashes : Hashes) (state : State) (s : Store) → answer ≡ due hashes state s) → LookedBy due held answer
looked_is due held answer quiet is = record { due_is = λ function state s agrees stands. is (hashes_of function) state s; quiet = quiet }

-- ---- the windows

pub heads_looked : (held : Held) (text : List ℕ) → text ≡ heads_body held.vault.mapping held.vault.heads (begun_load (staged held)) → Looked Heads held (answers.Heads text)
heads_looked held text is = record {
  due_is = λ function state s agrees stands. ap answers.Heads (
      is
      ∙ ap (λ heads. heads_body held.vault.mapping heads (begun_load (staged held))) (sym agrees.kept.windows)
      ∙ ap (λ stage. heads_body held.vault.mapping s.windows (begun_load stage)) (sym agrees.kept.stage));
  quiet = tt;
}

-- ---- marts

-- what is said of the office's vault is said of the sealed windows of a state
pub mart_looked : (office : Held) (what : What) (at : ℕ) (raw : RawVault) → raw ≡ office.vault → (r : Result (List ℕ) QueryRule)
    → ((hashes : Hashes) (sealed : List Window) → HasZeroKeys hashes → HasSealed hashes sealed raw → mart_text raw.mapping hashes sealed raw.tables what at ≡ r)
    → (answer : Answer) → answer ≡ text_or r → IsQuiet answer → LookedBy (mart_due what at office) office answer
mart_looked office what at raw raw_is r makes answer answer_is quiet = record {
  due_is = λ function state s agrees stood.
      let hashes = hashes_of function in
      answer_is ∙ sym (ap text_or (
      ap (λ entries. mart_text office.vault.mapping hashes state.sealed entries what at) (sym stood.sealed_are.tables_are)
      ∙ subst (λ (v : RawVault). mart_text v.mapping hashes state.sealed v.tables what at ≡ r) raw_is (makes hashes state.sealed (zero_keys function) (subst (HasSealed hashes state.sealed) (sym raw_is) stood.sealed_are))));
  quiet = quiet;
}

module _ (held : Held) (word date : List ℕ) where
  pub unknown_mart : offered_mart held.vault.mapping word ≡ None → Looked (MartAt word date) held answers.NotFound
  unknown_mart none = looked_is (due_by (MartAt word date) held) held answers.NotFound tt (λ hashes state s. sym (ap (mart_for held.vault.mapping hashes state date) none))

  module _ {E : Type 0} (what : What) (offered : offered_mart held.vault.mapping word ≡ Some what) (r : Result Answer E) where
    pub undated_mart : stamp_of date ≡ None → IfOk r (λ answer. answer ≡ bad_date date) → IfOk r (Looked (MartAt word date) held)
    undated_mart none is = so_answered (λ answer. answer ≡ bad_date date) (Looked (MartAt word date) held)
        (λ answer same. looked_is (due_by (MartAt word date) held) held answer (subst IsQuiet (sym same) tt)
        (λ hashes state s. same ∙ sym (ap (mart_for held.vault.mapping hashes state date) offered ∙ ap (mart_at held.vault.mapping hashes state what date) none))) r is

    pub dated_mart : (at : ℕ) → stamp_of date ≡ Some at → IfOk r (LookedBy (mart_due what at held) held) → IfOk r (Looked (MartAt word date) held)
    dated_mart at dated is = so_answered (LookedBy (mart_due what at held) held) (Looked (MartAt word date) held)
        (λ answer. looked_so (mart_due what at held) (due_by (MartAt word date) held) held answer
        (λ hashes state s. sym (ap (mart_for held.vault.mapping hashes state date) offered ∙ ap (mart_at held.vault.mapping hashes state what date) dated))) r is

-- ---- raw tables

-- a table with a name is one of the mapping
pub named_there : {E : Type 0} (mapping : Mapping) (name : List ℕ) (r : Result (Option TableId) E) → IfOk r (λ table. table ≡ table_named mapping name) → IfOk r (λ table. IfSome table (Contains (tables mapping)))
named_there mapping name (Ok (Some table)) is = named_among mapping name table (sym is)
named_there mapping name (Ok None) is = tt
named_there mapping name (Err e) is = tt

pub unknown_table : (held : Held) (name : List ℕ) → table_named held.vault.mapping name ≡ None → Looked (TableOf name) held answers.NotFound
unknown_table held name none = looked_is (due_by (TableOf name) held) held answers.NotFound tt (λ hashes state s. sym (ap (table_for held.vault.mapping s) none))

pub table_looked : (held : Held) (name : List ℕ) (table : TableId) → table_named held.vault.mapping name ≡ Some table → has_table table (rows_there held.vault held.begun) ≡ true
    → (text : List ℕ) → text ≡ table_text held.vault.mapping table (rows_in table (rows_there held.vault held.begun)) → Looked (TableOf name) held (answers.Rows text)
table_looked held name table named there text is = record {
  due_is = λ function state s agrees stands. ap answers.Rows (is ∙ ap (table_text held.vault.mapping table) (sym (agrees.kept.tables_are table there))) ∙ sym (ap (table_for held.vault.mapping s) named);
  quiet = tt;
}

-- ---- what is read by a desk

quiet_cause : (IsFor : SnapId → ℕ → Type 0) (before after : Moment) (answer : Answer) → IsQuiet answer → IsReadCause IsFor before after answer
quiet_cause IsFor before after answers.Keeper none = absurd none
quiet_cause IsFor before after (answers.Damaged damage) none = absurd none
quiet_cause IsFor before after (answers.NotAllowed methods) none = none
quiet_cause IsFor before after answer quiet = tt

quiet_office : (held : Held) (answer : Answer) → IsQuiet answer → ReadOffice answer held held
quiet_office held answers.Keeper none = absurd none
quiet_office held answer quiet = refl

-- what needs no keeper is read so
quiet_read : (due : Due) (IsFor : SnapId → ℕ → Type 0) (answer : Answer) (moment : Moment) → IsQuiet answer
    → ((function : DigestFunction) (state : State) (s : Store) → moment.store ≡ Some s → IsIn (hashes_of function) state moment.held (Some s) → IsDue (due (hashes_of function) state s) answer)
    → IsReadBy due IsFor answer moment moment
quiet_read due IsFor answer moment quiet is = record {
  due_is = λ function state s told is_in wide. is function state s told is_in;
  cause = quiet_cause IsFor moment moment answer quiet;
  office = quiet_office moment.held answer quiet;
  store = refl;
  later = omega arith;
}

pub memory_read : (due : Due) (IsFor : SnapId → ℕ → Type 0) (moment : Moment) → IsReadBy due IsFor answers.Memory moment moment
memory_read due IsFor moment = quiet_read due IsFor answers.Memory moment tt (λ function state s told is_in. inr (inr refl))

module _ {E : Type 0} (query : Query) (moment : Moment) (fresh : moment.held.stale ≡ false) (agrees : CanReply moment) where
  pub looked_read : (r : Result Answer E) → IfOk r (Looked query moment.held) → IsReadAs query (or_memory r) moment moment
  looked_read (Err memory) none = memory_read (due_by query moment.held) (IsStoredFor moment.held.vault.mapping (Read query)) moment
  looked_read (Ok answer) looked = quiet_read (due_by query moment.held) (IsStoredFor moment.held.vault.mapping (Read query)) answer moment looked.quiet
      (λ function state s told is_in. inl (looked.due_is function state s (agrees fresh s told) (is_in.stands fresh)))

-- ---- tables of stored snapshots

module _ (name date : List ℕ) (moment : Moment) where
  abbrev IsPitRead : Answer → Moment → Type 0
  IsPitRead answer after = IsReadAs (PitAt name date) answer moment after

  abbrev mapping : Mapping
  mapping = moment.held.vault.mapping

  abbrev IsFor : SnapId → ℕ → Type 0
  IsFor = IsStoredFor mapping (Read (PitAt name date))

  pub unnamed_pit : IsPitRead answers.Memory moment
  unnamed_pit = memory_read (due_by (PitAt name date) moment.held) IsFor moment

  pub unknown_pit : hub_place mapping name ≡ None → IsPitRead answers.NotFound moment
  unknown_pit none = quiet_read (due_by (PitAt name date) moment.held) IsFor answers.NotFound moment tt
      (λ function state s told is_in. inl (sym (ap (pit_for mapping (hashes_of function) state date) none)))

  module _ (hub : ℕ) (named : hub_place mapping name ≡ Some hub) where
    pub undated_pit : {E : Type 0} → stamp_of date ≡ None → (r : Result Answer E) → IfOk r (λ answer. answer ≡ bad_date date) → IsPitRead (or_memory r) moment
    undated_pit none (Err memory) is = unnamed_pit
    undated_pit none (Ok answer) is = quiet_read (due_by (PitAt name date) moment.held) IsFor answer moment (subst IsQuiet (sym is) tt)
        (λ function state s told is_in. inl (is ∙ sym (ap (pit_for mapping (hashes_of function) state date) named ∙ ap (pit_at mapping (hashes_of function) state hub date) none)))

    module _ (at : ℕ) (dated : stamp_of date ≡ Some at) (after : Moment) where
      pit_cause : (answer : Answer) → IsReadCause (IsPitAt hub at) moment after answer → IsReadCause IsFor moment after answer
      pit_cause answers.Keeper rose = rose
      pit_cause (answers.Damaged damage) (id, when, (id_is, when_is), is, row) = (id, when, (hub, named, dated ∙ ap Some (sym when_is), id_is), is, row)
      pit_cause (answers.NotAllowed methods) none = none
      pit_cause answer cause = tt

      pub dated_pit : (answer : Answer) → IsReadBy (pit_due hub at moment.held) (IsPitAt hub at) answer moment after → IsPitRead answer after
      dated_pit answer read = record {
        due_is = λ function state s told is_in wide. subst (λ due. IsDue due answer)
            (sym (ap (pit_for mapping (hashes_of function) state date) named ∙ ap (pit_at mapping (hashes_of function) state hub date) dated)) (read.due_is function state s told is_in wide);
        cause = pit_cause answer read.cause;
        office = read.office;
        store = read.store;
        later = read.later;
      }

-- a snapshot is at a date
abbrev is_at : ℕ → SnapHead → Bool
is_at at head = head.date == at

-- none is found exactly where none is there
none_there : (at : ℕ) (heads : List SnapHead) → head_at at heads ≡ None → list_any (is_at at) heads ≡ false
none_there at heads none = none_pass (is_at at) heads (λ head has. none_found_at (is_at at) heads head none has)

one_there : (at : ℕ) (heads : List SnapHead) → (head_at at heads ≡ None → ⊥) → list_any (is_at at) heads ≡ true
one_there at heads found = by (list_any (is_at at) heads) refl
  where
    by : (there : Bool) → list_any (is_at at) heads ≡ there → there ≡ true
    by true e = refl
    by false e = absurd (found (find_none (is_at at) heads (λ head has. none_passes (is_at at) heads head e has)))

module _ (hashes : Hashes) (state : State) (held : Held) (s : Store) (is_in : IsIn hashes state held (Some s)) (fresh : held.stale ≡ false) (hub at : ℕ) where
  -- whether a snapshot is stored at the date, as the office has it and as a state does
  heads_tell : list_any (is_at at) held.snapshots ≡ list_any (λ other. other == at) state.dates
  heads_tell = ap (list_any (is_at at)) (is_in.stands fresh).snapshots_are ∙ list_any-map (is_at at) (λ d. (snapshot held.vault.mapping hashes state.sealed d).head) state.dates

  abbrev table_of : List ℕ
  table_of = pit_text held.vault.mapping hub at (pit held.vault.mapping hashes state.sealed hub at)

  stored_by : (there : Bool) → list_any (is_at at) held.snapshots ≡ there → (if there then answers.Rows table_of else answers.NotFound) ≡ stored_pit held.vault.mapping hashes state hub at
  stored_by there is = ap (λ b. if b then answers.Rows table_of else answers.NotFound) (sym is ∙ heads_tell)

  pub pit_texted : (head_at at held.snapshots ≡ None → ⊥) → (text : List ℕ) → text ≡ table_of → IsDue (stored_pit held.vault.mapping hashes state hub at) (answers.Rows text)
  pit_texted found text is = inl (ap answers.Rows is ∙ stored_by true (one_there at held.snapshots found))

  pub pit_none : head_at at held.snapshots ≡ None → IsDue (stored_pit held.vault.mapping hashes state hub at) answers.NotFound
  pit_none none = inl (stored_by false (none_there at held.snapshots none))

-- what is said of the text of a stored table
pub record Stored (hub at : ℕ) (before after : Moment) (r : Result (List ℕ) StoredFault) : Type 0 where
  pub absent : IsErrOf r stored.NoSnapshot ↔ (head_at at before.held.snapshots ≡ None)
  pub damaged : (damage : Damage) → IsErrOf r (stored.Damaged damage) → Told before.store (λ s. IsStoredDamage before.held (Pit hub) at s.snapshots damage)
  pub formed : (damage : Damage) → IsErrOf r (stored.Damaged damage) → IsRowOf before.held.vault.mapping (Pit hub) damage
  pub state : IfOk r (λ text. (hashes : Hashes) (state : State) (s : Store) → before.store ≡ Some s → IsIn hashes state before.held (Some s) → text ≡ snap_text before.held.vault.mapping hashes state.sealed (Pit hub) at)
  pub undamaged : (damage : Damage) → IsErrOf r (stored.Damaged damage) → AreInNoState before.held before.store
  pub stale : IsErrOf r stored.KeeperFault → after.held ≡ made_stale before.held
  pub left : (IsErrOf r stored.KeeperFault → ⊥) → after.held ≡ before.held
  pub kept : after.store ≡ before.store
  pub cause : IsErrOf r stored.KeeperFault → Rose before.faults after.faults
  pub later : before.faults ≤ after.faults

module _ (hub at : ℕ) (before after : Moment) (fresh : before.held.stale ≡ false) where
  -- what is read so, by why this is due and what is left
  stored_as : (answer : Answer) (r : Result (List ℕ) StoredFault) → Stored hub at before after r
      → ((function : DigestFunction) (state : State) (s : Store) → before.store ≡ Some s → IsIn (hashes_of function) state before.held (Some s) → before.held.width ≡ function.width
      → IsDue (stored_pit before.held.vault.mapping (hashes_of function) state hub at) answer)
      → IsReadCause (IsPitAt hub at) before after answer → ReadOffice answer before.held after.held → IsReadBy (pit_due hub at before.held) (IsPitAt hub at) answer before after
  stored_as answer r told due cause office = record { due_is = due; cause = cause; office = office; store = told.kept; later = told.later }

  pub stored_read : (r : Result (List ℕ) StoredFault) → Stored hub at before after r → IsReadBy (pit_due hub at before.held) (IsPitAt hub at) (answer_of_stored r) before after
  stored_read (Ok text) told = stored_as (answers.Rows text) (Ok text) told
      (λ function state s is is_in wide. pit_texted (hashes_of function) state before.held s is_in fresh hub at (λ none. no_fault text stored.NoSnapshot (told.absent.1 none)) text (told.state (hashes_of function) state s is is_in))
      tt (told.left (no_fault text stored.KeeperFault))
  stored_read (Err stored.NoSnapshot) told = stored_as answers.NotFound (Err stored.NoSnapshot) told
      (λ function state s is is_in wide. pit_none (hashes_of function) state before.held s is_in fresh hub at (told.absent.0 refl)) tt (told.left (λ e. cc))
  stored_read (Err (stored.Damaged damage)) told = stored_as (answers.Damaged damage) (Err (stored.Damaged damage)) told
      (λ function state s is is_in wide. absurd (told.undamaged damage refl (hashes_of function) state s is is_in (λ refs. (of_width function).hash refs ∙ sym wide)))
      (Pit hub, at, (refl, refl), told.damaged damage refl, told.formed damage refl) (told.left (λ e. cc))
  stored_read (Err stored.KeeperFault) told = stored_as answers.Keeper (Err stored.KeeperFault) told (λ function state s is is_in wide. inr (inl refl)) (told.cause refl) (told.stale refl)
  stored_read (Err stored.Memory) told = stored_as answers.Memory (Err stored.Memory) told (λ function state s is is_in wide. inr (inr refl)) tt (told.left (λ e. cc))
