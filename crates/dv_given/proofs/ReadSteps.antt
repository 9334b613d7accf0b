-- What comes of reading a folder, behind what was read of it before and by what its parts come to.
use Rattle.dv_given.proofs.Vocabulary.{Ending, Err, IsBringEnd, IsReadCause, List, NamedFile, Ok, Option, Reads, Result, Seen, Some, arith, ℕ, ◌∙◌, ◌≡◌, ◌≤◌}
use Rattle.dv_given.proofs.EndSteps.{bring_cause, bring_end_so, if_err_so, if_ok_so}

-- what reads a folder
abbrev Given : Type 0 → Type 1
Given T = List NamedFile → T → Type 0

-- why nothing was given
abbrev Ended : Type 1
Ended = List NamedFile → Ending → Type 0

-- what is seen between two moments
abbrev pub between : {A : Type 0} → Option A → Option A → ℕ → ℕ → Seen A
between old new before now = record { old = old; new = new; before = before; now = now }

-- what is seen from the first moment to the last
abbrev pub joined : {A : Type 0} → Seen A → Seen A → Seen A
joined first more = record { old = first.old; new = more.new; before = first.before; now = more.now }

-- the same reading, told otherwise
pub reads_so : {T : Type 0} {G H : Given T} {D E : Ended} {C : ℕ → ℕ → Ending → Type 0} → ((files : List NamedFile) (value : T) → G files value → H files value)
    → ((files : List NamedFile) (ending : Ending) → D files ending → E files ending) → (folder : Seen (List NamedFile)) (result : Result T Ending) → Reads G D C folder result → Reads H E C folder result
reads_so gives ends folder result reads = record {
  ok = if_ok_so (λ value so files told. gives files value (so files told)) result reads.ok;
  ends = if_err_so (λ ending so files told. ends files ending (so files told)) result reads.ends;
  cause = reads.cause;
  kept = reads.kept;
  later = reads.later;
}

-- nothing was given, and so nothing of which it is a part
pub reads_none : {T U : Type 0} {G : Given T} {H : Given U} {D E : Ended} {C : ℕ → ℕ → Ending → Type 0} → ((files : List NamedFile) (ending : Ending) → D files ending → E files ending)
    → (folder : Seen (List NamedFile)) (ending : Ending) → Reads G D C folder (Err ending) → Reads H E C folder (Err ending)
reads_none ends folder ending reads = record { ok = tt; ends = λ files told. ends files ending (reads.ends files told); cause = reads.cause; kept = reads.kept; later = reads.later }

-- it was given, and what is made of it
pub reads_made : {T U : Type 0} {G : Given T} {H : Given U} {D E : Ended} {C B : ℕ → ℕ → Ending → Type 0} (folder : Seen (List NamedFile)) (value : T) (made : U)
    → ((files : List NamedFile) → G files value → H files made) → Reads G D C folder (Ok value) → Reads H E B folder (Ok made)
reads_made folder value made makes reads = record { ok = λ files told. makes files (reads.ok files told); ends = tt; cause = tt; kept = reads.kept; later = reads.later }

-- it was given, and cannot be used
pub reads_ended : {T U : Type 0} {G : Given T} {H : Given U} {D E : Ended} {C B : ℕ → ℕ → Ending → Type 0} (folder : Seen (List NamedFile)) (value : T) (ending : Ending)
    → B folder.before folder.now ending → ((files : List NamedFile) → G files value → E files ending) → Reads G D C folder (Ok value) → Reads H E B folder (Err ending)
reads_ended folder value ending cause ends reads = record { ok = tt; ends = λ files told. ends files (reads.ok files told); cause = cause; kept = reads.kept; later = reads.later }

-- behind what was read before
module _ (old mid new : Option (List NamedFile)) (before then now : ℕ) (kept : mid ≡ old) (later : before ≤ then) where
  -- why nothing was given
  pub behind_none : {T U : Type 0} {G : Given T} {H : Given U} {D E : Ended} (ending : Ending) → ((files : List NamedFile) → old ≡ Some files → D files ending → E files ending)
      → Reads G D IsBringEnd (between mid new then now) (Err ending) → Reads H E IsBringEnd (between old new before now) (Err ending)
  behind_none ending ends reads = record {
    ok = tt;
    ends = λ files told. ends files told (reads.ends files (kept ∙ told));
    cause = bring_end_so before then now later ending reads.cause;
    kept = reads.kept ∙ kept;
    later = omega (arith, later, reads.later);
  }

  -- what was given, or why nothing was
  pub behind_all : {T : Type 0} {G H : Given T} {D E : Ended} → ((files : List NamedFile) → old ≡ Some files → (value : T) → G files value → H files value)
      → ((files : List NamedFile) → old ≡ Some files → (ending : Ending) → D files ending → E files ending)
      → (result : Result T Ending) → Reads G D IsBringEnd (between mid new then now) result → Reads H E IsBringEnd (between old new before now) result
  behind_all gives ends (Ok value) reads = record {
    ok = λ files told. gives files told value (reads.ok files (kept ∙ told));
    ends = tt;
    cause = tt;
    kept = reads.kept ∙ kept;
    later = omega (arith, later, reads.later);
  }
  behind_all gives ends (Err ending) reads = behind_none ending (λ files told. ends files told ending) reads

-- what ends the bringing of files ends other readings
pub reads_by_cause : {T U : Type 0} {G : Given T} {H : Given U} {D E : Ended} → ((files : List NamedFile) (ending : Ending) → D files ending → E files ending)
    → (folder : Seen (List NamedFile)) (ending : Ending) → Reads G D IsBringEnd folder (Err ending) → Reads H E IsReadCause folder (Err ending)
reads_by_cause ends folder ending reads = record {
  ok = tt;
  ends = λ files told. ends files ending (reads.ends files told);
  cause = bring_cause folder.before folder.now ending reads.cause;
  kept = reads.kept;
  later = reads.later;
}
