-- How what came of `try` ends the command.
use Rattle.dv_app.proofs.Vocabulary.{Absent, BadMapping, BadQuery, Bool, CutShort, DigestFunction, Ending, EndsBehind, EndsBy, EndsEarly, EndsOrMemory, Err, Gives, HasLast, IsCaused, IsCutLines, IsEnded, IsReadCause, List, Memory, NamedFile, Ok, Option, Rose, Seen, Sight, Status, TextCut, Trial}
use Rattle.dv_app.proofs.Vocabulary.{TrialSays, Tried, TriesAll, TrySays, Unread, Unwritten, Wanted, absent_line, after, after-after, after-nil, ap, arith, between, ended, ends_or, false, got_behind, got_nothing, inl, inr, line_of_ending, memory_line, query_line, read_fault_line, refl}
use Rattle.dv_app.proofs.Vocabulary.{refused_mapping_line, rose_later, status_for, status_of, subst, sym, trial_of, tried_of, true, ℕ, ⊎_elim, ◌++◌, ◌∙◌, ◌≡◌, ◌≤◌, ◌⊎◌}
use Rattle.dv_outside.specs.Ends.{Ends}
use Rattle.dv_outside.specs.declared.statuses.Status.TheVariants as statuses

-- ---- where all was written

module _ (function : DigestFunction) (w : Wanted) (s : Sight) where
  says_at_end : (t : Trial) (refused : Bool) → Gives (tried_of t) s.out s.err (status_for refused) → TrialSays t s (status_for refused)
  says_at_end t true gives = gives
  says_at_end t false gives = gives

  pub all_says : (refused : Bool) (result : Status) → result ≡ status_for refused → TriesAll function w s (Ok refused) → TrySays function w s result
  all_says refused result is all files told = subst (TrialSays (trial_of function w files) s) (sym is) (says_at_end (trial_of function w files) refused (all.gives files told))

  caused_at_end : (refused : Bool) → TriesAll function w s (Ok refused) → IsCaused s (status_for refused)
  caused_at_end true all = let wrote = all.refusal refl in (wrote.0, inr wrote.1, wrote.2)
  caused_at_end false all = tt

  pub all_caused : (refused : Bool) (result : Status) → result ≡ status_for refused → TriesAll function w s (Ok refused) → IsCaused s result
  all_caused refused result is all = subst (IsCaused s) (sym is) (caused_at_end refused all)

-- ---- where it ends early

-- what is said of the folder's files
module _ (t : Trial) (s : Sight) (quiet : s.out.new ≡ s.out.old) where
  whole : (status : Status) (text : List ℕ) → tried_of t ≡ ended status text → s.err.new ≡ after s.err.old text → Gives (tried_of t) s.out s.err status
  whole status text is said = record {
    text = quiet ∙ sym (after-nil s.out.old) ∙ ap (λ (r : Tried). after s.out.old r.out) (sym is);
    lines = said ∙ ap (λ (r : Tried). after s.err.old r.err) (sym is);
    status_is = ap (λ (r : Tried). r.status) is;
  }

  said_says : (status : Status) (text : List ℕ) → IsEnded t s.folder.before s.folder.now status text → s.err.new ≡ after s.err.old text → TrialSays t s status
  said_says statuses.ReadFault text (inl is) said = inl (whole statuses.ReadFault text is said)
  said_says statuses.ReadFault text (inr failed) said = inr (record { out = quiet; text = text; is_text = failed.0; err = said }, failed.1)
  said_says statuses.Memory text memory said = record { out = quiet; text = text; is_text = memory; err = said }
  said_says statuses.Mapping text is said = whole statuses.Mapping text is said
  said_says statuses.Refused text is said = whole statuses.Refused text is said
  said_says status text none said = absurd none

  module _ (lines : List ℕ) (heard : Option (List ℕ)) (then : ℕ) (so_far : heard ≡ after s.err.old lines) (result : Status) where
    line_says : (status : Status) (line : List ℕ) → IsEnded t s.folder.before s.folder.now status (lines ++ line) → Ends status line heard s.err.new then s.err.now result → TrialSays t s result
    line_says status line may (inl said) = subst (TrialSays t s) (sym said.status_is)
        (said_says status (lines ++ line) may (said.is ∙ ap (λ o. after o line) so_far ∙ after-after s.err.old lines line))
    line_says status line may (inr cut) = subst (TrialSays t s) (sym cut.status_is) (record {
      out = got_nothing s.out.old s.out.new _ quiet;
      text = lines ++ line;
      is_text = inr (status, may);
      err = got_behind s.err.old heard s.err.new lines line so_far cut.got;
    })

    early_says : (ending : Ending) → EndsBehind t s.folder.before s.folder.now lines ending → EndsOrMemory (status_of ending) (line_of_ending ending) (between heard s.err.new then s.err.now) result → TrialSays t s result
    early_says ending is (inl ends) = line_says (status_of ending) (line_of_ending ending) is.ended ends
    early_says ending is (inr ends) = line_says statuses.Memory memory_line is.memory ends

-- whatever the folder and the sinks tell
module _ (s : Sight) (lines : List ℕ) (heard : Option (List ℕ)) (then : ℕ) (so_far : heard ≡ after s.err.old lines) (later : s.err.before ≤ then) (result : Status) where
  by_line : (status : Status) (line : List ℕ) → ((text : List ℕ) → HasLast line text → s.err.new ≡ after s.err.old text → IsCaused s status) → Ends status line heard s.err.new then s.err.now result → IsCaused s result
  by_line status line own (inl said) = subst (IsCaused s) (sym said.status_is)
      (own (lines ++ line) (lines, refl) (said.is ∙ ap (λ o. after o line) so_far ∙ after-after s.err.old lines line))
  by_line status line own (inr cut) = subst (IsCaused s) (sym cut.status_is) (inr (rose_later s.err.before then s.err.now later cut.rose))

  by_either : (status : Status) (line : List ℕ) → ((text : List ℕ) → HasLast line text → s.err.new ≡ after s.err.old text → IsCaused s status)
      → EndsOrMemory status line (between heard s.err.new then s.err.now) result → IsCaused s result
  by_either status line own (inl ends) = by_line status line own ends
  by_either status line own (inr ends) = by_line statuses.Memory memory_line (λ text last is. (text, last, is)) ends

  early_caused : (ending : Ending) → IsReadCause s.folder.before s.folder.now ending → EndsOrMemory (status_of ending) (line_of_ending ending) (between heard s.err.new then s.err.now) result → IsCaused s result
  early_caused (BadMapping e) cause ends = by_either statuses.Mapping (refused_mapping_line e) (λ text last is. (text, (e, last), is)) ends
  early_caused (BadQuery rule) cause ends = by_either statuses.Refused (query_line rule) (λ text last is. (text, inl (rule, last), is)) ends
  early_caused (Absent file) cause ends = by_either statuses.ReadFault (absent_line file) (λ text last is. (text, (file, inl last), is)) ends
  early_caused (Unread file) cause ends = by_either statuses.ReadFault (read_fault_line file) (λ text last is. (text, (file, inr (last, cause)), is)) ends
  early_caused Memory cause ends = by_either statuses.Memory memory_line (λ text last is. (text, last, is)) ends
  early_caused ending none ends = absurd none

-- ---- where it does not come to its end

module _ (function : DigestFunction) (w : Wanted) (folder : Seen (List NamedFile)) (out : Seen (List ℕ)) (said heard says : Option (List ℕ)) (before then now : ℕ) (sooner : before ≤ then) (later : then ≤ now) (result : Status) (ending : Ending)
    (tries : TriesAll function w (record { folder = folder; out = out; err = between said heard before then }) (Err ending)) (ends : EndsBy ending (between heard says then now) result) where
  abbrev s : Sight
  s = record { folder = folder; out = out; err = between said says before now }

  abbrev mid : Sight
  mid = record { folder = folder; out = out; err = between said heard before then }

  -- nothing more is written
  unwritten : ending ≡ Unwritten → (result ≡ statuses.WriteFault) × (says ≡ heard)
  unwritten is = subst (λ e. EndsBy e (between heard says then now) result) is ends

  says_by : (EndsEarly function w mid ending ⊎ TextCut function w mid ending) → TrySays function w s result
  says_by (inl early) files told =
      early_says (trial_of function w files) s early.out early.lines heard then early.said_is result ending (early.ends files told) (ends_or folder.before folder.now _ result ending early.cause ends)
  says_by (inr cut) files told =
      let more = unwritten cut.unwritten in
      subst (TrialSays (trial_of function w files) s) (sym more.0)
      (subst (λ e. CutShort (tried_of (trial_of function w files)) (record { folder = folder; out = out; err = between said e before now }) (IsCutLines (trial_of function w files) folder.before folder.now)) (sym more.1)
      (let short = cut.cut files told in record { out = short.out; text = short.text; is_text = short.is_text; err = short.err }))

  caused_by : (EndsEarly function w mid ending ⊎ TextCut function w mid ending) → IsCaused s result
  caused_by (inl early) = early_caused s early.lines heard then early.said_is sooner result ending early.cause (ends_or folder.before folder.now _ result ending early.cause ends)
  caused_by (inr cut) = subst (IsCaused s) (sym (unwritten cut.unwritten).0) (⊎_elim (λ r. inl r) (λ r. inr (rose_more r)) cut.rose)
    where
      rose_more : Rose before then → Rose before now
      rose_more rose = omega (arith, later, rose)

  pub early_or_cut_says : TrySays function w s result
  early_or_cut_says = says_by tries

  pub early_or_cut_caused : IsCaused s result
  early_or_cut_caused = caused_by tries
