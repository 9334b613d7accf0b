-- What `run` promises of a call, by what the words ask for.
use Rattle.dv_app.proofs.Vocabulary.{ChangesAsSaid, Command, CommandCompletes, CommandSays, DamageIsNamed, DigestFunction, Does, Ends, EndsAs, EndsAside, EndsAt, ExerciseSays, Exercises, Gives, Global, HadAll, Init, IsBroken, IsCause, IsCauseOf, IsCaused, IsRefusal, IsText, KeptCommand, Leaves}
use Rattle.dv_app.proofs.Vocabulary.{LeavesStore, List, Load, Mart, MayChange, NoCommand, NoneFell, OnKeeper, Ran, Resume, Rose, Seen, Snapshot, Status, Store, Stored, String, Table, Trial, TrialSays, Tried, Tries, TrySays, Wanted, Windows, World, [], after, after-nil, ap, asked_of, ended}
use Rattle.dv_app.proofs.Vocabulary.{got_nothing, inl, inr, memory_line, memory_said, places_of, refl, sight_of, subst, sym, trial_of, tried_of, usage_said, ℕ, ⊎_elim, ◌∙◌, ◌≡◌, ◌⊎◌}
use Rattle.dv_outside.specs.declared.statuses.Status.TheVariants as statuses

-- ---- what is written

-- a line, or a text, that is written or cut
pub line_ends : (status : Status) (line : List ℕ) (out err : Seen (List ℕ)) (result : Status) → out.new ≡ out.old → EndsAt status line err.old err.new err.before err.now result → EndsAs (ended status line) out err result
line_ends status line out err result quiet (inl said) = inl (record { text = quiet ∙ sym (after-nil out.old); lines = said.is; status_is = sym said.status_is })
line_ends status line out err result quiet (inr cut) = inr (record { text = got_nothing out.old out.new [] quiet; lines = cut.got; status_is = cut.status_is; rose = inr cut.rose })

-- ---- what is changed, and what a status leaves

-- a text says of no change
text_stays : (command : KeptCommand) → IsText (OnKeeper command) → (said : Tried) → MayChange command said → ⊥
text_stays (Mart what date) text said may = may
text_stays (Table name) text said may = may
text_stays Windows text said may = may
text_stays (Stored table date) text said may = may
text_stays Init text said may = text
text_stays (Load name) text said may = text
text_stays Resume text said may = text
text_stays (Snapshot date) text said may = text

-- nor does one of these statuses
broken_stays : (said : Tried) → IsBroken said → IsRefusal said.status → ⊥
broken_stays said (inl is) refused = subst (λ (t : Tried). IsRefusal t.status) is refused
broken_stays said (inr is) refused = subst (λ (t : Tried). IsRefusal t.status) is refused

refusal_stays : (command : KeptCommand) (said : Tried) → MayChange command said → IsRefusal said.status → ⊥
refusal_stays Init said (inl is) refused = subst (λ (t : Tried). IsRefusal t.status) is refused
refusal_stays (Load name) said (inl (rows, is)) refused = subst (λ (t : Tried). IsRefusal t.status) is refused
refusal_stays Resume said (inl (rows, is)) refused = subst (λ (t : Tried). IsRefusal t.status) is refused
refusal_stays (Snapshot date) said (inl (rows, is)) refused = subst (λ (t : Tried). IsRefusal t.status) is refused
refusal_stays Init said (inr broke) refused = broken_stays said broke refused
refusal_stays (Load name) said (inr broke) refused = broken_stays said broke refused
refusal_stays Resume said (inr broke) refused = broken_stays said broke refused
refusal_stays (Snapshot date) said (inr broke) refused = broken_stays said broke refused
refusal_stays (Mart what date) said may refused = may
refusal_stays (Table name) said may refused = may
refusal_stays Windows said may refused = may
refusal_stays (Stored table date) said may refused = may

module _ (function : DigestFunction) (w : World Store) (result : Status) where
  -- ---- a thing that is said, or a front of it

  -- it is written whole where nothing failed
  whole : (said : Tried) → HadAll w result → Ends said w result → Gives said w.out w.err result
  whole said had (inl gives) = gives
  whole said had (inr cut) = absurd (⊎_elim had.text had.lines cut.rose)

  -- what follows of its status follows of the result
  of_status : (said : Tried) (P : Status → Type 0) → (w.err.new ≡ after w.err.old said.err → P said.status) → (Rose w.out.before w.out.now ⊎ Rose w.err.before w.err.now → P statuses.WriteFault) → Ends said w result → P result
  of_status said P so cut_so (inl gives) = subst P gives.status_is (so gives.lines)
  of_status said P so cut_so (inr cut) = subst P (sym cut.status_is) (cut_so cut.rose)

  not_damaged : (said : Tried) → (said.status ≡ statuses.Damaged → ⊥) → Ends said w result → result ≡ statuses.Damaged → ⊥
  not_damaged said other ends = of_status said (λ s. s ≡ statuses.Damaged → ⊥) (λ wrote. other) (λ rose is. let no : statuses.WriteFault ≡ statuses.Damaged = is in cc) ends

  module _ (words : List (String Global)) (kept : w.folder.new ≡ w.folder.old) (fell : NoneFell w) where
    -- ---- a command on what is kept

    module _ (command : KeptCommand) (is : asked_of words ≡ OnKeeper command) (said : Tried) (does : Does command function (places_of w) said) (ends : Ends said w result) where
      written : (text : List ℕ) → w.err.new ≡ after w.err.old text → (status : Status) → IsCauseOf (places_of w) text status → IsCause (OnKeeper command) w status
      written text wrote statuses.Done cause = tt
      written text wrote statuses.Refused cause = (text, cause, wrote)
      written text wrote statuses.Usage cause = absurd cause
      written text wrote statuses.Mapping cause = (text, cause, wrote)
      written text wrote statuses.ReadFault cause = (text, cause, wrote)
      written text wrote statuses.KeeperFault cause = (tt, (text, cause.0, wrote), cause.1)
      written text wrote statuses.WriteFault cause = absurd cause
      written text wrote statuses.Memory cause = (text, cause, wrote)
      written text wrote statuses.Damaged cause = (tt, (text, cause, wrote))

      left_by : Leaves command w.keeper said → LeavesStore (OnKeeper command) result → w.keeper.new ≡ w.keeper.old
      left_by (inl left) leaves = left
      left_by (inr may) (inl text) = absurd (text_stays command text said may)
      left_by (inr may) (inr refused) = absurd (of_status said (λ s. IsRefusal s → ⊥) (λ wrote. refusal_stays command said may) (λ rose none. none) ends refused)

      named : result ≡ statuses.Damaged → DamageIsNamed (OnKeeper command) function w
      named damaged = of_status said (λ s. s ≡ statuses.Damaged → DamageIsNamed (OnKeeper command) function w)
          (λ wrote is_damaged. let names = does.damage is_damaged in (names.0, wrote ∙ ap (λ (t : Tried). after w.err.old t.err) names.1, names.2))
          (λ rose none. let no : statuses.WriteFault ≡ statuses.Damaged = none in cc) ends damaged

      pub keeper_ran : Ran words function w result
      keeper_ran = record {
        says = inl (subst (λ c. CommandSays c function w result) (sym is) (said, ends, does));
        complete = λ had. subst (λ c. CommandCompletes c function w result) (sym is) (said, whole said had ends, does);
        causes = subst (λ c. IsCause c w result) (sym is) (of_status said (IsCause (OnKeeper command) w) (λ wrote. written said.err wrote said.status does.cause) (λ rose. rose) ends);
        leaves = λ leaves. left_by does.leaves (subst (λ c. LeavesStore c result) is leaves);
        changes = subst (λ c. ChangesAsSaid c w result) (sym is) (said, ends, does.leaves);
        damaged = λ damaged. subst (λ c. DamageIsNamed c function w) (sym is) (named damaged);
        sound = λ damaged. (named damaged).2.stands_for_none;
        kept = kept;
        later = fell;
      }

    module _ (same : w.keeper.new ≡ w.keeper.old) where
      -- ---- a command that keeps nothing

      caused : (asked : Command) (status : Status) → IsCaused (sight_of w) status → IsCause asked w status
      caused asked statuses.Done cause = tt
      caused asked statuses.Refused cause = cause
      caused asked statuses.Usage cause = absurd cause
      caused asked statuses.Mapping cause = (cause.0, inl cause.1, cause.2)
      caused asked statuses.ReadFault cause = cause
      caused asked statuses.KeeperFault cause = absurd cause
      caused asked statuses.WriteFault cause = cause
      caused asked statuses.Memory cause = cause
      caused asked statuses.Damaged cause = absurd cause

      never_damaged : IsCaused (sight_of w) result → result ≡ statuses.Damaged → ⊥
      never_damaged cause damaged = subst (IsCaused (sight_of w)) damaged cause

      module _ (asked : Wanted) (is : asked_of words ≡ Tries asked) (cause : IsCaused (sight_of w) result) (says : TrySays function asked (sight_of w) result) where
        gives_by : HadAll w result → (t : Trial) (status : Status) → result ≡ status → IsCaused (sight_of w) status → TrialSays t (sight_of w) status → Gives (tried_of t) w.out w.err status
        gives_by had t statuses.Done e cause gives = gives
        gives_by had t statuses.Refused e cause gives = gives
        gives_by had t statuses.Mapping e cause gives = gives
        gives_by had t statuses.ReadFault e cause (inl gives) = gives
        gives_by had t statuses.ReadFault e cause (inr broke) = absurd (had.read broke.1)
        gives_by had t statuses.Memory e cause broke = absurd (had.memory e)
        gives_by had t statuses.WriteFault e cause cut = absurd (⊎_elim had.text had.lines cause)
        gives_by had t status e cause none = absurd none

        pub tries_ran : Ran words function w result
        tries_ran = record {
          says = inl (subst (λ c. CommandSays c function w result) (sym is) says);
          complete = λ had. subst (λ c. CommandCompletes c function w result) (sym is) (λ files e. gives_by had (trial_of function asked files) result refl cause (says files e));
          causes = subst (λ c. IsCause c w result) (sym is) (caused (Tries asked) result cause);
          leaves = λ leaves. same;
          changes = subst (λ c. ChangesAsSaid c w result) (sym is) same;
          damaged = λ damaged. absurd (never_damaged cause damaged);
          sound = λ damaged standing. never_damaged cause damaged;
          kept = kept;
          later = fell;
        }

      module _ (count : ℕ) (is : asked_of words ≡ Exercises count) (cause : IsCaused (sight_of w) result) (says : ExerciseSays function count w.out w.err result) where
        exercised_whole : HadAll w result → (status : Status) → result ≡ status → IsCaused (sight_of w) status → ExerciseSays function count w.out w.err status
            → (result ≡ statuses.Done) × ExerciseSays function count w.out w.err statuses.Done
        exercised_whole had statuses.Done e cause said = (e, said)
        exercised_whole had statuses.Memory e cause said = absurd (had.memory e)
        exercised_whole had statuses.WriteFault e cause said = absurd (⊎_elim had.text had.lines cause)
        exercised_whole had status e cause said = absurd said

        pub exercises_ran : Ran words function w result
        exercises_ran = record {
          says = inl (subst (λ c. CommandSays c function w result) (sym is) says);
          complete = λ had. subst (λ c. CommandCompletes c function w result) (sym is) (exercised_whole had result refl cause says);
          causes = subst (λ c. IsCause c w result) (sym is) (caused (Exercises count) result cause);
          leaves = λ leaves. same;
          changes = subst (λ c. ChangesAsSaid c w result) (sym is) same;
          damaged = λ damaged. absurd (never_damaged cause damaged);
          sound = λ damaged standing. never_damaged cause damaged;
          kept = kept;
          later = fell;
        }

      -- ---- words that are no command, and memory that ran out before

      usage_damaged : Ends usage_said w result → result ≡ statuses.Damaged → ⊥
      usage_damaged ends = not_damaged usage_said (λ is. let no : statuses.Usage ≡ statuses.Damaged = is in cc) ends

      pub usage_ran : asked_of words ≡ NoCommand → EndsAside usage_said w result → Ran words function w result
      usage_ran none (ends, quiet, unasked) = record {
        says = inl (subst (λ c. CommandSays c function w result) (sym none) (ends, quiet, unasked));
        complete = λ had. subst (λ c. CommandCompletes c function w result) (sym none) (sym (whole usage_said had ends).status_is);
        causes = of_status usage_said (IsCause (asked_of words) w) (λ wrote. none) (λ rose. rose) ends;
        leaves = λ leaves. same;
        changes = subst (λ c. ChangesAsSaid c w result) (sym none) same;
        damaged = λ damaged. absurd (usage_damaged ends damaged);
        sound = λ damaged standing. usage_damaged ends damaged;
        kept = kept;
        later = fell;
      }

      memory_damaged : Ends memory_said w result → result ≡ statuses.Damaged → ⊥
      memory_damaged ends = not_damaged memory_said (λ is. let no : statuses.Memory ≡ statuses.Damaged = is in cc) ends

      never_changes : (command : Command) → Ends memory_said w result → ChangesAsSaid command w result
      never_changes (OnKeeper command) ends = (memory_said, ends, inl same)
      never_changes NoCommand ends = same
      never_changes (Tries asked) ends = same
      never_changes (Exercises count) ends = same

      pub memory_ran : EndsAside memory_said w result → Ran words function w result
      memory_ran (ends, quiet, unasked) = record {
        says = inr ((ends, quiet, unasked), same);
        complete = λ had. absurd (had.memory (sym (whole memory_said had ends).status_is));
        causes = of_status memory_said (IsCause (asked_of words) w) (λ wrote. (memory_line, ([], refl), wrote)) (λ rose. rose) ends;
        leaves = λ leaves. same;
        changes = never_changes (asked_of words) ends;
        damaged = λ damaged. absurd (memory_damaged ends damaged);
        sound = λ damaged standing. memory_damaged ends damaged;
        kept = kept;
        later = fell;
      }
