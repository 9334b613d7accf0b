-- How the parts of `try` are parts of what it says.
use Rattle.dv_app.proofs.Vocabulary.{Absent, BadMapping, BadQuery, Begins, DateEnds, DigestFunction, Ending, EndsBehind, Err, GotPrefix, HasLines, HasSealed, IsEnded, IsLoaded, IsMemory, IsReadCause, IsTextFor, LinesCut, List, Loaded, Loading, MapError, Mapping, MappingEnds, MappingFile, Memory}
use Rattle.dv_app.proofs.Vocabulary.{NamedFile, NextEnds, None, Ok, Option, Progress, QueryRule, RawVault, Readied, ReadsMapping, ReadsTrial, Result, Rose, Seen, Sight, Some, TextEnds, Trial, Tried, TriesAll, Unloaded, Unread, Unwritten, Wanted, What, WhatEnds, [], absent_line, after, after-nil}
use Rattle.dv_app.proofs.Vocabulary.{ap, arith, at_end, between, bring_cause, bring_end_so, ended, got_all, got_longer, got_nothing, hashes_of, inl, inr, joined, length, line_of_ending, lines_before, lines_of, lines_with, mapping_at, mart_text, memory_line, query_cause, query_line, reads_ended}
use Rattle.dv_app.proofs.Vocabulary.{reads_made, refl, stamp_of, start, status_for, status_of, steps, subst, sym, take, take_all, trial_of, tried_at, tried_for, tried_of, tried_with, vault, what_of, with_text, ℕ, ◌++◌, ◌∙◌, ◌≡◌, ◌≤◌, ◌⊎◌}
use Rattle.dv_outside.specs.declared.statuses.Status.TheVariants as statuses

-- the mapping over which it is loaded
abbrev mapping_of : Readied → Mapping
mapping_of readied = readied.loading.office.vault.mapping

-- ---- before the manifests

module _ (t : Trial) (before now : ℕ) where
  abbrev with_mapping : Option (Result Mapping MapError) → Tried
  with_mapping = tried_with t.hashes t.files t.what t.date t.names

  no_lines : (mapping : Option (Result Mapping MapError)) → lines_with t 0 mapping ≡ Some []
  no_lines None = refl
  no_lines (Some (Err e)) = refl
  no_lines (Some (Ok mapping)) = refl

  -- no line is written yet
  abbrev EndsIt : Ending → Type 0
  EndsIt ending = EndsBehind t before now [] ending

  no_memory : IsMemory t memory_line
  no_memory = (0, [], no_lines (mapping_at t.files), refl)

  ends_it : (ending : Ending) → IsEnded t before now (status_of ending) (line_of_ending ending) → EndsIt ending
  ends_it ending is = record { ended = is; memory = no_memory }

  memory_ends : EndsIt Memory
  memory_ends = ends_it Memory no_memory

  -- the mapping's file is not read
  mapping_ends : (ending : Ending) → MappingEnds t.files ending → IsReadCause before now ending → EndsIt ending
  mapping_ends (BadMapping e) is cause = ends_it (BadMapping e) (ap with_mapping is)
  mapping_ends (Absent file) none cause = ends_it (Absent file) (inl (ap with_mapping none.1 ∙ ap (λ f. ended statuses.ReadFault (absent_line f)) (sym none.0)))
  mapping_ends (Unread file) is cause = ends_it (Unread file) (inr ((0, [], file, no_lines (mapping_at t.files), inl (refl, is), refl), cause))
  mapping_ends Memory memory cause = memory_ends
  mapping_ends ending none cause = absurd none

  module _ (mapping : Mapping) (is : mapping_at t.files ≡ Some (Ok mapping)) where
    abbrev with_what : Option What → Tried
    with_what = tried_for mapping t.hashes t.files t.what t.date t.names

    -- the word names no mart
    what_ends : (ending : Ending) → WhatEnds mapping t.what ending → EndsIt ending
    what_ends (BadQuery rule) stops = ends_it (BadQuery rule) (ap with_mapping is ∙ ap with_what stops.1 ∙ ap (λ r. ended statuses.Refused (query_line r)) (sym stops.0))
    what_ends Memory memory = memory_ends
    what_ends ending none = absurd none

    module _ (what : What) (offered : what_of mapping t.what ≡ Some what) where
      abbrev with_date : Option ℕ → Tried
      with_date = tried_at mapping t.hashes t.files what t.date t.names

      -- the date is no stamp
      date_ends : (ending : Ending) → DateEnds t.date ending → EndsIt ending
      date_ends (BadQuery rule) stops = ends_it (BadQuery rule) (ap with_mapping is ∙ ap with_what offered ∙ ap with_date stops.1 ∙ ap (λ r. ended statuses.Refused (query_line r)) (sym stops.0))
      date_ends Memory memory = memory_ends
      date_ends ending none = absurd none

      -- what is asked for is in order
      begins : (at : ℕ) → stamp_of t.date ≡ Some at → (loading : Loading) → loading.office.vault.mapping ≡ mapping → Begins t (record { what = what; date = at; loading = loading })
      begins at dated loading same = record {
        tried_is = ap with_mapping is ∙ ap with_what offered ∙ ap with_date dated ∙ ap (λ m. at_end m t.hashes what at (steps m t.hashes t.files start t.names)) (sym same);
        lines_are = λ k. ap (lines_with t k) is ∙ ap (λ m. lines_of (steps m t.hashes t.files start (take k t.names))) (sym same);
      }

module _ (function : DigestFunction) (w : Wanted) (folder : Seen (List NamedFile)) where
  -- the mapping's file is not read
  pub file_unread : (ending : Ending) → ReadsMapping folder (Err ending) → ReadsTrial function w folder (Err ending)
  file_unread ending reads = record {
    ok = tt;
    ends = λ files told. mapping_ends (trial_of function w files) folder.before folder.now ending (reads.ends files told) reads.cause;
    cause = reads.cause;
    kept = reads.kept;
    later = reads.later;
  }

  module _ (file : MappingFile) (reads : ReadsMapping folder (Ok file)) where
    -- the word names no mart
    pub what_unknown : (ending : Ending) → WhatEnds file.catalog w.what ending → ReadsTrial function w folder (Err ending)
    what_unknown ending ends =
        reads_ended folder file ending (query_cause _ folder.before folder.now ending ends) (λ files is. what_ends (trial_of function w files) folder.before folder.now file.catalog is.0 ending ends) reads

    module _ (what : What) (offered : what_of file.catalog w.what ≡ Some what) where
      -- the date is no stamp
      pub date_refused : (ending : Ending) → DateEnds w.date ending → ReadsTrial function w folder (Err ending)
      date_refused ending ends =
          reads_ended folder file ending (query_cause _ folder.before folder.now ending ends)
          (λ files is. date_ends (trial_of function w files) folder.before folder.now file.catalog is.0 what offered ending ends) reads

      -- no office could be made
      pub not_begun : ReadsTrial function w folder (Err Memory)
      not_begun = reads_ended folder file Memory tt (λ files is. memory_ends (trial_of function w files) folder.before folder.now) reads

      -- all is in order
      pub readied_so : (at : ℕ) → stamp_of w.date ≡ Some at → (loading : Loading) → loading.office.vault.mapping ≡ file.catalog
          → ReadsTrial function w folder (Ok (record { what = what; date = at; loading = loading }))
      readied_so at dated loading same = reads_made folder file _ (λ files is. begins (trial_of function w files) folder.before folder.now file.catalog is.0 what offered at dated loading same) reads

-- ---- behind some manifests

module _ (t : Trial) (before now : ℕ) (readied : Readied) (begins : Begins t readied) (k : ℕ) (lines : List ℕ) (lines_are : HasLines (mapping_of readied) t.hashes t.files t.names k lines) where
  lines_so : lines_before t k ≡ Some lines
  lines_so = begins.lines_are k ∙ lines_are

  memory_behind : IsMemory t (lines ++ memory_line)
  memory_behind = (k, lines, lines_so, refl)

  -- it ends before all manifests are taken
  next_ended : (ending : Ending) → IsReadCause before now ending → NextEnds (mapping_of readied) t.hashes t.files t.names k lines ending → IsEnded t before now (status_of ending) (lines ++ line_of_ending ending)
  next_ended (Absent file) cause ends = inl (begins.tried_is ∙ ap (at_end (mapping_of readied) t.hashes readied.what readied.date) ends)
  next_ended (Unread file) cause ends = inr ((k, lines, file, lines_so, inr ends, refl), cause)
  next_ended Memory cause ends = memory_behind
  next_ended ending cause none = absurd none

  ends_behind : (ending : Ending) → IsEnded t before now (status_of ending) (lines ++ line_of_ending ending) → EndsBehind t before now lines ending
  ends_behind ending is = record { ended = is; memory = memory_behind }

-- ---- behind all of them

module _ (function : DigestFunction) (w : Wanted) (files : List NamedFile) (readied : Readied) (begins : Begins (trial_of function w files) readied) (loading : Loading) (p : Progress)
    (steps_are : steps (mapping_of readied) (hashes_of function) files start w.names ≡ Ok p) (loaded : IsLoaded (mapping_of readied) (hashes_of function) loading p)
    (raw : RawVault) (raw_is : raw ≡ loading.office.vault) where
  abbrev t : Trial
  t = trial_of function w files

  all_lines : HasLines (mapping_of readied) (hashes_of function) files w.names (length w.names) p.lines
  all_lines = ap (λ names. lines_of (steps (mapping_of readied) (hashes_of function) files start names)) (take_all (length w.names) w.names (omega arith)) ∙ ap lines_of steps_are

  -- what is said of the windows that the vault has is said of the run's
  text_is : (text : Result (List ℕ) QueryRule) → IsTextFor raw readied.what readied.date text → tried_of t ≡ with_text p text
  text_is text so =
      let has : HasSealed (hashes_of function) p.state.sealed raw = subst (HasSealed (hashes_of function) p.state.sealed) (sym raw_is) loaded.ready.stands.sealed_are in
      let mapping_is : raw.mapping ≡ mapping_of readied = ap (λ (v : RawVault). v.mapping) raw_is ∙ loaded.mapping_is in
      begins.tried_is ∙ ap (at_end (mapping_of readied) (hashes_of function) readied.what readied.date) steps_are
      ∙ ap (with_text p)
      (ap (λ m. mart_text m (hashes_of function) p.state.sealed (vault m (hashes_of function) p.state.sealed) readied.what readied.date) (sym mapping_is)
      ∙ ap (λ tables. mart_text raw.mapping (hashes_of function) p.state.sealed tables readied.what readied.date) (sym has.tables_are)
      ∙ so function p.state.sealed has)

  -- there is no text
  no_text : (before now : ℕ) (ending : Ending) → TextEnds raw readied.what readied.date ending → EndsBehind t before now p.lines ending
  no_text before now Memory ends = ends_behind t before now readied begins (length w.names) p.lines all_lines Memory (memory_behind t before now readied begins (length w.names) p.lines all_lines)
  no_text before now (BadQuery rule) ends = ends_behind t before now readied begins (length w.names) p.lines all_lines (BadQuery rule) (text_is (Err rule) ends)
  no_text before now ending none = absurd none

-- ---- what came of it

module _ (function : DigestFunction) (w : Wanted) where
  -- the command ends before the manifests
  pub unreadied : (folder : Seen (List NamedFile)) (out err : Option (List ℕ)) (out_before err_before : ℕ) (ending : Ending) → ReadsTrial function w folder (Err ending)
      → TriesAll function w (record { folder = folder; out = between out out out_before out_before; err = between err err err_before err_before }) (Err ending)
  unreadied folder out err out_before err_before ending reads = inl (record { out = refl; lines = []; said_is = sym (after-nil err); cause = reads.cause; ends = reads.ends })

  module _ (folder more : Seen (List NamedFile)) (readied : Readied) (reads : ReadsTrial function w folder (Ok readied)) (kept : more.old ≡ folder.old) (later : folder.before ≤ more.before) (err : Seen (List ℕ)) where
    -- before all manifests are taken
    pub unloaded : (out : Option (List ℕ)) (out_before : ℕ) (ending : Ending)
        → (Unloaded (mapping_of readied) (hashes_of function) w.names more err ending ⊎ LinesCut (mapping_of readied) (hashes_of function) w.names more err ending)
        → TriesAll function w (record { folder = joined folder more; out = between out out out_before out_before; err = err }) (Err ending)
    unloaded out out_before ending (inl stops) =
        let cause : IsReadCause folder.before more.now ending = bring_cause folder.before more.now ending (bring_end_so folder.before more.before more.now later ending stops.cause) in
        inl (record {
          out = refl;
          lines = stops.lines;
          said_is = stops.said_is;
          cause = cause;
          ends = λ files told.
              let begins = reads.ok files told in
              let lines_are = stops.lines_are files (kept ∙ told) in
              ends_behind (trial_of function w files) folder.before more.now readied begins stops.k stops.lines lines_are ending
              (next_ended (trial_of function w files) folder.before more.now readied begins stops.k stops.lines lines_are ending cause (stops.ends files (kept ∙ told)));
        })
    unloaded out out_before ending (inr cut) = inr (record {
      unwritten = cut.unwritten;
      rose = inr cut.rose;
      cut = λ files told. record {
        out = got_nothing out out _ refl;
        text = cut.lines ++ memory_line;
        is_text = inr (statuses.Memory, memory_behind (trial_of function w files) folder.before more.now readied (reads.ok files told) cut.k cut.lines (cut.lines_are files (kept ∙ told)));
        err = got_longer err.old err.new cut.lines memory_line cut.got;
      };
    })

    module _ (loading : Loading) (loads : Loaded (mapping_of readied) (hashes_of function) w.names loading more err) (raw : RawVault) (raw_is : raw ≡ loading.office.vault) where
      -- there is no text
      pub untold : (out : Option (List ℕ)) (out_before : ℕ) (ending : Ending) → TextEnds raw readied.what readied.date ending
          → TriesAll function w (record { folder = joined folder more; out = between out out out_before out_before; err = err }) (Err ending)
      untold out out_before ending ends = inl (record {
        out = refl;
        lines = loads.progress.lines;
        said_is = loads.said_is;
        cause = query_cause _ folder.before more.now ending ends;
        ends = λ files told. no_text function w files readied (reads.ok files told) loading loads.progress (loads.steps_are files (kept ∙ told)) loads.loaded_is raw raw_is folder.before more.now ending ends;
      })

      module _ (out : Seen (List ℕ)) (made : List ℕ) (makes : IsTextFor raw readied.what readied.date (Ok made)) where
        abbrev s : Sight
        s = record { folder = joined folder more; out = out; err = err }

        made_is : (files : List NamedFile) → folder.old ≡ Some files → tried_of (trial_of function w files) ≡ with_text loads.progress (Ok made)
        made_is files told = text_is function w files readied (reads.ok files told) loading loads.progress (loads.steps_are files (kept ∙ told)) loads.loaded_is raw raw_is (Ok made) makes

        -- all is written
        pub all_said : (bytes : List ℕ) → bytes ≡ made → out.new ≡ after out.old bytes → TriesAll function w s (Ok loading.refused)
        all_said bytes same written = record {
          gives = λ files told. record {
            text = written ∙ ap (after out.old) same ∙ ap (λ (r : Tried). after out.old r.out) (sym (made_is files told));
            lines = loads.said_is ∙ ap (λ (r : Tried). after err.old r.err) (sym (made_is files told));
            status_is = ap (λ (r : Tried). r.status) (made_is files told) ∙ ap status_for (sym loads.loaded_is.refused_is);
          };
          refusal = λ so. (loads.progress.lines, loads.loaded_is.refusal (sym loads.loaded_is.refused_is ∙ so), loads.said_is);
        }

        -- or a front of it is
        pub text_cut : (bytes : List ℕ) → bytes ≡ made → Rose out.before out.now → GotPrefix out.old out.new bytes → TriesAll function w s (Err Unwritten)
        text_cut bytes same rose got = inr (record {
          unwritten = refl;
          rose = inl rose;
          cut = λ files told. record {
            out = subst (λ (r : Tried). GotPrefix out.old out.new r.out) (sym (made_is files told)) (subst (GotPrefix out.old out.new) same got);
            text = loads.progress.lines;
            is_text = inl (ap (λ (r : Tried). r.err) (sym (made_is files told)));
            err = got_all err.old err.new loads.progress.lines loads.said_is;
          };
        })
