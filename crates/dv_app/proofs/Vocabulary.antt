-- What the proofs of this crate, and of those above it, take from elsewhere.
pub use Rattle.dv_given.proofs.Vocabulary.{BringEnds, Brings, EndsBy, EndsOrMemory, IfErr, IfOk, IsReadCause, MappingEnds, Ok, QueryEnds, Rose, Seen, StandsForWhole, append-nil, arrival, drop, drop_more, get_or, line_of_ending, lt-ltb, mapping_at, status_of, take_all, ◌||◌}
pub use Rattle.dv_mart.proofs.Vocabulary.{HasKind, IsOffered, Some, find_none, is_table_of, mart_text, name_of_path, offered_mart, option_and_then, path_name, table_named, table_text, take_more, what_of}
pub use Rattle.dv_outside.proofs.Vocabulary.{GotPrefix, after}
pub use Rattle.dv_print.proofs.Vocabulary.{None, suc, ◌≤◌}
pub use Rattle.dv_restore.proofs.Vocabulary.{DigestFunction}
pub use Rattle.dv_text.proofs.Vocabulary.{ints}
pub use Rattle.dv_vault.proofs.Vocabulary.{flat_map_more, none_found_at, none_pass, none_passes, slice_get-get_or, ⊎_elim}
pub use Rattle.dv_window.proofs.Vocabulary.{Bool, Changes, CompletesTo, Contains, Err, HasSealed, HasZeroKeys, Hashes, Held, IfOk-weaker, IsDamageOf, IsErrOf, IsIn, IsLeftIn, IsMappedAs, IsMappedBy, IsNotRead, IsReadAs, IsRowOf, IsStoredDamage, LoadBroke, Mapping, RawVault, Result, StaleAfter}
pub use Rattle.dv_window.proofs.Vocabulary.{Stands, StandsFor, State, StepsTo, Told, ap, append_assoc, arith, beginning, changed, err_from_is_err_and, false, flat_map, has_table, hashes_of, head_of, if◌then◌else◌, inl, inr, length, list_any, list_any-map, map, map-id, map-range_with_len_more}
pub use Rattle.dv_window.proofs.Vocabulary.{outcome, range_with_len, read_mapping, refl, rows_behind, rows_in, rows_there, slice_get, snapshot, staged, subst, sum_by, sym, tables, take, take-append-drop, vault, ◌++◌, ◌+◌, ◌∙◌, ◌∷◌}
pub use Rattle.dv_app.specs.{Causes.IsCaused, Changes.IsRefusal, Changes.IsText, Changes.Leaves, Changes.LeavesStore, Changes.MayChange, Damaged.Finds, Damaged.FindsFirst, Damaged.HasFirst, Damaged.IsTableDamage, Damaged.NamesDamage, Exercised.ExerciseSays, Exercised.HasKinds, Exercised.HasTaken}
pub use Rattle.dv_app.specs.{Exercised.counts_of, Exercised.counts_text, Exercised.feed_line, Exercised.table_count, Exercised.table_line, Generated.generated_mapping, Generated.generated_window, Generated.left_line, Generated.load_date, Generated.right_line, Inits.Compares, Inits.InitLeaves}
pub use Rattle.dv_app.specs.{Inits.IsFaultOf, Inits.Settled, Inits.Unsettled, Kept.ArrivalStep, Kept.InitBy, Kept.InitFor, Kept.InitSays, Kept.InitWith, Kept.IsBroken, Kept.IsBrought, Kept.IsStanding, Kept.IsUndamaged, Kept.KeptSays, Kept.OpenedSays, Kept.OpensOr, Kept.SnapshotSays}
pub use Rattle.dv_app.specs.{Kept.StandsAt, Kept.Stays, Kept.Steps, Kept.damaged_said, Kept.init_said, Kept.keeper_said, Kept.load_said, Kept.mart_at, Kept.mart_for, Kept.mart_says, Kept.memory_said, Kept.refused_said, Kept.resume_said, Kept.snapshot_said, Kept.stored_at, Kept.stored_for}
pub use Rattle.dv_app.specs.{Kept.stored_id, Kept.stored_says, Kept.table_for, Kept.text_or, Loadings.Begins, Loadings.EndsBehind, Loadings.EndsEarly, Loadings.Goes, Loadings.HasLines, Loadings.HasRows, Loadings.IsLoaded, Loadings.IsReady, Loadings.LineCut, Loadings.LinesCut, Loadings.Loaded}
pub use Rattle.dv_app.specs.{Loadings.NextEnds, Loadings.ReadsTrial, Loadings.TextCut, Loadings.TookArrival, Loadings.TookLine, Loadings.TookWindow, Loadings.TriesAll, Loadings.Unbrought, Loadings.Unloaded, Loadings.Went, Loadings.WhatEnds, Openings.IsOpen, Openings.IsUnopened, Openings.Opening}
pub use Rattle.dv_app.specs.{Options.parted, Options.parted_from, Options.taken, Places.Places, Places.places_of, Queries.IsAnswer, Queries.IsAnswered, Queries.MartEnds, Queries.StoredEnds, Queries.TableEnds, Queries.ending_of_stored, Queries.text_reply, Replies.EndsAs, Replies.IsCauseOf}
pub use Rattle.dv_app.specs.{Replies.IsSaidFor, Run.ChangesAsSaid, Run.CommandCompletes, Run.CommandSays, Run.DamageIsNamed, Run.Ends, Run.EndsAside, Run.HadAll, Run.IsCause, Run.NoneFell, Run.Ran, Run.usage_said, Says.CutShort, Says.IsCutLines, Says.IsEnded, Says.IsMemory, Says.Trial}
pub use Rattle.dv_app.specs.{GivenArrivals.Gave, GivenArrivals.IsStep, Says.TrialSays, Says.TrySays, Says.Wanted, Says.lines_before, Says.lines_of, Says.lines_with, Says.trial_of, Says.tried_of, Texts.IsTextFor, Texts.IsTextOf, Texts.TextEnds, Tried.Progress, Tried.at_end, Tried.start, Tried.state_after}
pub use Rattle.dv_app.specs.{Tried.step, Tried.step_by, Tried.step_on, Tried.steps, Tried.tried_at, Tried.tried_for, Tried.tried_with, Tried.with_outcome, Tried.with_refusal, Tried.with_text, Words.Command, Words.Exercises, Words.Init, Words.KeptCommand, Words.Load, Words.Mart, Words.NoCommand}
pub use Rattle.dv_app.specs.{Words.OnKeeper, Words.Resume, Words.Snapshot, Words.Stored, Words.StoredTable, Words.Table, Words.Tries, Words.Windows, Words.asked_of, Words.command_in, Words.command_of, Words.office_command, Words.stored_of, Works.Comes, Works.Does, Works.Tells, Works.Works}
pub use Rattle.dv_app.specs.{Works.said_of}
pub use Rattle.dv_app.specs.declared.{loadings.Loading.Loading, options.Found.Found, replies.Reply.Reply, tries.Readied.Readied, words.OfficeCommand.OfficeCommand}
pub use Rattle.dv_bridge.proofs.ZeroKeys.{zero_keys}
pub use Rattle.dv_catalog.specs.declared.{map_error.MapError.MapError, rules.Rule.Rule, tables.TableId.TableId, windows.WindowIn.WindowIn}
pub use Rattle.dv_given.proofs.{EndSteps.bring_cause, EndSteps.bring_end_so, EndSteps.ends_or, EndSteps.query_cause, EndSteps.rose_later, ReadSteps.between, ReadSteps.joined, ReadSteps.reads_ended, ReadSteps.reads_made}
pub use Rattle.dv_given.specs.{Causes.HasLast, Causes.HasRefusal, Endings.DateEnds, Endings.ending_of_start, Endings.ending_of_store, FolderReads.Arrives, FolderReads.ReadsMapping, Given.absent_line, Given.query_line, Given.read_fault_line, Given.refused_mapping_line, Lines.memory_line}
pub use Rattle.dv_given.specs.{Readings.arrival_of, Says.Gives, Tried.Arrival, Tried.Broken, Tried.Brought, Tried.Tried, Tried.ended, Tried.is_refused, Tried.mapping_bytes, Tried.outcome_text, Tried.refusal_text, Tried.status_for, Tried.window_line, WindowOutcomes.outcome_of, WindowOutcomes.taken_text}
pub use Rattle.dv_given.specs.{Worlds.Sight, Worlds.sight_of}
pub use Rattle.dv_given.specs.declared.{arrivals.Arrived.Arrived, endings.Ending.Ending, endings.Ending.TheVariants.Absent, endings.Ending.TheVariants.BadMapping, endings.Ending.TheVariants.BadQuery, endings.Ending.TheVariants.Memory, endings.Ending.TheVariants.Unread}
pub use Rattle.dv_given.specs.declared.{endings.Ending.TheVariants.Unwritten, mapping_files.MappingFile.MappingFile, windows.Taken.Taken}
pub use Rattle.dv_mart.proofs.{OfferedTables.named_among, VaultMarts.hub_within, VaultMarts.kind_of, VaultMarts.link_within, VaultMarts.of_mapping, VaultMarts.status_within}
pub use Rattle.dv_mart.specs.declared.whats.What.{What}
pub use Rattle.dv_outside.proofs.Told.{after-after, after-nil, got_all, got_behind, got_longer, got_nothing}
pub use Rattle.dv_outside.specs.{Ends.Ends as EndsAt, Seen.seen, Worlds.World}
pub use Rattle.dv_outside.specs.declared.{folders.NamedFile.NamedFile, statuses.Status.Status}
pub use Rattle.dv_print.specs.Texts.{windows_text}
pub use Rattle.dv_print.specs.declared.query_rules.QueryRule.{QueryRule}
pub use Rattle.dv_print.specs.declared.query_rules.QueryRule.TheVariants.{Future, NoSnapshot, NothingOpen, SnapshotsFull, TooLarge}
pub use Rattle.dv_records.specs.{Steps.InitStep, Steps.IsStored, Steps.LoadStep, Steps.ResumeStep, Steps.SnapStep, Stores.with_mapping}
pub use Rattle.dv_records.specs.declared.{answers.Damage.Damage, answers.InitAnswer.InitAnswer, answers.LoadAnswer.LoadAnswer, answers.Outcome.Outcome, answers.ResumeAnswer.ResumeAnswer, answers.SnapAnswer.SnapAnswer, snapshots.SnapHead.SnapHead, snapshots.SnapId.SnapId, stores.Store.Store}
pub use Rattle.dv_restore.specs.Damages.{IsNamedBySome, mapping_damage}
pub use Rattle.dv_restore.specs.declared.{faults.StartFault.StartFault, faults.StoreFault.StoreFault}
pub use Rattle.dv_store_rules.proofs.Widths.{of_width}
pub use Rattle.dv_text.specs.Stamps.{is_stamp_number, stamp_of}
pub use Rattle.dv_text.specs.declared.{rows.Key.Key, rows.Window.Window}
pub use Rattle.dv_window.proofs.{StartFacts.read_as, TableReads.has_there, TableReads.no_fault}
pub use Rattle.dv_window.specs.{Offices.LeavesStill, Offices.StaleThen, SnapSteps.LeavesBoth, SnapSteps.SnapsTo, StoredRows.head_at, StoredTexts.AreInNoState, StoredTexts.table_text as snap_text}
pub use Rattle.dv_window.specs.declared.stored.StoredFault.{StoredFault}
pub use Rattle.std.proofs.{Common.string_bytes, lemmas.List.at_drop_more}
pub use Rattle.std.specs.{Global.Global, Prelude.List, Prelude.Option, Prelude.String, Prelude.[], Prelude.codes, Prelude.option_map, Prelude.option_to_list, Prelude.true, Prelude.ℕ, Prelude.◌<◌, Prelude.◌==◌, Prelude.◌≡◌, Prelude.◌⊎◌}
unfoldable pub use Rattle.dv_app.specs.Exercised.{exercised, state_behind}
