-- What the proofs of this crate, and of those above it, take from elsewhere.
pub use Rattle.dv_given.proofs.Vocabulary.{EndsBy, EndsOrMemory, IsUtf8, Rose, Seen, is_ascii_digit, take_all, ◌≢◌}
pub use Rattle.dv_http.proofs.Vocabulary.{held, nat_lt}
pub use Rattle.dv_mapfile.proofs.Vocabulary.{Global, IsUtf8-from_is_utf8, String, is_utf8, is_utf8-from_IsUtf8, string_bytes, ◌>>=◌}
pub use Rattle.dv_mart.proofs.Vocabulary.{HasKind, IsOffered, codes, false≢true, find_none, get_or, hub_place, mart_text, offered_mart, option_map, path_name, table_named, table_text, take_more}
pub use Rattle.dv_print.proofs.Vocabulary.{decimal}
pub use Rattle.dv_restore.proofs.Vocabulary.{IsNamed, ◌↔◌}
pub use Rattle.dv_serving.proofs.Vocabulary.{Bool, Chain, Exchange, IfOk, Lines, List, None, Ok, Option, RepliedTo, Said, ServesDoors, ServesEach, ServesLine, Some, [], came_of, false, length, reply_text, true, ℕ, ◌++◌, ◌+◌, ◌<◌, ◌∷◌, ◌≡◌, ◌≤◌, ◌⊎◌}
pub use Rattle.dv_store_rules.proofs.Vocabulary.{DigestFunction, map, none_found_at, none_pass, none_passes, open_end, ◌&&◌}
pub use Rattle.dv_text.proofs.Vocabulary.{has_form, text_of}
pub use Rattle.dv_vault.proofs.Vocabulary.{IsSome}
pub use Rattle.dv_window.proofs.Vocabulary.{AgreesUnlessStale, Contains, Err, HasSealed, HasZeroKeys, Hashes, Held, IfOk-weaker, IfSome, IsDamageFor, IsErrOf, IsIn, IsLeftIn, IsRowOf, IsStoredDamage, LeavesOffice, Mapping, RawVault, Result, StaleAfter, Stands, State, StepsTo, Told, and_parts, ap}
pub use Rattle.dv_window.proofs.Vocabulary.{append_assoc, arith, drop, err_from_is_err_and, has_table, hashes_of, if◌then◌else◌, inl, inr, list_any, list_any-map, map-append, pit, refl, rows_behind, rows_in, rows_there, rules, snapshot, staged, subst, sym, tables, ◌∙◌}
pub use Rattle.dv_bridge.proofs.ZeroKeys.{zero_keys}
pub use Rattle.dv_catalog.specs.declared.{rules.Rule.Rule, rules.Rule.TheVariants.Collision, rules.Rule.TheVariants.Differs, rules.Rule.TheVariants.Late, rules.Rule.TheVariants.Manifest, rules.Rule.TheVariants.OpenOther, rules.Rule.TheVariants.TooLong, tables.TableId.TableId}
pub use Rattle.dv_catalog.specs.declared.{windows.WindowIn.WindowIn}
pub use Rattle.dv_desk.specs.{Answers.refusal, Answers.reply_of, Answers.status_of, Answers.status_of_rule, Answers.unrefreshed, Bodies.begun_data, Bodies.feed_data, Bodies.head_data, Bodies.heads_body, Bodies.heads_data, Desks.moment_of, Desks.places, Doors.EndsAs, Doors.IsFaultOf}
pub use Rattle.dv_desk.specs.{Doors.IsServeCause, Doors.ServedDoors, Doors.ServesBy, Doors.ServesWith, Doors.StandsThen, Doors.Started, Doors.Tells, Posted.json_of, Posted.posted, Queries.begun_load, Queries.mart_at, Queries.mart_for, Queries.pit_at, Queries.pit_for, Queries.stored_pit}
pub use Rattle.dv_desk.specs.{Queries.table_for, Queries.text_or, Reads.Due, Reads.IsPitAt, Reads.IsQuiet, Reads.IsReadAs, Reads.IsReadBy, Reads.IsReadCause, Reads.Looked, Reads.LookedBy, Reads.answer_of_stored, Reads.bad_date, Reads.due_by, Reads.mart_due, Reads.or_memory, Reads.pit_due}
pub use Rattle.dv_desk.specs.{Routes.Heads, Routes.Load, Routes.MartAt, Routes.NotAllowed, Routes.NotFound, Routes.PitAt, Routes.Query, Routes.Read, Routes.Routed, Routes.TableOf, Routes.asked, Routes.query_as, ServeWords.workers_said, Serving.AreSure, Serving.IsSure, Serving.LeadsInStates}
pub use Rattle.dv_desk.specs.{Serving.Serves, Serving.StandsAs, Serving.Talked, Serving.TalksIn, Turns.Answered, Turns.CanReply, Turns.HasWidth, Turns.IsAllowed, Turns.IsAskedFor, Turns.IsCauseOf, Turns.IsDamageIn, Turns.IsDue, Turns.IsReplied, Turns.IsSound, Turns.IsStoredFor, Turns.IsThere}
pub use Rattle.dv_desk.specs.{Turns.Leads, Turns.Leaves, Turns.LoadLeaves, Turns.LoadOffice, Turns.MayBe, Turns.Moment, Turns.PostSays, Turns.ReadOffice, Turns.Refreshed, Turns.Says, Turns.StaleBy, Turns.StoreBy, Turns.answer_of, Turns.moment}
pub use Rattle.dv_desk.specs.{Doors.IsServedOut, Doors.ServeSays, Doors.ServedAll, Doors.ServedOut, Serving.IsSurelyReplied, Serving.ServesWhole}
pub use Rattle.dv_desk.specs.declared.{answers.Answer.Answer, answers.Answer.TheVariants.BadQuery, answers.Answer.TheVariants.Rows, posted.Posted.Posted, posted.Posted.TheVariants.Faulty, posted.Posted.TheVariants.Given, posted.Posted.TheVariants.NotJson, routes.Allowed.Allowed}
pub use Rattle.dv_given.specs.Endings.{ending_of_start}
pub use Rattle.dv_http.specs.declared.{replies.Reply.Reply, requests.Request.Request}
pub use Rattle.dv_mart.proofs.OfferedTables.{named_among}
pub use Rattle.dv_mart.specs.declared.whats.What.{What}
pub use Rattle.dv_outside.specs.{Ends.Ends, Seen.NoFault, Seen.seen}
pub use Rattle.dv_outside.specs.declared.{folders.Failed.Failed, statuses.Status.Status}
pub use Rattle.dv_print.specs.Texts.{pit_text}
pub use Rattle.dv_print.specs.declared.{query_rules.QueryRule.QueryRule, query_rules.QueryRule.TheVariants.TooLarge}
pub use Rattle.dv_records.specs.declared.{answers.Damage.Damage, answers.LoadAnswer.LoadAnswer, snapshots.SnapHead.SnapHead, snapshots.SnapId.SnapId, snapshots.SnapId.TheVariants.Pit, stores.Store.Store}
pub use Rattle.dv_restore.specs.Damages.{IsFirstDamage, IsNamedBySome}
pub use Rattle.dv_restore.specs.declared.{faults.StartFault.StartFault, faults.StoreFault.StoreFault}
pub use Rattle.dv_serving.proofs.{Doored.SoFar, Doored.none_left, Doored.none_served, Doored.served_all, Doored.served_more, Linked.Going, Linked.ends_with, Linked.enough, Linked.goes_on_with, Linked.never_begun, Stepped.came_unbroken, Stepped.refused_comes, Stepped.replied_comes}
pub use Rattle.dv_serving.specs.{Serving.IsServedCause, Serving.IsServedWhole, Serving.ServesOn, Serving.tells, Steps.unread}
pub use Rattle.dv_serving.specs.declared.{served.Served.Served, steps.Came.Came}
pub use Rattle.dv_store_rules.proofs.Widths.{of_width}
pub use Rattle.dv_text.proofs.Forms.{form_parts}
pub use Rattle.dv_text.specs.{Causes.HasCause, Stamps.stamp_of}
pub use Rattle.dv_text.specs.declared.{rows.Window.Window, rows.WindowHead.WindowHead}
pub use Rattle.dv_window.proofs.TableReads.{has_there, no_fault}
pub use Rattle.dv_window.specs.{Offices.LeavesStore, Offices.made_stale, StoredRows.head_at, StoredTexts.AreInNoState, StoredTexts.table_text as snap_text}
pub use Rattle.dv_window.specs.declared.stored.StoredFault.{StoredFault}
pub use Rattle.json.proofs.Printed.Utf8.{IsUtf8-are_ascii, are_ascii}
pub use Rattle.json.specs.Print.{quoted}
pub use Rattle.serde_json.proofs.Views.{view-Array, view-lookup, view_of_ref}
pub use Rattle.serde_json.specs.{Data.Data, Data.array, Data.member, Data.no_members, Data.number, Data.object, Data.put, Data.string, Data.unsigned, Read.read, View.items_of, View.items_view, View.view, Written.compact_text, Written.has_float, Written.items_have_float}
pub use Rattle.serde_json.specs.declared.value.Value.{Array, String as Text, Value, the_lemmas}
pub use Rattle.std.proofs.{Common.Vec, lemmas.Str.utf8_lossy-IsUtf8}
pub use Rattle.std.specs.{Prelude.take, Prelude.◌%◌, Prelude.◌/◌, Prelude.◌==◌, Str.Lossy.utf8_lossy}
unfoldable pub use Rattle.dv_text.specs.Stamps.{stamp_in, stamp_text}
unfoldable pub use Rattle.serde_json.proofs.OnLiterals.{serde_json_on_literals}
