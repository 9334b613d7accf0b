-- What the proofs of this crate, and of those above it, take from elsewhere.
pub use Rattle.dv_mapfile.proofs.Vocabulary.{IsUtf8, option_map}
pub use Rattle.dv_outside.proofs.Vocabulary.{append-nil, file_at}
pub use Rattle.dv_records.proofs.Vocabulary.{min}
pub use Rattle.dv_restore.proofs.Vocabulary.{State, first_of, read_mapping}
pub use Rattle.dv_text.proofs.Vocabulary.{drop_more, is_ascii_digit, le-ltb, ◌||◌}
pub use Rattle.dv_vault.proofs.Vocabulary.{Bool, Contains, Contains-get_or, Hashes, IfErr, IfOk, List, Mapping, None, Ok, Option, Some, Told, [], and_parts, ap, append_assoc, arith, cond, drop, drop_all, err_from_is_err_and, false, find, get_or, if◌then◌else◌, inl, inr, length, length-map}
pub use Rattle.dv_vault.proofs.Vocabulary.{list_all, lt-ltb, ltb-true, map, nat_lt, option_map_or, option_or, refl, subst, sym, take, take_all, true, ℕ, ◌++◌, ◌+◌, ◌<◌, ◌==◌, ◌∙◌, ◌∷◌, ◌≡◌, ◌≤◌}
pub use Rattle.dv_catalog.specs.{Limits.most_manifest_bytes, Limits.most_mapping_bytes, Windows.window_of, Windows.window_rule}
pub use Rattle.dv_catalog.specs.declared.{map_error.MapError.MapError, rules.Rule.Rule, rules.Rule.TheVariants.FeedTwice, rules.Rule.TheVariants.NoExtracts, rules.Rule.TheVariants.TooLong, rules.Rule.TheVariants.UnknownFeed, windows.ExtractIn.ExtractIn, windows.WindowIn.WindowIn}
pub use Rattle.dv_given.specs.{Endings.BringEnds, Endings.EndsBy, Endings.EndsOrMemory, Endings.ExtractEnds, Endings.ExtractsEnd, Endings.FileEnds, Endings.FilesEnd, Endings.IsBringEnd, Endings.IsMappingEnd, Endings.IsReadCause, Endings.MappingEnds, Endings.QueryEnds, Endings.ReadEnds}
pub use Rattle.dv_given.specs.{Endings.line_of_ending, Endings.status_of, FolderReads.Reads, FolderReads.ReadsExtract, FolderReads.ReadsNamed, FolderReads.ReadsNext, Given.given, Lines.mapping_file, Numbers.is_number, Numbers.number_in, Readings.Brings, Readings.Reading, Readings.StandsForWhole}
pub use Rattle.dv_given.specs.{Readings.allowed, Readings.extract_bytes, Readings.no_reading, Readings.read_from, Readings.read_more, Readings.read_next, Readings.read_on, Readings.reading_of, Readings.with_extract, Tried.absent_or, Tried.arrival, Tried.arrival_by, Tried.brought}
pub use Rattle.dv_given.specs.{Tried.brought_if, Tried.brought_with, Tried.first_absent, Tried.is_past, Tried.manifest_bytes, Tried.mapping_at, Tried.whole_extract, Tried.whole_window}
pub use Rattle.dv_given.specs.declared.{arrivals.Arrived.Arrived, endings.Ending.Ending, endings.Ending.TheVariants.Absent, endings.Ending.TheVariants.BadMapping, endings.Ending.TheVariants.BadQuery, endings.Ending.TheVariants.Memory, endings.Ending.TheVariants.Unread}
pub use Rattle.dv_mapfile.specs.Manifests.{manifest_in}
pub use Rattle.dv_mapfile.specs.declared.{manifests.Manifest.Manifest, manifests.ManifestExtract.ManifestExtract}
pub use Rattle.dv_outside.specs.Seen.{Seen}
pub use Rattle.dv_outside.specs.declared.{folders.NamedFile.NamedFile, statuses.Status.Status}
pub use Rattle.dv_print.specs.declared.query_rules.QueryRule.{QueryRule}
pub use Rattle.dv_records.specs.Limits.{most_extract_bytes, most_window_bytes}
pub use Rattle.dv_records.specs.Outcomes.{accepted, collides, differs, feed_twice, if_new, is_feed, late, no_extracts, open_other, outcome, refusal, repeated_name, too_long_behind, unknown_feed, vault_full}
pub use Rattle.dv_records.specs.declared.answers.Outcome.{Outcome}
pub use Rattle.dv_text.specs.Causes.{Rose}
pub use Rattle.dv_text.specs.declared.rows.Window.{Window}
pub use Rattle.std.proofs.{Common.Err, Common.Result, lemmas.Bool.ltb-false, lemmas.Fmt.IsAscii-from_digits, lemmas.List.length-take, lemmas.Str.IsUtf8-from_ascii, lemmas.Str.digit_value_digit, lemmas.Str.Parse.IsDigitsTest, lemmas.Str.Parse.digit_at, lemmas.Str.Parse.digits_value-take-le}
pub use Rattle.std.proofs.{lemmas.Str.Parse.numerals_by_value, lemmas.Str.Parse.without_leading_plus_none}
pub use Rattle.std.specs.{Prelude.nat_le, Prelude.not, Prelude.unwrap_or, Prelude.◌^◌, Prelude.◌≢◌, Str.Parse.AllDigits, Str.Parse.IsNumeral, Str.Parse.digits_value, Str.Parse.without_leading_plus}
