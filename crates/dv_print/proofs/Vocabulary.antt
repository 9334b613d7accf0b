-- What the proofs of this crate, and of those above it, take from elsewhere.
pub use Rattle.dv_catalog.proofs.Vocabulary.{map-range_with_len_more}
pub use Rattle.dv_records.proofs.Vocabulary.{All, List, Mapping, Option, Some, [], ap, arith, false, filter-append, if◌then◌else◌, is_declared, is_fed_by, is_valid, length, map, map-append, nat_le, nat_tests, option_map, parts_of, range_with_len, refl, replicate, slice_get, subst, sym, take}
pub use Rattle.dv_records.proofs.Vocabulary.{true, valid_feed, ℕ, ◌++◌, ◌+◌, ◌<◌, ◌==◌, ◌∙◌, ◌∷◌, ◌≡◌}
pub use Rattle.dv_text.proofs.Vocabulary.{IfOk-weaker, append_assoc, codes, filter, join_with_byte, option_to_list, same_Some}
pub use Rattle.csv.specs.Writing.{default_writer, field_text, needs_quotes, row_body, row_text, text_written}
pub use Rattle.dv_catalog.specs.Tables.{feed_name, hub_name}
pub use Rattle.dv_catalog.specs.declared.{entries.FeedDef.FeedDef, entries.Parent.TheVariants.Hub, entries.Parent.TheVariants.Link}
pub use Rattle.dv_print.specs.{HubFeeds.told, Texts.all_parts, Texts.bridge_hub_columns, Texts.bridge_record, Texts.cell_columns, Texts.csv_text, Texts.dotted, Texts.head_record, Texts.hub_columns, Texts.load_or_blank, Texts.numbered, Texts.pit_columns, Texts.pit_record, Texts.raw_header}
pub use Rattle.dv_print.specs.{Texts.step_columns, Texts.yes_or_no, Writers.IsBetweenRecords, Writers.row_writer}
pub use Rattle.dv_print.specs.declared.hub_feeds.HubFeed.{HubFeed}
pub use Rattle.hex.specs.Hex.{encode_lower}
pub use Rattle.std.proofs.{lemmas.Grind.flat_map-append, lemmas.List.append-nil, lemmas.List.Elements.All-push, lemmas.Option.slice_get_past, lemmas.Result.on_ok_weaker}
pub use Rattle.std.specs.{Fmt.decimal, Io.KnownBytes.Appends, List.enumerate_from, Prelude.None, Prelude.flat_map, Prelude.suc, Prelude.zero, Prelude.◌≤◌}
unfoldable pub use Rattle.csv.specs.Writing.{escaped, fields_text, is_blank}
