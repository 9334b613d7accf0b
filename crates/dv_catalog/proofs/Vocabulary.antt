-- What the proofs of this crate, and of those above it, take from elsewhere.
pub use Rattle.dv_text.proofs.Vocabulary.{Bool, Contains, Contains-get_or, Decides-and, List, None, Option, Some, [], and_from, and_parts, ap, append_assoc, arith, bytes_eq-Decides, cond, drop_more, eqb-true, false, find, flat_map, get_or, get_or-range_with_len, join_with_byte, length}
pub use Rattle.dv_text.proofs.Vocabulary.{length-range_with_len, list_all, list_any, map, nat_tests, not, option_or, pointwise, range_with_len, refl, slice_eq-Decides, slice_get, sym, take, take_more, true, zero-add, ℕ, ◌&&◌, ◌++◌, ◌+◌, ◌<◌, ◌||◌, ◌∙◌, ◌∷◌, ◌≡◌, ◌≤◌}
pub use Rattle.dv_catalog.specs.{Checks.all_columns, Checks.mapped_count, Entries.Mapping, Feeds.parent_hubs, Feeds.parts_of, FirstOf.first_of, Limits.has_column_form, Limits.has_name_form, Limits.is_within, Limits.most_columns, Limits.most_feeds, Limits.most_hubs, Limits.most_ignored}
pub use Rattle.dv_catalog.specs.{Limits.most_links, Limits.most_parts, Limits.most_paths, Limits.most_references, Limits.most_steps, Lookups.again_after, Lookups.number_twice, Lookups.text_twice, Mappings.are_joined_by, Mappings.is_declared, Mappings.is_hub, Mappings.is_link_feed}
pub use Rattle.dv_catalog.specs.{Mappings.is_valid, Mappings.is_valid_driver, Mappings.is_valid_feed, Mappings.is_valid_hub, Mappings.is_valid_link, Mappings.is_valid_path, Printed.printed, RuleTexts.key_shown, TableLookups.is_table_of, TableLookups.table_named, Tables.effect_tables}
pub use Rattle.dv_catalog.specs.{Tables.feed_tables, Tables.sat_tables, Tables.tables}
pub use Rattle.dv_catalog.specs.declared.{entries.FeedDef.FeedDef, entries.HubDef.HubDef, entries.LinkDef.LinkDef, entries.Parent.Parent, entries.PathDef.PathDef, tables.TableId.TableId, tables.TableId.TheVariants.Hub, tables.TableId.TheVariants.Link, tables.TableId.TheVariants.Status}
pub use Rattle.dv_text.proofs.{Members.map_member, Options.none_from, Options.or_none, Passing.all_pass, Passing.all_pass_both, Passing.list_any-map, Passing.passes_at, Passing.passes_got}
pub use Rattle.std.proofs.{Common.Decides, Common.drop, Common.nat_eq, Common.nat_le, Common.nat_lt, Common.unwrap_or, Common.◌==◌, lemmas.Bool.Decides.Decides-eqb, lemmas.Bool.Decides.Decides-like, lemmas.List.map-append, lemmas.List.map_more, lemmas.List.FromFn.map-range_with_len_more}
pub use Rattle.std.proofs.{lemmas.List.Sums.prefix_len-le-length}
pub use Rattle.std.specs.{List.position, List.position_or_len, List.zip, Prelude.is_none, Str.bytes_eq}
