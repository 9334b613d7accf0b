-- What the proofs of this crate, and of those above it, take from elsewhere.
pub use Rattle.dv_records.proofs.Vocabulary.{Bool, Contains, Contains-cons_cases, Contains-map, Contains-nil, Extract, Hashes, List, Mapping, None, Option, Some, [], and_parts, any_content_read, any_content_read_by, ap, append-nil, arith, ascends, attrs_read, content, content_read}
pub use Rattle.dv_records.proofs.Vocabulary.{content_read_by, described_row, effect_periods, effect_rows_in, eq-eqb, extract_of, false, filter_map, find, flat_map, get_or, history, hub_row_by, hub_rows_in, if◌then◌else◌, inl, inr, is_declared, is_hub, is_valid, is_window, keys_read, length}
pub use Rattle.dv_records.proofs.Vocabulary.{link_hubs, link_row_by, link_rows_in, list_all, map, member_of_filter_map, missing_key, multi_content_read, multi_content_read_by, nat_cmp, nat_le, nat_lt, nat_tests, newest_rows, one_value, option_map, option_map_or, ordering_then, parent_hubs}
pub use Rattle.dv_records.proofs.Vocabulary.{passes_at, period_cmp, period_mart, period_read, periods_read, periods_read_by, present_parents, range_with_len, refl, refs_cmp, refs_read, reverse, reverse_member, row_cmp, row_read, row_total, rows_read, sat_rows, sat_rows_in, slice_get, sorted_by}
pub use Rattle.dv_records.proofs.Vocabulary.{status_rows_in, subst, sym, tables, take, true, up_to, valid_at, valid_feed, valid_link, ℕ, ◌++◌, ◌+◌, ◌<◌, ◌==◌, ◌∙◌, ◌∷◌, ◌≡◌, ◌≤◌, ◌⊎◌}
pub use Rattle.dv_sat.proofs.Vocabulary.{zip}
pub use Rattle.dv_text.proofs.Vocabulary.{key_cmp, ordering_reverse, replicate}
pub use Rattle.dv_vault.proofs.Vocabulary.{Bor, HasSealed, IfOk-weaker, IsNewestFirst, RawVault, cons_option, filter_map_more, flat_map_more, get_or-map-range_with_len, got_from, has_table, history-newest_first, is_table_of, le-leb, length-map-range_with_len, ltb-true, map-map}
pub use Rattle.dv_vault.proofs.Vocabulary.{map-range_with_len_more, option_to_list, tables_in, take_more, window_parts}
pub use Rattle.dv_catalog.specs.declared.{entries.FeedDef.FeedDef, entries.Parent.Parent, entries.Parent.TheVariants.Hub, entries.Parent.TheVariants.Link}
pub use Rattle.dv_contents.specs.Contents.{key_refs, key_row, list_refs, list_row, missing_keys, parents_read, plain_row, valid_attrs}
pub use Rattle.dv_hub_link.proofs.Keys.{zip_ended}
pub use Rattle.dv_records.proofs.{MultiReadBack.vault_tells, PeriodReadBack.periods_tell, ValidWindows.load_order, WindowRows.WindowParts}
pub use Rattle.dv_records.specs.Marts.{feed_mart}
pub use Rattle.dv_records.specs.declared.{mart_rows.Period.Period, mart_rows.PeriodRow.PeriodRow, raw_rows.EffectRow.EffectRow, raw_rows.HubRow.HubRow, raw_rows.LinkRow.LinkRow, raw_rows.SatRow.SatRow, raw_rows.StatusRow.StatusRow, stores.TableRows.TableRows}
pub use Rattle.dv_text.specs.{PrefixLaws.row_agrees, Prefixes.row_prefix}
pub use Rattle.dv_text.specs.declared.{rows.Key.Key, rows.NRow.NRow, rows.Staged.Staged, rows.Window.Window}
pub use Rattle.dv_vault.proofs.{VaultCollisions.sealed_parts, VaultFacts.absent_rows, VaultFacts.absent_table, VaultFacts.seen-twice}
pub use Rattle.dv_vault.specs.Vaults.{is_parent}
pub use Rattle.std.specs.Cmp.Derive.Mapped.{lex_map}
pub use Rattle.std.specs.declared.{cmp.Ordering.Ordering, cmp.Ordering.TheVariants.Equal, cmp.Ordering.TheVariants.Greater, cmp.Ordering.TheVariants.Less}
