-- What the proofs of this crate, and of those above it, take from elsewhere.
pub use Rattle.dv_catalog.proofs.Vocabulary.{Bool, Contains, List, None, Option, Some, [], again_after, all_pass, and_from, and_parts, ap, are_joined_by, arith, bytes_eq, bytes_eq-Decides, drop, drop_more, eqb-true, false, find, first_of, flat_map, get_or, has_column_form, has_name_form}
pub use Rattle.dv_catalog.proofs.Vocabulary.{is_declared, is_hub, is_link_feed, is_none, is_valid, is_valid_driver, is_valid_feed, is_valid_hub, is_valid_link, is_valid_path, is_within, length, list_all, list_any, list_any-map, map, map-append, map_member, most_columns, most_feeds, most_hubs}
pub use Rattle.dv_catalog.proofs.Vocabulary.{most_ignored, most_links, most_parts, most_paths, most_references, most_steps, nat_eq, nat_le, nat_lt, nat_tests, none_from, not, number_twice, option_or, or_none, parent_hubs, parts_of, passes_at, position_or_len, range_with_len, refl, slice_get, sym}
pub use Rattle.dv_catalog.proofs.Vocabulary.{take, text_twice, true, zip, ℕ, ◌&&◌, ◌++◌, ◌+◌, ◌<◌, ◌==◌, ◌||◌, ◌∙◌, ◌∷◌, ◌≡◌, ◌≤◌}
pub use Rattle.dv_text.proofs.Vocabulary.{Contains-append_cases, Contains-append_left, Contains-append_right, filter_map, inl, inr, is_some, length-map, lt-ltb, slice_get-map, subst, ◌^◌}
pub use Rattle.dv_catalog.proofs.{FirstAnswers.AllNone, FirstAnswers.all_none, PlaceSteps.mapped_more}
pub use Rattle.dv_catalog.specs.{Checks.are_joined, Feeds.link_hubs, Lookups.is_among, Mappings.are_some_places, Mappings.feed_def, Mappings.feed_place, Mappings.has_number, Mappings.has_shape, Mappings.hub_def, Mappings.hub_place, Mappings.is_link, Mappings.is_of_link, Mappings.is_place_of_step}
pub use Rattle.dv_catalog.specs.{Mappings.keys_fit_hubs, Mappings.link_def, Mappings.link_place, Mappings.link_places, Mappings.mapping_of, Mappings.parent_def, Mappings.path_def, Mappings.reference_place, Mappings.step_places}
pub use Rattle.dv_catalog.specs.declared.{entries.FeedDef.FeedDef, entries.HubDef.HubDef, entries.LinkDef.LinkDef, entries.PathDef.PathDef, outlines.FeedOutline.FeedOutline, outlines.HubOutline.HubOutline, outlines.LinkOutline.LinkOutline, outlines.Outline.Outline, outlines.ParentName.ParentName}
pub use Rattle.dv_catalog.specs.declared.{outlines.ParentName.TheVariants.Hub, outlines.ParentName.TheVariants.Link, outlines.PathOutline.PathOutline}
pub use Rattle.dv_text.proofs.{Members.Contains-cons_cases, Members.Contains-cons_here, Members.Contains-cons_there, Members.Contains-flat_map, Members.Contains-map, Members.Contains-nil, Members.Contains-range, Members.member_of_filter_map, Options.none_before_map, Passing.found_member}
pub use Rattle.dv_text.proofs.{Passing.none_found_at, Passing.none_passes, Passing.passes_where_none_fails, Passing.some_passes, Passing.some_passes_at}
pub use Rattle.std.proofs.{Common.lit<, Common.option_map, Common.sum_by, lemmas.Bool.eq-eqb, lemmas.Bool.not-true, lemmas.List.at_drop_all, lemmas.List.Folds.find-append, lemmas.List.Folds.find_at, lemmas.List.Folds.list_all-map, lemmas.List.Sums.prefix_len_stops, lemmas.Simd.map-map}
pub use Rattle.std.specs.Option.{option_and_then, option_map_or}
