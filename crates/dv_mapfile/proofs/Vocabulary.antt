-- What the proofs of this crate, and of those above it, take from elsewhere.
pub use Rattle.dv_catalog.proofs.Vocabulary.{Mapping, all_columns, all_pass_both}
pub use Rattle.dv_checks.proofs.Vocabulary.{Bool, List, None, Option, Some, [], and_from, and_parts, ap, bytes_eq, drop, false, find, flat_map, has_column_form, has_shape, is_some, is_valid, is_within, list_all, list_any, map, mapping_of, most_parts, not, option_and_then, option_map, refl, sym}
pub use Rattle.dv_checks.proofs.Vocabulary.{true, ℕ, ◌++◌, ◌+◌, ◌∙◌, ◌∷◌, ◌≡◌}
pub use Rattle.dv_text.proofs.Vocabulary.{false≢true, pos}
pub use Rattle.dv_catalog.specs.{Checks.fault_of, Documents.document_of, Documents.keys_of, Documents.mapping_document, Forms.column, Forms.column_or_none, Forms.count_or_none, Forms.each, Forms.list_of, Forms.optional, Forms.part_count, Forms.required, Forms.text, MappingFiles.checked_if}
pub use Rattle.dv_catalog.specs.{MappingFiles.read_mapping, Mappings.unless_fault, Shapes.entries, Shapes.feed_keys, Shapes.feed_of, Shapes.hub_of, Shapes.link_of, Shapes.no_others, Shapes.outline_in, Shapes.outline_of, Shapes.outline_or_shape, Shapes.outline_or_text, Shapes.parent_of}
pub use Rattle.dv_catalog.specs.{Shapes.path_of, Shapes.placed, Shapes.tops_of, Shapes.unknown_key, Steps.◌>>=◌}
pub use Rattle.dv_catalog.specs.declared.{map_error.MapError.MapError, outlines.FeedOutline.FeedOutline, outlines.HubOutline.HubOutline, outlines.Outline.Outline}
pub use Rattle.dv_checks.proofs.ValidMappings.{mapping_valid}
pub use Rattle.dv_mapfile.specs.Meets.{Meets}
pub use Rattle.dv_mapfile.specs.declared.{shape_faults.ShapeFault.ShapeFault, shape_faults.ShapeFault.TheVariants.At, shape_faults.ShapeFault.TheVariants.Memory}
pub use Rattle.std.proofs.{Common.Bor, Common.Global, Common.String, Common.negsuc, Common.string_bytes, lemmas.Result.IfOk-at_ok, lemmas.Result.err_from_is_err_and, lemmas.Str.IsUtf8-from_is_utf8, lemmas.Str.is_utf8-from_IsUtf8}
pub use Rattle.std.specs.{Prelude.Err, Prelude.IfOk, Prelude.IfSome, Prelude.Ok, Prelude.Result, Prelude.codes, Prelude.if◌then◌else◌, Prelude.ok_or, Str.IsUtf8, Str.is_utf8}
pub use Rattle.toml.proofs.Views.{Entry}
pub use Rattle.toml.specs.{Data.Data, Data.Members, Data.as_array, Data.as_integer, Data.as_str, Data.as_table, Data.get_member, Data.item, Data.no_items, Parse.parse_document, View.items_view, View.members_view, View.table_view}
