-- What the proofs of this crate, and of those above it, take from elsewhere.
pub use Rattle.dv_text.proofs.Vocabulary.{Bool, List, [], and_parts, ap, append_assoc, arith, get_or, join_with_byte, length, length-map, list_all, map, refl, sym, take, true, ℕ, ◌*◌, ◌++◌, ◌+◌, ◌-◌, ◌<◌, ◌∙◌, ◌∷◌, ◌≡◌, ◌≤◌}
pub use Rattle.dv_digest.specs.Fits.{attrs_fit, refs_fit, texts_fit}
pub use Rattle.dv_digest.specs.declared.rooms.TheConstants.{ROOM_SIZE}
pub use Rattle.dv_text.specs.{Keys.hashes_of, Keys.joined, Keys.key_text, Keys.refs_text, Limits.most_field_bytes}
pub use Rattle.dv_text.specs.declared.rows.Key.{Key}
pub use Rattle.std.proofs.{Common.append-nil, Common.flat_map, Common.le-leb, Common.leb-true, Common.length-append, Common.mul-le-mul_right, Common.nat_le, Common.suc-mul, lemmas.List.take_all, lemmas.List.Folds.flat_map-map, lemmas.List.Folds.length-flat_map-take}
