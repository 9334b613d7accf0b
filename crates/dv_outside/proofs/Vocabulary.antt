-- What the proofs of this crate, and of those above it, take from elsewhere.
pub use Rattle.dv_text.proofs.Vocabulary.{List, None, Option, Some, [], ap, append_assoc, arith, length, refl, sym, take, ℕ, ◌++◌, ◌+◌, ◌-◌, ◌∙◌, ◌∷◌, ◌≡◌, ◌≤◌}
pub use Rattle.dv_outside.specs.{Bytes.GotPrefix, Bytes.after, Files.file_at}
pub use Rattle.std.proofs.{Common.drop, Common.drop-drop, Common.length-drop, Common.length-take-le, Math.Seq.take-add, Math.Seq.take-append_seam, lemmas.List.append-nil, lemmas.List.take-append-drop, lemmas.List.take_all, lemmas.Result.err_from_is_err_and}
