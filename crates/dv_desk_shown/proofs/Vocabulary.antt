-- What the proofs of this crate, and of those above it, take from elsewhere.
pub use Rattle.dv_desk.proofs.Vocabulary.{refl}
unfoldable pub use Rattle.dv_text.specs.Stamps.{has_digits, has_form, has_marks, seconds_if, stamp_in}
unfoldable pub use Rattle.jiff_core.specs.Calendar.{day_count, days_from_civil, days_of_months, days_of_years}
unfoldable pub use Rattle.serde_json.proofs.OnLiterals.{serde_json_on_literals}
unfoldable pub use Rattle.std.specs.{Fmt.digits, Str.chars, Str.is_utf8}
