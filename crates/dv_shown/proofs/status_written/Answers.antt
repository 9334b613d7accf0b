use Rattle.dv_shown.proofs.Vocabulary.{block_words, compress, day_count, days_from_civil, days_of_months, days_of_years, digest_bytes, digits, fields_text, has_digits, has_form, has_marks, hash_after, hex_on_literals, is_blank, md5, month_from, refl, rounds, seconds_if, stamp_in, stamp_text}
use Rattle.dv_shown.proofs.Vocabulary.{year_from}
use Rattle.dv_shown.proofs.status_written.Goals as goal

pub returns : goal.returns
unfolding md5 digest_bytes hash_after compress rounds block_words stamp_in stamp_text year_from month_from has_form has_marks has_digits seconds_if days_from_civil day_count days_of_years days_of_months fields_text is_blank hex_on_literals digits
returns c = assumption refl
