-- What the proofs of this crate, and of those above it, take from elsewhere.
pub use Rattle.dv_outside.proofs.Vocabulary.{append-nil, drop, drop-drop, length-drop, length-take-le, take-append-drop, take-append_seam, take_all}
pub use Rattle.dv_text.proofs.Vocabulary.{List, None, Option, Some, [], and_parts, ap, append_assoc, arith, false, false≢true, flat_map, get_or, inl, inr, is_ascii_digit, length, length-map, list_all, list_any, map, option_map, option_to_list, refl, rules, subst, sym, take, take_more, true, ℕ}
pub use Rattle.dv_text.proofs.Vocabulary.{◌++◌, ◌+◌, ◌-◌, ◌<◌, ◌^◌, ◌∙◌, ◌∷◌, ◌≡◌, ◌≤◌}
pub use Rattle.dv_http.specs.{Buffers.Came, Buffers.HasEnded, Buffers.held, Buffers.is_spent, Fields.is_close, Fields.is_length, Fields.is_named, Fields.length_told, Fields.values_named, Heads.BodyWaits, Heads.EndsEmpty, Heads.EndsLine, Heads.FindsHead, Heads.GivesBody, Heads.Grows}
pub use Rattle.dv_http.specs.{Heads.HasNoEnd, Heads.IsHeadAt, Heads.IsHeadOf, Heads.Said, Heads.Says, Replies.length_line, Requests.BeginsWith, Requests.EndsInHead, Requests.HasHead, Requests.HasNoHead, Requests.HasNoWhole, Requests.Refuses, Requests.Takes, Requests.Waited, Requests.fields_most}
pub use Rattle.dv_http.specs.{Requests.head_most, Requests.length_of, Requests.request_of, Targets.first_of, Targets.path_of, Targets.query_of}
pub use Rattle.dv_http.specs.declared.requests.WireError.{WireError}
pub use Rattle.dv_http.specs.declared.requests.WireError.TheVariants.{BodyTooLong, Cut, Head, Memory, NoLength, ReadFault, Spent}
pub use Rattle.dv_outside.specs.Bytes.{in_front}
pub use Rattle.form_urlencoded.specs.{Form.raw_pairs, Parse.pairs_left}
pub use Rattle.httparse.proofs.GrammarLemmas.{ReadsRequest-append, print_request-append, request_unique}
pub use Rattle.httparse.specs.Grammar.{Field, HasNoRequest, LineEnd, MayBecomeRequest, ReadsRequest, RequestHead, crlf, lf, print_blank, print_end, print_field, print_request, print_section, print_version}
pub use Rattle.httparse.specs.Spans.{IsRequestAt, IsWithin, RequestOverflows, header_bytes, name_and_value, span_bytes}
pub use Rattle.httparse.specs.declared.{spans.HeaderSpan.HeaderSpan, spans.RequestSpans.RequestSpans}
pub use Rattle.std.proofs.{Common.length-append, Common.min, Common.take-take, Common.⊎_elim, Common.◌==◌, Math.Seq.drop-append_seam, Math.Seq.take-append-add, lemmas.Bool.cases_lt, lemmas.Fmt.IsAscii-from_digits, lemmas.List.drop-append-le, lemmas.List.drop-take, lemmas.List.length-take}
pub use Rattle.std.proofs.{lemmas.List.take-append-le, lemmas.List.take_min, lemmas.Str.IsUtf8-from_ascii, lemmas.Str.digit_value_digit}
pub use Rattle.std.specs.{Int.IsInRange, Prelude.Err, Prelude.IfSome, Prelude.IsSomeAnd, Prelude.Ok, Prelude.Result, Prelude.nat_le, Prelude.nat_lt, Prelude.slice_range, Prelude.unwrap_or, Str.IsUtf8, Str.Parse.AllDigits, Str.Parse.IsNumeral, Str.Parse.digits_value, Str.Parse.without_leading_plus}
