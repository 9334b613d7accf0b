-- What the proofs of this crate, and of those above it, take from elsewhere.
pub use Rattle.dv_http.proofs.Vocabulary.{BeginsWith, Err, HasHead, HasNoHead, IsUtf8-from_ascii, List, None, Ok, Option, ReadsRequest, Refuses, RequestHead, RequestOverflows, Result, Some, [], ap, arith, fields_most, head_most, inl, inr, length, length-append, length_of, refl, request_of}
pub use Rattle.dv_http.proofs.Vocabulary.{request_unique, subst, sym, ℕ, ◌++◌, ◌<◌, ◌∙◌, ◌≡◌, ◌≤◌}
pub use Rattle.dv_text.proofs.Vocabulary.{All-from_recursion, codes, ◌⊎◌}
pub use Rattle.dv_http.proofs.Slices.{same_parts}
pub use Rattle.dv_http.specs.Requests.{EndsInBody, Gives, HasFault}
pub use Rattle.dv_http.specs.declared.{requests.Request.Request, requests.WireError.WireError, requests.WireError.TheVariants.BodyTooLong, requests.WireError.TheVariants.Cut, requests.WireError.TheVariants.Head, requests.WireError.TheVariants.Memory, requests.WireError.TheVariants.NoLength}
pub use Rattle.dv_http.specs.declared.{requests.WireError.TheVariants.ReadFault, requests.WireError.TheVariants.Spent}
pub use Rattle.dv_http_shown.specs.{Examples.host, Examples.old, Examples.posted, Laws.IsInBytes}
pub use Rattle.http_header.proofs.TokenLemmas.{AllPass-from_test}
pub use Rattle.httparse.specs.Grammar.{IsField, IsRequestHead, is_uri_byte, is_value_byte}
pub use Rattle.std.proofs.{Common.append-nil, lemmas.Str.Ascii.IsAscii-from_all}
pub use Rattle.std.specs.Prelude.{IsUtf8}
unfoldable pub use Rattle.form_urlencoded.proofs.OnLiterals.{form_urlencoded_on_literals}
unfoldable pub use Rattle.httparse.proofs.OnLiterals.{httparse_on_literals}
unfoldable pub use Rattle.httparse.specs.Grammar.{is_token_byte, print_request}
unfoldable pub use Rattle.std.specs.Fmt.{digits}
