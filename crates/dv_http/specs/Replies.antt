-- The bytes of a reply (RFC 9112, sections 4 to 6; RFC 9110, sections 8.3, 8.6, 10.2.1 and 15).
use Rattle.std.specs.Prelude.{ℕ, Bool, ◌&&◌, nat_le, nat_lt, List, [], ◌∷◌, ◌++◌, length, if◌then◌else◌, Option, Some, None, unwrap_or, codes, decimal}
use Rattle.http.specs.StatusCode.{reason_phrase}
use Rattle.dv_http.specs.declared.replies.Reply.{Reply}
use Rattle.dv_http.specs.declared.replies.ReplyKind.{ReplyKind}
use Rattle.dv_http.specs.declared.replies.ReplyKind.TheVariants.{Json, Csv}

-- the end of a line
abbrev pub crlf : List ℕ
crlf = 13 ∷ 10 ∷ []

-- the phrase of a status of three digits, which is empty where it has none
abbrev pub phrase_of : ℕ → List ℕ
phrase_of status = if nat_le 100 status && nat_lt status 1000 then unwrap_or (reason_phrase status) [] else []

abbrev pub status_line : ℕ → List ℕ
status_line status = codes "HTTP/1.1 " ++ decimal status ++ codes " " ++ phrase_of status ++ crlf

abbrev pub kind_line : ReplyKind → List ℕ
kind_line Json = codes "Content-Type: application/json" ++ crlf
kind_line Csv = codes "Content-Type: text/csv; charset=utf-8" ++ crlf

abbrev pub length_line : ℕ → List ℕ
length_line count = codes "Content-Length: " ++ decimal count ++ crlf

-- the methods that are allowed, where they are told
abbrev pub allow_line : Option (List ℕ) → List ℕ
allow_line None = []
allow_line (Some methods) = codes "Allow: " ++ methods ++ crlf

-- the connection ends after the reply
abbrev pub close_line : Bool → List ℕ
close_line last = if last then codes "Connection: close" ++ crlf else []

abbrev pub reply_text : Reply → List ℕ
reply_text reply =
    status_line reply.status ++ kind_line reply.kind ++ length_line (length reply.body) ++ allow_line reply.allow
    ++ close_line reply.last ++ crlf ++ reply.body
