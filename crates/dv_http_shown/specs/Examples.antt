-- Requests and replies, and what the definitions say of them.
use Rattle.std.specs.Prelude.{◌≡◌, ℕ, List, [], ◌∷◌, ◌++◌, true, false, Some, None, Ok, Err, codes}
use Rattle.form_urlencoded.specs.Form.{decode, raw_pairs}
use Rattle.httparse.specs.Grammar.{Field, RequestHead, crlf, lf, print_request}
use Rattle.dv_http.specs.Fields.{body_length}
use Rattle.dv_http.specs.Replies.{reply_text}
use Rattle.dv_http.specs.Requests.{BeginsWith, fields_of, is_last, length_of, request_of}
use Rattle.dv_http.specs.Targets.{at_of, path_of, query_of}
use Rattle.dv_http.specs.declared.replies.Reply.{Reply}
use Rattle.dv_http.specs.declared.replies.ReplyKind.TheVariants.{Csv, Json}
use Rattle.dv_http.specs.declared.requests.WireError.TheVariants.{BodyTooLong, Head, NoLength}

pub record TargetsHold : Type 0 where
  pub path : path_of (codes "/windows") ≡ codes "/windows"
  pub before : path_of (codes "/p?at=1?2") ≡ codes "/p"
  pub behind : query_of (codes "/p?at=1?2") ≡ codes "at=1?2"
  pub no_query : query_of (codes "/p") ≡ []
  -- an empty piece of a query is none
  pub pairs : raw_pairs (query_of (codes "/p?bat=1&&a%74=a%20b+c&at")) ≡ (codes "bat", codes "1") ∷ (codes "a%74", codes "a%20b+c") ∷ (codes "at", []) ∷ []
  pub name : decode (codes "a%74") ≡ codes "at"
  pub value : decode (codes "a%20b+c") ≡ codes "a b c"
  -- an escape that is cut stays as it is
  pub cut : decode (codes "%2") ≡ codes "%2"
  pub absent : at_of (codes "/p") ≡ None

abbrev pub field : List ℕ → List ℕ → List ℕ × List ℕ
field name value = (name, value)

abbrev pub one_length : List ℕ → List (List ℕ × List ℕ)
one_length value = field (codes "content-LENGTH") value ∷ []

pub record FieldsHold : Type 0 where
  pub no_body : body_length (codes "GET") (field (codes "Host") (codes "localhost") ∷ []) ≡ Ok 0
  pub must : body_length (codes "POST") [] ≡ Err NoLength
  pub small_post : body_length (codes "post") [] ≡ Ok 0
  pub told : body_length (codes "POST") (one_length (codes "364")) ≡ Ok 364
  pub zeros : body_length (codes "GET") (one_length (codes "0000000000000000001")) ≡ Ok 1
  pub most : body_length (codes "POST") (one_length (codes "68157440")) ≡ Ok 68157440
  pub too_long : body_length (codes "POST") (one_length (codes "68157441")) ≡ Err BodyTooLong
  pub past_64_bits : body_length (codes "POST") (one_length (codes "18446744073709551617")) ≡ Err Head
  pub sign : body_length (codes "POST") (one_length (codes "+1")) ≡ Err Head
  pub blank : body_length (codes "POST") (one_length (codes "1 1")) ≡ Err Head
  pub nothing : body_length (codes "POST") (one_length []) ≡ Err Head
  -- two lengths, the same or not
  pub twice : body_length (codes "POST") (field (codes "Content-Length") (codes "1") ∷ one_length (codes "1")) ≡ Err Head
  -- another coding, with a length or without
  pub coding : body_length (codes "POST") (field (codes "transfer-encoding") (codes "chunked") ∷ one_length (codes "x")) ≡ Err NoLength

abbrev pub host : Field
host = record { name = codes "Host"; raw = codes " localhost"; end = crlf }

abbrev pub closing : Field
closing = record { name = codes "connection"; raw = 9 ∷ codes "Close "; end = lf }

abbrev pub posted : RequestHead
posted = record { blank = []; method = codes "POST"; target = codes "/windows"; minor = 1; line_end = crlf; fields = host ∷ record { name = codes "Content-Length"; raw = codes " 3"; end = crlf } ∷ []; last = crlf }

abbrev pub old : RequestHead
old = record { blank = lf ∷ []; method = codes "GET"; target = codes "/"; minor = 0; line_end = lf; fields = []; last = lf }

abbrev pub ending : RequestHead
ending = record { blank = []; method = codes "GET"; target = codes "/"; minor = 1; line_end = crlf; fields = closing ∷ host ∷ []; last = crlf }

abbrev pub line_end : List ℕ
line_end = 13 ∷ 10 ∷ []

pub record HeadsHold : Type 0 where
  pub text : print_request posted ≡ codes "POST /windows HTTP/1.1" ++ line_end ++ codes "Host: localhost" ++ line_end ++ codes "Content-Length: 3" ++ line_end ++ line_end
  pub fields : fields_of posted ≡ field (codes "Host") (codes "localhost") ∷ field (codes "Content-Length") (codes "3") ∷ []
  pub told : length_of posted ≡ Ok 3
  pub goes_on : is_last posted ≡ false
  pub old_text : print_request old ≡ 10 ∷ codes "GET / HTTP/1.0" ++ 10 ∷ 10 ∷ []
  pub old_ends : is_last old ≡ true
  pub says_so : is_last ending ≡ true
  pub made : request_of posted (codes "abc") ≡ record { method = codes "POST"; path = codes "/windows"; at = None; body = codes "abc"; last = false }

pub record RequestsHold : Type 0 where
  -- a body ends where its length says, and what is behind it is left
  pub taken : BeginsWith (print_request posted ++ codes "abcGET") (record { method = codes "POST"; path = codes "/windows"; at = None; body = codes "abc"; last = false }) (codes "GET")
  pub old : BeginsWith (10 ∷ codes "GET / HTTP/1.0" ++ 10 ∷ 10 ∷ []) (record { method = codes "GET"; path = codes "/"; at = None; body = []; last = true }) []

abbrev pub loaded : Reply
loaded = record { status = 200; kind = Json; allow = None; last = false; body = codes "{\"answer\":\"Loaded\",\"rows\":18}" }

abbrev pub mart : Reply
mart = record { status = 200; kind = Csv; allow = None; last = true; body = codes "A" ++ 10 ∷ [] }

abbrev pub method : Reply
method = record { status = 405; kind = Json; allow = Some (codes "GET, POST"); last = false; body = codes "{}" }

pub record RepliesHold : Type 0 where
  pub loaded : reply_text loaded ≡ codes "HTTP/1.1 200 OK" ++ line_end ++ codes "Content-Type: application/json" ++ line_end ++ codes "Content-Length: 29" ++ line_end ++ line_end ++ codes "{\"answer\":\"Loaded\",\"rows\":18}"
  pub mart : reply_text mart ≡ codes "HTTP/1.1 200 OK" ++ line_end ++ codes "Content-Type: text/csv; charset=utf-8" ++ line_end ++ codes "Content-Length: 2" ++ line_end ++ codes "Connection: close" ++ line_end ++ line_end ++ codes "A" ++ 10 ∷ []
  pub method : reply_text method ≡ codes "HTTP/1.1 405 Method Not Allowed" ++ line_end ++ codes "Content-Type: application/json" ++ line_end ++ codes "Content-Length: 2" ++ line_end ++ codes "Allow: GET, POST" ++ line_end ++ line_end ++ codes "{}"
