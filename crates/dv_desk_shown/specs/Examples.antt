-- Words, requests, bodies and answers, and what the definitions of the desk say of them.
use Rattle.std.specs.Prelude.{◌≡◌, ℕ, List, [], ◌∷◌, ◌++◌, Bool, true, false, Some, None, codes}
use Rattle.dv_catalog.specs.declared.rules.Rule.TheVariants.{Differs, NoExtracts, TooLong}
use Rattle.dv_http.specs.Replies.{reply_text}
use Rattle.dv_http.specs.declared.requests.Request.{Request}
use Rattle.dv_print.specs.declared.query_rules.QueryRule.TheVariants.{BadDate}
use Rattle.dv_desk.specs.declared.answers.Answer.{Answer}
use Rattle.dv_desk.specs.declared.answers.Answer.TheVariants as answers
use Rattle.dv_desk.specs.declared.posted.Posted.TheVariants as posting
use Rattle.dv_desk.specs.declared.routes.Allowed.TheVariants as allowed
use Rattle.dv_desk.specs.Answers.{reply_of, status_of}
use Rattle.dv_desk.specs.Posted.{posted}
use Rattle.dv_desk.specs.Routes.{Load, NotAllowed, NotFound, Read, asked, Heads, MartAt, PitAt, TableOf}
use Rattle.dv_desk.specs.ServeWords.{port_in, serve_words}

pub record WordsHold : Type 0 where
  pub port : serve_words (codes "8080" ∷ []) ≡ Some (record { port = 8080; workers = 4 })
  pub most : port_in (codes "65535") ≡ Some 65535
  pub past : port_in (codes "65536") ≡ None
  pub zero : port_in (codes "0") ≡ None
  pub leading : port_in (codes "080") ≡ None
  pub sign : port_in (codes "+80") ≡ None
  pub nothing : port_in [] ≡ None
  pub two : serve_words (codes "80" ∷ codes "80" ∷ []) ≡ None
  pub none : serve_words [] ≡ None

-- a request without a date and without a body
abbrev pub plain : List ℕ → List ℕ → Request
plain method path = record { method = method; path = path; at = None; body = []; last = false }

abbrev pub get : List ℕ → Request
get path = plain (codes "GET") path

abbrev pub dated : List ℕ → List ℕ → Request
dated path date = record { method = codes "GET"; path = path; at = Some date; body = []; last = false }

pub record RoutesHold : Type 0 where
  pub heads : asked (get (codes "/windows")) ≡ Read Heads
  pub load : asked (plain (codes "POST") (codes "/windows")) ≡ Load []
  pub small : asked (plain (codes "get") (codes "/windows")) ≡ NotAllowed allowed.GetPost
  pub slash : asked (get (codes "/windows/")) ≡ NotFound
  pub mart : asked (dated (codes "/marts/feed:a") (codes "d")) ≡ Read (MartAt (codes "feed:a") (codes "d"))
  pub undated : asked (get (codes "/marts/feed:a")) ≡ Read (MartAt (codes "feed:a") [])
  -- a name is all that follows
  pub nameless : asked (get (codes "/marts/")) ≡ Read (MartAt [] [])
  pub folders : asked (get (codes "/tables/a/b")) ≡ Read (TableOf (codes "a/b"))
  pub post_mart : asked (plain (codes "POST") (codes "/marts/")) ≡ NotAllowed allowed.Get
  pub pit : asked (dated (codes "/pits/a") (codes "d")) ≡ Read (PitAt (codes "a") (codes "d"))
  pub root : asked (plain (codes "POST") (codes "/")) ≡ NotFound

pub record PostedHold : Type 0 where
  pub none : posted [] ≡ posting.NotJson
  pub cut : posted (codes "{") ≡ posting.NotJson
  pub not_utf8 : posted (34 ∷ 255 ∷ 34 ∷ []) ≡ posting.NotJson
  pub list : posted (codes "[]") ≡ posting.Faulty (codes "object")
  pub undated : posted (codes "{}") ≡ posting.Faulty (codes "load")
  pub no_list : posted (codes "{\"load\":\"2024-03-01T02:00:00\"}") ≡ posting.Faulty (codes "extracts")
  pub no_object : posted (codes "{\"load\":\"2024-03-01T02:00:00\",\"extracts\":[1]}") ≡ posting.Faulty (codes "extract 1 feed")
  pub no_text : posted (codes "{\"load\":\"2024-03-01T02:00:00\",\"extracts\":[{\"feed\":\"a\",\"text\":\"\"},{\"feed\":\"b\"}]}") ≡ posting.Faulty (codes "extract 2 text")

-- the bytes of the reply that says an answer
abbrev pub said : Answer → Bool → List ℕ
said answer last = reply_text (reply_of answer last)

abbrev pub line_end : List ℕ
line_end = 13 ∷ 10 ∷ []

pub record RepliesHold : Type 0 where
  pub loaded : said (answers.Loaded 18) false ≡ codes "HTTP/1.1 200 OK" ++ line_end ++ codes "Content-Type: application/json" ++ line_end ++ codes "Content-Length: 29" ++ line_end ++ line_end ++ codes "{\"answer\":\"Loaded\",\"rows\":18}"
  pub method : said (answers.NotAllowed allowed.GetPost) true ≡
      codes "HTTP/1.1 405 Method Not Allowed" ++ line_end ++ codes "Content-Type: application/json" ++ line_end ++ codes "Content-Length: 19" ++ line_end ++ codes "Allow: GET, POST" ++ line_end ++ codes "Connection: close" ++ line_end ++ line_end ++ codes "{\"answer\":\"Method\"}"
  pub conflict : status_of (answers.Broken (Differs 0)) ≡ 409
  pub long : status_of (answers.Broken (TooLong [])) ≡ 413
  pub other : status_of (answers.Broken NoExtracts) ≡ 422
  pub query : status_of (answers.BadQuery (BadDate [])) ≡ 422
