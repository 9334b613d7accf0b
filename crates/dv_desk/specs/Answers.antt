-- What a request is answered with, and the reply that says it.
use Rattle.std.specs.Prelude.{ℕ, Bool, true, List, Option, Some, None, codes, option_map}
use Rattle.dv_catalog.specs.RuleTexts.{rule_text}
use Rattle.dv_catalog.specs.declared.rules.Rule.{Rule}
use Rattle.dv_catalog.specs.declared.rules.Rule.TheVariants.{Late, OpenOther, TooLong, Differs, Collision}
use Rattle.dv_http.specs.declared.replies.Reply.{Reply}
use Rattle.dv_http.specs.declared.replies.ReplyKind.{ReplyKind}
use Rattle.dv_http.specs.declared.replies.ReplyKind.TheVariants.{Json, Csv}
use Rattle.dv_http.specs.declared.requests.WireError.{WireError}
use Rattle.dv_http.specs.declared.requests.WireError.TheVariants as errors
use Rattle.dv_print.specs.QueryTexts.{query_text}
use Rattle.dv_restore.specs.declared.faults.StoreFault.{StoreFault}
use Rattle.dv_restore.specs.declared.faults.StoreFault.TheVariants as faults
use Rattle.dv_given.specs.Lines.{damage_text}
use Rattle.dv_desk.specs.Bodies.{answer_body, loaded_body, text_body}
use Rattle.dv_desk.specs.declared.answers.Answer.{Answer}
use Rattle.dv_desk.specs.declared.answers.Answer.TheVariants as answers
use Rattle.dv_desk.specs.declared.routes.Allowed.{Allowed}
use Rattle.dv_desk.specs.declared.routes.Allowed.TheVariants.{Get, GetPost}

-- ---- the status

-- a window that breaks a rule: it conflicts with what is stored, or is too long, or can't be processed
abbrev pub status_of_rule : Rule → ℕ
status_of_rule (Late last) = 409
status_of_rule (OpenOther load) = 409
status_of_rule (Differs load) = 409
status_of_rule (Collision table first second) = 409
status_of_rule (TooLong feed) = 413
status_of_rule rule = 422

-- the status of an answer
abbrev pub status_of : Answer → ℕ
status_of (answers.Loaded rows) = 200
status_of answers.Repeated = 200
status_of (answers.Heads text) = 200
status_of (answers.Rows text) = 200
status_of answers.BadRequest = 400
status_of answers.NotFound = 404
status_of (answers.NotAllowed methods) = 405
status_of (answers.Broken rule) = status_of_rule rule
status_of answers.NoLength = 411
status_of answers.TooLong = 413
status_of (answers.BadQuery rule) = 422
status_of (answers.Damaged damage) = 500
status_of answers.Keeper = 503
status_of answers.Memory = 507

-- ---- the body

-- what the body is: CSV where it is the text of a mart or a table, and else JSON
abbrev pub kind_of : Answer → ReplyKind
kind_of (answers.Rows text) = Csv
kind_of answer = Json

-- methods, as a reply names them
abbrev pub methods_text : Allowed → List ℕ
methods_text Get = codes "GET"
methods_text GetPost = codes "GET, POST"

-- the methods of the route, where the method of the request is none of them
abbrev pub allow_of : Answer → Option (List ℕ)
allow_of (answers.NotAllowed methods) = Some (methods_text methods)
allow_of answer = None

-- the body of an answer
abbrev pub body_of : Answer → List ℕ
body_of (answers.Loaded rows) = loaded_body rows
body_of answers.Repeated = answer_body (codes "Repeated")
body_of (answers.Heads text) = text
body_of (answers.Rows text) = text
body_of answers.BadRequest = answer_body (codes "BadRequest")
body_of answers.NotFound = answer_body (codes "NotFound")
body_of (answers.NotAllowed methods) = answer_body (codes "Method")
body_of (answers.Broken rule) = text_body (codes "Refused") (rule_text rule)
body_of answers.NoLength = answer_body (codes "NoLength")
body_of answers.TooLong = answer_body (codes "TooLong")
body_of (answers.BadQuery rule) = text_body (codes "Refused") (query_text rule)
body_of (answers.Damaged damage) = text_body (codes "Damaged") (damage_text damage)
body_of answers.Keeper = answer_body (codes "Keeper")
body_of answers.Memory = answer_body (codes "Memory")

-- ---- the reply

-- the reply that says an answer; the connection ends after it where it is the last one
abbrev pub reply_of : Answer → Bool → Reply
reply_of answer last = record {
  status = status_of answer;
  kind = kind_of answer;
  allow = allow_of answer;
  last = last;
  body = body_of answer;
}

-- what is answered where no request could be taken, as its end can't be told: no head, no length, or a body that is too
-- long
abbrev pub wire_answer : WireError → Option Answer
wire_answer errors.Head = Some answers.BadRequest
wire_answer errors.NoLength = Some answers.NoLength
wire_answer errors.BodyTooLong = Some answers.TooLong
wire_answer errors.Cut = None
wire_answer errors.Spent = None
wire_answer errors.ReadFault = None
wire_answer errors.Memory = None

-- the reply there, which is the last one
abbrev pub refusal : WireError → Option Reply
refusal error = option_map (λ answer. reply_of answer true) (wire_answer error)

-- what is answered where a stale office could not be refreshed
abbrev pub unrefreshed : StoreFault → Answer
unrefreshed (faults.Damaged damage) = answers.Damaged damage
unrefreshed faults.KeeperFault = answers.Keeper
unrefreshed faults.Memory = answers.Memory
