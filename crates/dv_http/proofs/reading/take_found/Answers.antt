use Rattle.dv_http.proofs.Vocabulary.{BodyWaits, Err, GivesBody, IsRequestAt, Ok, ap, head_most, held, in_front, subst, sym, take, ◌∙◌, ◌≡◌}
use Rattle.dv_http.proofs.Takings.{error_of, waited_held, refuses_body_held, refuses_head_held, size_within, takes_body_held}
use Rattle.dv_http.proofs.reading.take_found.Goals as goal

pub returns-in-Err-clause-takes : goal.returns-in-Err-clause-takes
returns-in-Err-clause-takes g c =
    let kept = held c.args.buffer.now in
    let head = c.requires.found.is.0 in
    let front : take head_most kept ≡ c.front.result.now = ap (take head_most) (sym c.held.ensures) ∙ sym c.front.ensures in
    let is = subst (λ l. IsRequestAt l c.args.spans.now c.args.found.now head) front c.requires.found.is.1 in
    refuses_head_held kept c.args.spans.now c.args.found.now head c.requires.room c.requires.found c.requires.found.is.1 (g.L.Link.left c.args.link.now) c.in-Err.error (c.in-Err.ensures head is)

pub skip-requires : goal.skip-requires
skip-requires g c =
    let kept = held c.args.buffer.now in
    let head = c.requires.found.is.0 in
    let front : take head_most kept ≡ c.front.result.now = ap (take head_most) (sym c.held.ensures) ∙ sym c.front.ensures in
    let is = subst (λ l. IsRequestAt l c.args.spans.now c.args.found.now head) front c.requires.found.is.1 in
    size_within kept c.args.spans.now c.args.found.now head c.requires.room c.requires.found c.requires.found.is.1 c.in-Ok.head (c.in-Ok.ensures head is)

pub returns-in-Ok-read_body-clause-takes : goal.returns-in-Ok-read_body-clause-takes
returns-in-Ok-read_body-clause-takes g c =
    let kept = held c.args.buffer.now in
    let left = g.L.Link.left c.args.link.now in
    let others = in_front (held c.read_body.new.buffer) (g.L.Link.left c.read_body.new.link) in
    let head = c.requires.found.is.0 in
    let front : take head_most kept ≡ c.front.result.now = ap (take head_most) (sym c.held.ensures) ∙ sym c.front.ensures in
    let is = subst (λ l. IsRequestAt l c.args.spans.now c.args.found.now head) front c.requires.found.is.1 in
    let gives = subst (λ l. GivesBody c.in-Ok.head.length (in_front l left) others (Ok c.in-Ok-read_body.body)) c.skip.ensures.held c.in-Ok-read_body.ensures.gives in
    takes_body_held kept c.args.spans.now c.args.found.now head c.requires.room c.requires.found c.requires.found.is.1 left others c.in-Ok.head c.in-Ok-read_body.body (c.in-Ok.ensures head is) gives

pub returns-in-Err-read_body-clause-takes : goal.returns-in-Err-read_body-clause-takes
returns-in-Err-read_body-clause-takes g c =
    let kept = held c.args.buffer.now in
    let left = g.L.Link.left c.args.link.now in
    let others = in_front (held c.read_body.new.buffer) (g.L.Link.left c.read_body.new.link) in
    let head = c.requires.found.is.0 in
    let front : take head_most kept ≡ c.front.result.now = ap (take head_most) (sym c.held.ensures) ∙ sym c.front.ensures in
    let is = subst (λ l. IsRequestAt l c.args.spans.now c.args.found.now head) front c.requires.found.is.1 in
    let gives = subst (λ l. GivesBody c.in-Ok.head.length (in_front l left) others (Err c.in-Err-read_body.error)) c.skip.ensures.held c.in-Err-read_body.ensures.gives in
    refuses_body_held kept c.args.spans.now c.args.found.now head c.requires.room c.requires.found c.requires.found.is.1 left others c.in-Ok.head c.in-Err-read_body.error (c.in-Ok.ensures head is) gives

pub returns-in-Err-read_body-clause-waited : goal.returns-in-Err-read_body-clause-waited
returns-in-Err-read_body-clause-waited g c fault =
    let kept = held c.args.buffer.now in
    let left = g.L.Link.left c.args.link.now in
    let rest = g.L.Link.left c.read_body.new.link in
    let head = c.requires.found.is.0 in
    let front : take head_most kept ≡ c.front.result.now = ap (take head_most) (sym c.held.ensures) ∙ sym c.front.ensures in
    let is = subst (λ l. IsRequestAt l c.args.spans.now c.args.found.now head) front c.requires.found.is.1 in
    let waits = subst (λ l. BodyWaits c.in-Ok.head.length (in_front l left) rest) c.skip.ensures.held (c.in-Err-read_body.ensures.waits (ap Err (ap error_of fault))) in
    waited_held kept c.args.spans.now c.args.found.now head c.requires.room c.requires.found c.requires.found.is.1 left rest c.in-Ok.head (c.in-Ok.ensures head is) waits
