use Rattle.dv_http.proofs.Vocabulary.{EndsInHead, Grows, HasNoHead, HasNoRequest, IfSome, MayBecomeRequest, RequestOverflows, ap, arith, fields_most, head_most, held, length, length-take, subst, sym, take, take_all, ◌<◌, ◌∙◌, ◌≡◌}
use Rattle.dv_http.proofs.{Bodies.came_same, Fronts.cut_held, Fronts.none_ever_held, Fronts.none_longer_held}
use Rattle.dv_http.proofs.heads.find_head.Goals as goal

pub returns-in_default-clause-found : goal.returns-in_default-clause-found
returns-in_default-clause-found g c =
    let kept = held c.heads.buffer in
    let is : c.front-bytes.result.now ≡ take head_most kept = c.front-bytes.ensures ∙ ap (take head_most) c.held.ensures in
    subst (λ o. IfSome o HasNoHead) c.heads.invariant.same
    (none_longer_held kept (g.L.Link.left c.heads.link) (subst HasNoRequest is c.in-Unfinished.ensures.0) (omega (arith, ap length is, c.if-bytes-lt-HEAD_MOST.false)))

pub returns-in_default-2-clause-found : goal.returns-in_default-2-clause-found
returns-in_default-2-clause-found g c =
    let kept = held c.heads.buffer in
    let is : c.front-bytes.result.now ≡ take head_most kept = c.front-bytes.ensures ∙ ap (take head_most) c.held.ensures in
    let never : RequestOverflows fields_most c.front-bytes.result.now = subst (λ n. RequestOverflows n c.front-bytes.result.now) c.heads.invariant.room c.in_default.ensures in
    subst (λ o. IfSome o HasNoHead) c.heads.invariant.same
    (none_ever_held kept (g.L.Link.left c.heads.link) (subst (RequestOverflows fields_most) is never))

pub read_on-requires : goal.read_on-requires
read_on-requires g c =
    let kept = held c.heads.buffer in
    let is : c.front-bytes.result.now ≡ take head_most kept = c.front-bytes.ensures ∙ ap (take head_most) c.held.ensures in
    let less : length kept < head_most = omega (arith, ap length is, length-take head_most kept, c.if-bytes-lt-HEAD_MOST.true) in
    record {
      short = less;
      none = subst HasNoRequest (is ∙ take_all head_most kept (omega (arith, less))) c.in-Unfinished.ensures.0;
    }

pub returns-else-is_empty-clause-found : goal.returns-else-is_empty-clause-found
returns-else-is_empty-clause-found g c =
    let kept = held c.heads.buffer in
    let new = held c.read_on.new.buffer in
    let left = g.L.Link.left c.read_on.new.link in
    let is : c.front-bytes.result.now ≡ take head_most kept = c.front-bytes.ensures ∙ ap (take head_most) c.held.ensures in
    let nothing = subst (λ b. Grows b kept new left) c.if-not-branch.true c.in_ok-read_on.ensures.ok.1 in
    let front : c.front-bytes.result.now ≡ take head_most new = is ∙ ap (take head_most) (sym nothing.0) in
    let all = came_same kept new (g.L.Link.left c.heads.link) left c.in_ok-read_on.ensures.ok.0 ∙ c.heads.invariant.same in
    subst (λ o. IfSome o EndsInHead) all
    (cut_held new left nothing.1
    (subst HasNoRequest front c.in-Unfinished.ensures.0)
    (subst MayBecomeRequest front c.in-Unfinished.ensures.1)
    (omega (arith, ap length front, c.if-bytes-lt-HEAD_MOST.true))
    (grind (arith, c.is_empty.ensures, c.if-is_empty.false, ap length c.held-then-not-branch.ensures)))

pub heads-smaller : goal.heads-smaller
heads-smaller g c =
    let kept = held c.heads.buffer in
    let new = held c.read_on.new.buffer in
    let is : c.front-bytes.result.now ≡ take head_most kept = c.front-bytes.ensures ∙ ap (take head_most) c.held.ensures in
    let more = subst (λ b. Grows b kept new (g.L.Link.left c.read_on.new.link)) c.if-not-branch.false c.in_ok-read_on.ensures.ok.1 in
    omega (arith, ap length is, length-take head_most kept, c.if-bytes-lt-HEAD_MOST.true, more)
