use Rattle.dv_bridge.proofs.Vocabulary.{Err, Joint, KeyedRow, List, Some, TooLarge, [], ap, ends_from, err_from_is_err_and, length, links_met, longer_ways, map, met_by, most_path_rows, refl, subst, sym, ways_by, ways_of, with_key, ℕ, ◌++◌, ◌<◌, ◌∙◌, ◌∷◌, ◌≡◌}
use Rattle.dv_bridge.proofs.WayEnds.{as_many, gone_on}
use Rattle.dv_bridge.proofs.ways.Ways.go_on.Goals as goal

pub returns-in_err-ends-clause-too_large : goal.returns-in_err-ends-clause-too_large
returns-in_err-ends-clause-too_large c =
    let left = c.args.left in
    let right = c.args.right in
    let links = c.args.links.now in
    let keyed = c.deref.result.now in
    let earlier = c.self.inside.earlier.items in
    let last = c.self.inside.last in
    let are_keyed : (key : List ℕ) → with_key key keyed ≡ met_by right (Some key) links = λ key. ap (with_key key) c.deref.ensures.value ∙ c.in_ok-keyed.ensures.stable key in
    let size : length (ends_from 0 (map (links_met left keyed) c.items.result.now)) ≡ length (longer_ways left right links c.args.self.now) =
    ap (λ (last : List Joint). length (ends_from 0 (map (links_met left keyed) last))) c.items.ensures
    ∙ sym (as_many left right links keyed are_keyed (ways_of earlier) last)
    ∙ ap (λ (ways : List (List KeyedRow)). length (longer_ways left right links ways)) c.self.view_is in
    let p = err_from_is_err_and c.from_residual-in_err-ends.result c.from_residual-in_err-ends.ensures.1 in
    rw (p.1, p.2)
    (λ (large : Err _ ≡ Err TooLarge).
    let same : c.in_err-ends.field-0.0 ≡ TooLarge = cc in
    subst (λ n. most_path_rows < n) size (c.in_err-ends.ensures.too_large (ap Err same)))

pub returns-clause-ok : goal.returns-clause-ok
returns-clause-ok c =
    let left = c.args.left in
    let right = c.args.right in
    let links = c.args.links.now in
    let keyed = c.deref.result.now in
    let earlier = c.self.inside.earlier.items in
    let last = c.self.inside.last in
    let ends = c.in_ok-ends.ends in
    let are_keyed : (key : List ℕ) → with_key key keyed ≡ met_by right (Some key) links = λ key. ap (with_key key) c.deref.ensures.value ∙ c.in_ok-keyed.ensures.stable key in
    (λ i. ways_by (ways_of (c.in_ok-put.ensures i)) (c.replace-before.ensures.after i))
    ∙ ap (λ (before : List Joint). ways_by (ways_of (earlier ++ before ∷ [])) ends) c.replace-before.ensures.value
    ∙ gone_on left right links keyed are_keyed (ways_of earlier) last earlier ends refl
    (c.in_ok-ends.ensures.ok ∙ ap (λ (last : List Joint). ends_from 0 (map (links_met left keyed) last)) c.items.ensures)
    ∙ ap (longer_ways left right links) c.self.view_is
