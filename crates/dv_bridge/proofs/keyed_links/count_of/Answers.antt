use Rattle.dv_bridge.proofs.Vocabulary.{KeyedLink, ap, bytes_eq, length, not, place_or_len, prefix_len-le-length, subst, sym, unwrap_or, ◌∙◌, ◌≤◌}
use Rattle.dv_bridge.proofs.keyed_links.count_of.Goals as goal

pub returns-clause-value : goal.returns-clause-value
returns-clause-value c = c.unwrap_or.ensures ∙ ap (λ o. unwrap_or o (length c.args.links.now)) c.other_place.ensures ∙ place_or_len _ c.args.links.now

pub returns-clause-within : goal.returns-clause-within
returns-clause-within c =
    let links = c.args.links.now in
    let is = c.unwrap_or.ensures ∙ ap (λ o. unwrap_or o (length links)) c.other_place.ensures ∙ place_or_len (λ (one : KeyedLink). not (bytes_eq c.args.key.now one.key)) links in
    subst (λ n. n ≤ length links) (sym is) (prefix_len-le-length (λ (one : KeyedLink). not (not (bytes_eq c.args.key.now one.key))) links)
