use Rattle.dv_bridge.proofs.Vocabulary.{Bor, Joint, KeyedRow, List, None, Some, [], ap, append-nil, append_assoc, arith, get_or, length, map, map-append, option_map, slice_get, sym, take, ways_of, ◌++◌, ◌+◌, ◌-◌, ◌∙◌, ◌∷◌, ◌≡◌}
use Rattle.dv_bridge.proofs.WayEnds.{last_step, no_way, none_told, way_there}
use Rattle.dv_bridge.proofs.ways.+put_links.Goals as goal

pub returns-in_default : goal.returns-in_default
returns-in_default t c =
    let steps = c.args.steps.now in
    let n = length steps - 1 in
    let ends = c.index-steps-last.result in
    let number = c.args.number in
    let size : n + 1 ≡ length steps = grind (arith, c.is_empty.ensures, c.if-is_empty.false) in
    let none : slice_get ends number ≡ None = none_told c.end_at.result (slice_get ends number) c.in_default.not-Some (c.end_at.ensures ∙ ap (λ ends. slice_get ends number) c.items.ensures) in
    let way : get_or (ways_of steps) number [] ≡ [] = ap (λ ways. get_or ways number []) (last_step steps n ends size c.index-steps-last.is) ∙ no_way (ways_of (take n steps)) ends number none in
    let put : List KeyedRow = map (λ (link : Bor KeyedRow). link.now) c.args.links.now.items in
    sym (append-nil put) ∙ ap (λ more. put ++ more) (sym way)

pub returns : goal.returns
returns t c =
    let steps = c.args.steps.now in
    let n = length steps - 1 in
    let ends = c.index-steps-last.result in
    let number = c.args.number in
    let end = c.in-Some.end.now in
    let size : n + 1 ≡ length steps = grind (arith, c.is_empty.ensures, c.if-is_empty.false) in
    let there : slice_get ends number ≡ Some end =
    ap (λ ends. slice_get ends number) (sym c.items.ensures) ∙ sym c.end_at.ensures ∙ ap (option_map (λ (end : Bor Joint). end.now)) c.in-Some.is in
    let way : get_or (ways_of steps) number [] ≡ get_or (ways_of (take n steps)) end.before [] ++ end.link.now ∷ [] =
    ap (λ ways. get_or ways number []) (last_step steps n ends size c.index-steps-last.is) ∙ way_there (ways_of (take n steps)) ends number end there in
    let put : List KeyedRow = map (λ (link : Bor KeyedRow). link.now) c.args.links.now.items in
    ap (map (λ (link : Bor KeyedRow). link.now)) c.in_ok-put.ensures
    ∙ map-append (λ (link : Bor KeyedRow). link.now) c.put_links.new.links.items (end.link ∷ [])
    ∙ ap (λ front. front ++ end.link.now ∷ []) c.in_ok-put_links.ensures
    ∙ append_assoc put (get_or (ways_of (take n steps)) end.before []) (end.link.now ∷ [])
    ∙ ap (λ more. put ++ more) (sym way)
