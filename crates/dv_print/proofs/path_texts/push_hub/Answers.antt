use Rattle.dv_print.proofs.Vocabulary.{ap, dotted, map, numbered, on_ok_weaker, range_with_len, ◌++◌, ◌∙◌, ◌≡◌}
use Rattle.dv_print.proofs.PartColumns.{behind_both}
use Rattle.dv_print.proofs.path_texts.push_hub.Goals as goal

pub returns : goal.returns
returns c =
    let ns = range_with_len 1 c.args.hub.now.parts in
    let name : c.as_slice.result.now ≡ dotted c.args.feed.now c.args.hub.now.name = c.as_slice.ensures.value ∙ c.in_ok-name.ensures ∙ ap (dotted c.args.feed.now) c.bytes.ensures in
    on_ok_weaker c.push_parts.result (λ is.
    is
    ∙ ap (λ name. c.args.header.now ++ map (numbered name) ns) name
    ∙ ap (λ columns. c.args.header.now ++ columns) (behind_both c.args.feed.now c.args.hub.now.name ns))
    c.push_parts.ensures
