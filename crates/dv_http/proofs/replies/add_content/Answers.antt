use Rattle.dv_http.proofs.Vocabulary.{ap, length, length_line, ◌++◌, ◌∙◌}
use Rattle.dv_http.proofs.Chains.{three_behind}
use Rattle.dv_http.proofs.replies.add_content.Goals as goal

pub returns : goal.returns
returns c = three_behind c.args.text.now.items c.add_status.new.text.items c.extend_from_slice.new.self.items c.add_length.new.text.items _ _ _
    c.in_ok-add_status.ensures
    (c.in_ok-extend_from_slice.ensures.items ∙ ap (λ l. c.add_status.new.text.items ++ l) c.kind_line.ensures)
    (c.in_ok-add_length.ensures ∙ ap (λ b. c.extend_from_slice.new.self.items ++ length_line (length b)) c.bytes.ensures)
