use Rattle.dv_contents.proofs.Vocabulary.{key_cmp, lex_map, refs_cmp, sym, ◌∙◌}
use Rattle.dv_contents.proofs.content_rows.ContentRow.refs_compared.Goals as goal

pub returns : goal.returns
returns c = c.cmp.ensures ∙ sym (lex_map (λ key. key.now) key_cmp c.self.inside.refs c.other.inside.refs) ∙ (λ i. refs_cmp (c.self.view_is i).refs (c.other.view_is i).refs)
