use Rattle.dv_vault.proofs.Vocabulary.{IfSome, Rows, none_like, subst, sym, whole_part, ◌∙◌, ◌≡◌}
use Rattle.dv_vault.proofs.Parts.{none_is}
use Rattle.dv_vault.proofs.keeping.settle.Goals as goal

pub returns : goal.returns
returns c =
    let whole : c.in-Some.rows ≡ whole_part c.args.part.now = subst (λ joined. IfSome joined (λ (rows : Rows). rows ≡ whole_part c.args.part.now)) c.in-Some.is c.requires.some in
    let none : c.none_of.result ≡ none_like c.args.part.now.rest = c.none_of.ensures ∙ sym (none_is c.args.table c.args.part.now.rest c.requires.rest) in
    λ i. record { opened = whole i; rest = none i }
