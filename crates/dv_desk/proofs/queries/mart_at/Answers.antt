use Rattle.dv_desk.proofs.Vocabulary.{BadQuery, Err, IsOffered, Ok, RawVault, Rows, TooLarge, ap, path_name, refl, subst, sym, ◌∙◌}
use Rattle.dv_desk.proofs.Read.{mart_looked}
use Rattle.dv_desk.proofs.queries.mart_at.Goals as goal

pub mart_text-requires : goal.mart_text-requires
mart_text-requires c = record { offered = subst (λ (v : RawVault). IsOffered v.mapping c.args.what.now) (sym c.vault.ensures) c.requires }

pub returns-in-Ok : goal.returns-in-Ok
returns-in-Ok c = mart_looked c.args.office.now c.args.what.now c.args.date c.vault.result.now c.vault.ensures (Ok c.in-Ok.text) c.in-Ok.ensures.text (Rows c.in-Ok.text) refl tt

pub returns-in_ok-rule-in-Err-TooLarge : goal.returns-in_ok-rule-in-Err-TooLarge
returns-in_ok-rule-in-Err-TooLarge c =
    let what = c.args.what.now in
    let raw = c.vault.result.now in
    mart_looked c.args.office.now what c.args.date raw c.vault.ensures (Err (TooLarge (path_name raw.mapping what))) ((c.in-Err-TooLarge.ensures {u = tt}).too_large c.in-Err-TooLarge.field-0-is) (BadQuery c.in_ok-rule-in-Err-TooLarge.rule)
    (ap BadQuery (c.in_ok-rule-in-Err-TooLarge.ensures ∙ ap (λ m. TooLarge (path_name m what)) (c.catalog.ensures.value ∙ ap (λ (v : RawVault). v.mapping) (sym c.vault.ensures)))) tt
