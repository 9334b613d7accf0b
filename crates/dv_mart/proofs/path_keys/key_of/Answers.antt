use Rattle.dv_mart.proofs.Vocabulary.{HubRow, ap, hub_row_by, hub_rows_in, key_with, made_or, missing_at, missing_count, missing_key, option_map_or, subst, sym, ◌<◌, ◌∙◌}
use Rattle.dv_mart.proofs.path_keys.key_of.Goals as goal

pub bounds-missing-hub : goal.bounds-missing-hub
bounds-missing-hub c = subst (λ count. c.args.hub < count) (sym (missing_count c.args.vault.now.mapping c.args.missing.now c.requires.missing)) c.requires.hub

pub returns-in-None : goal.returns-in-None
returns-in-None c =
    let mapping = c.args.vault.now.mapping in
    let found = hub_row_by (hub_rows_in c.args.hub c.args.vault.now.tables) c.args.digest.now in
    let missing = missing_key mapping c.args.hub in
    c.index-missing-hub.is ∙ missing_at mapping c.args.hub c.args.missing.now _ c.requires.missing c.requires.hub
    ∙ sym (made_or (λ key. key) (λ (row : HubRow). row.key) (λ key. key.now) found c.key.result missing (c.key.ensures ∙ ap (key_with c.args.digest.now) c.hub.ensures)
    ∙ ap (λ o. option_map_or (λ key. key.now) o missing) c.in-None.is)
