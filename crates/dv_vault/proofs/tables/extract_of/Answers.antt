use Rattle.dv_vault.proofs.Vocabulary.{HashedExtract, ap, find, ◌==◌, ◌∙◌}
use Rattle.dv_vault.proofs.TableFacts.{extract_facts}
use Rattle.dv_vault.proofs.tables.extract_of.Goals as goal

pub returns : goal.returns
returns g c =
    let found = c.extract_in.ensures ∙ ap (find (λ (extract : HashedExtract). extract.staged.now.feed == c.args.feed)) c.items.ensures in
    let facts = extract_facts c.args.catalog.now c.requires.valid _ c.args.window.now c.requires.window c.requires.gathered c.args.feed c.extract_in.result found in
    record { found = facts.found; feed = facts.feed_is; keys = facts.keys; ascending = facts.ascending; attrs_fit = facts.attrs_fit }
