use Rattle.dv_vault.proofs.Vocabulary.{WindowHead, ap, option_map, sym, ◌∙◌}
use Rattle.dv_vault.proofs.AddedWindows.{last_got_head}
use Rattle.dv_vault.proofs.vaults.last_load.Goals as goal

pub returns-in-Some : goal.returns-in-Some
returns-in-Some c = ap (option_map (λ (head : WindowHead). head.load)) c.in-Some.ensures.value ∙ sym (last_got_head c.args.heads.now)

pub returns-in-None : goal.returns-in-None
returns-in-None c = ap (option_map (λ (head : WindowHead). head.load)) c.in-None.ensures.value ∙ sym (last_got_head c.args.heads.now)
