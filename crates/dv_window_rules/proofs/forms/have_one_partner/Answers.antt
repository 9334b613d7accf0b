use Rattle.dv_window_rules.proofs.Vocabulary.{ap, is_none, ◌∙◌}
use Rattle.dv_window_rules.proofs.PartnerForms.{partners_told}
use Rattle.dv_window_rules.proofs.forms.have_one_partner.Goals as goal

pub returns : goal.returns
returns c = c.is_kept.ensures ∙ ap is_none c.in_ok-two_drivers.ensures ∙ partners_told c.args.feed.now c.args.rows.now
