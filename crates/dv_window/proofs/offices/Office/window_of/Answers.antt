use Rattle.dv_window.proofs.Vocabulary.{Mapping, None, Window, is_window, staged, subst, sym, true, window_of, window_rule, ◌∙◌, ◌≡◌}
use Rattle.dv_window.proofs.PlanFacts.{early_none, read_whole}
use Rattle.dv_window.proofs.offices.Office.window_of.Goals as goal

pub returns-clause-whole : goal.returns-clause-whole
returns-clause-whole g c =
    let raw = c.args.self.now.vault in
    let read : (window_rule raw.mapping c.args.given.now ≡ None) × (c.in_ok-window.window ≡ window_of raw.mapping c.args.given.now) =
    subst (λ (mapping : Mapping). (window_rule mapping c.args.given.now ≡ None) × (c.in_ok-window.window ≡ window_of mapping c.args.given.now)) c.catalog-catalog.ensures.value (c.in_ok-window.ensures {u = tt}).ok in
    let early = early_none raw (staged c.args.self.now) c.args.given.now (sym (c.in_ok-rule.ensures {u = tt}) ∙ c.in_default.is) read.0 in
    subst (λ (window : Window). is_window raw.mapping window ≡ true) (sym read.1) (read_whole raw (staged c.args.self.now) c.args.given.now c.catalog-catalog.ensures.valid_mapping early)
