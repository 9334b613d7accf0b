use Rattle.dv_window.proofs.Vocabulary.{Held, IsAddition, Window, ap, full_at, hashes_of, inr, last_sealed, late_after, length, staged, subst, sym, ◌∙◌}
use Rattle.dv_window.proofs.PlanFacts.{not_late}
use Rattle.dv_window.proofs.offices.Office.plan_new.Goals as goal

pub addition-requires-clause-later : goal.addition-requires-clause-later
addition-requires-clause-later g c κs within =
    ap (λ (held : Held). late_after (last_sealed held.vault.heads) c.args.window.load) c.self.view_is
    ∙ ap (λ (window : Window). late_after (last_sealed c.args.self.now.vault.heads) window.load) c.requires.window
    ∙ not_late c.args.self.now.vault (staged c.args.self.now) c.args.given.now c.requires.passes

pub returns-in-Some-clause-stops : goal.returns-in-Some-clause-stops
returns-in-Some-clause-stops g c =
    let raw = c.args.self.now.vault in
    let hashes = hashes_of g.H.KeyDigest.function in
    let adds : IsAddition hashes raw c.args.window c.in_ok-begun.begun = subst (λ (held : Held). IsAddition hashes held.vault c.args.window c.in_ok-begun.begun) c.self.view_is (c.in_ok-begun.ensures {u = tt}).adds in
    let here = subst (λ (window : Window). IsAddition hashes raw window c.in_ok-begun.begun) c.requires.window adds in
    let count = c.in_ok-windows.ensures {u = tt} ∙ ap length (c.items.ensures ∙ c.heads.ensures.value) in
    inr (inr (inr (inr (record {
      passes = c.requires.passes;
      none_open = c.requires.none_open;
      apart = here.apart;
      rule_is = ap (λ weight. full_at weight (length raw.heads)) (sym here.weight_is) ∙ ap (full_at c.in_ok-begun.begun.weight) (sym count) ∙ sym c.too_full.ensures ∙ c.in-Some.is;
    }))))
