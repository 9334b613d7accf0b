use Rattle.dv_window.proofs.Vocabulary.{Begun, Fits, Held, IfSome, None, Option, RawVault, ap, are_in_order, head_of, one_later, subst, sym, true, ◌∙◌, ◌≡◌}
use Rattle.dv_window.proofs.Agreed.{left_fits}
use Rattle.dv_window.proofs.offices.Office.carry_out.Goals as goal

pub invariant_of-self : goal.invariant_of-self
invariant_of-self g c =
    let fits : Fits c.self.inside.vault c.args.begun = subst (λ (held : Held). Fits held.vault c.args.begun) (sym c.self.view_is) c.requires.fits in
    let none : c.self.inside.begun ≡ None = ap (λ (held : Held). held.begun) c.self.view_is ∙ c.requires.none in
    let grown = one_later c.self.inside.vault.heads (head_of c.args.begun.window) c.self.invariant.2 fits.later in (
      c.self.invariant.0,
      subst (λ (begun : Option Begun). IfSome begun (Fits c.take.new.self)) (sym none) tt,
      subst (λ (raw : RawVault). are_in_order raw.heads ≡ true) (sym (c.in_default.ensures {u = tt}).taken) grown,
    )

pub invariant_of-self-2 : goal.invariant_of-self-2
invariant_of-self-2 g c =
    let fits : Fits c.self.inside.vault c.args.begun = subst (λ (held : Held). Fits held.vault c.args.begun) (sym c.self.view_is) c.requires.fits in (
      c.self.invariant.0,
      subst (λ (raw : RawVault). IfSome c.in-Err.untaken.begun (Fits raw)) (sym c.in-Err.ensures.kept) (left_fits c.args.is_open c.self.inside.vault c.args.begun c.in-Err.untaken.begun fits c.in-Err.ensures.broke.left),
      subst (λ (raw : RawVault). are_in_order raw.heads ≡ true) (sym c.in-Err.ensures.kept) c.self.invariant.2,
    )
