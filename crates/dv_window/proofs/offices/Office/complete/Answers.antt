use Rattle.dv_window.proofs.Vocabulary.{Agrees, Begun, CompletesAs, Fits, HasKept, Held, IfSome, Option, Some, subst, sym, true, ◌∙◌, ◌≡◌}
use Rattle.dv_window.proofs.Agreed.{came_with}
use Rattle.dv_window.proofs.offices.Office.complete.Goals as goal

pub carry_out-requires-clause-told : goal.carry_out-requires-clause-told
carry_out-requires-clause-told g c = λ store at.
    let agrees = subst (λ (held : Held). Agrees held store) (sym c.self.view_is) (c.requires.agrees c.requires.fresh store at) in
    let kept = subst (λ (begun : Option Begun). HasKept c.self.inside.vault begun c.self.inside.snapshots store) (sym c.take.ensures.value ∙ c.in_ok-begun.was {u = tt}) agrees.kept in
    record { stage_is = kept.stage; tables_are = kept.tables_are }

pub returns-clause-some : goal.returns-clause-some
returns-clause-some g c =
    let before = g.K.Keeper.store c.args.keeper.now in
    let after = g.K.Keeper.store c.carry_out.new.keeper in
    let begun = c.in_ok-begun.begun in
    let was : c.self.inside.begun ≡ Some begun = sym c.take.ensures.value ∙ c.in_ok-begun.was {u = tt} in
    let held : Held = record { vault = c.self.inside.vault; begun = c.self.inside.begun; snapshots = c.self.inside.snapshots; stale = c.self.inside.stale; width = c.self.inside.width } in
    subst (λ (held : Held). CompletesAs held c.carry_out.new.self before after c.carry_out.result) c.self.view_is (record {
      begun = begun;
      begun_is = was;
      may_be = subst (λ (b : Option Begun). IfSome b (Fits c.self.inside.vault)) was c.self.invariant.1;
      came = came_with true begun held c.carry_out.new.self _ before after c.carry_out.result c.carry_out.ensures.came;
    })
