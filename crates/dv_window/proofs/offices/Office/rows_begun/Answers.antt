use Rattle.dv_window.proofs.Vocabulary.{Begun, Fits, Held, IfSome, List, Option, Part, ap, opened_in, option_map, rows_behind, rows_in, rows_there, slice_get, subst, sym, ◌∙◌, ◌≡◌}
use Rattle.dv_window.proofs.BegunRows.{begun_kind, begun_rows, none_begun}
use Rattle.dv_window.proofs.offices.Office.rows_begun.Goals as goal

pub returns-in_err-place-clause-rows : goal.returns-in_err-place-clause-rows
returns-in_err-place-clause-rows c =
    subst (λ (held : Held). rows_in c.args.table (rows_there held.vault held.begun) ≡ rows_behind (rows_in c.args.table held.vault.tables) (option_map (λ rows. rows.now) c.from_residual.result)) c.self.view_is
    (none_begun c.args.table c.self.inside.vault c.self.inside.begun c.from_residual.result c.in_err-place.ensures.place c.from_residual.ensures)

pub returns-clause-kind : goal.returns-clause-kind
returns-clause-kind c =
    let may : Fits c.self.inside.vault c.in_ok-begun.begun.now = subst (λ (begun : Option Begun). IfSome begun (Fits c.self.inside.vault)) (sym c.in_ok-begun.ensures.value) c.self.invariant.1 in
    begun_kind c.args.table c.self.inside.vault c.in_ok-begun.begun.now c.in_ok-place.place c.in_ok-place.ensures.place c.opened_at.result
    (c.opened_at.ensures ∙ ap (λ (parts : List Part). slice_get (opened_in parts) c.in_ok-place.place) c.deref.ensures.value) may

pub returns-clause-rows : goal.returns-clause-rows
returns-clause-rows c =
    subst (λ (held : Held). rows_in c.args.table (rows_there held.vault held.begun) ≡ rows_behind (rows_in c.args.table held.vault.tables) (option_map (λ rows. rows.now) c.opened_at.result)) c.self.view_is
    (subst (λ (begun : Option Begun). rows_in c.args.table (rows_there c.self.inside.vault begun) ≡ rows_behind (rows_in c.args.table c.self.inside.vault.tables) (option_map (λ rows. rows.now) c.opened_at.result)) c.in_ok-begun.ensures.value
    (begun_rows c.args.table c.self.inside.vault c.in_ok-begun.begun.now c.in_ok-place.place c.in_ok-place.ensures.place c.opened_at.result
    (c.opened_at.ensures ∙ ap (λ (parts : List Part). slice_get (opened_in parts) c.in_ok-place.place) c.deref.ensures.value)))
