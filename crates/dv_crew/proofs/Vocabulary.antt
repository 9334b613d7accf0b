-- What the proofs of this crate, and of those above it, take from elsewhere.
pub use Rattle.dv_board.proofs.Vocabulary.{BoardId, Bool, Claimant, Contains, List, [], ap, arith, cases_eq, cases_lt, cond, eqb-true, false, get_or, length, ne_eqb, once_below, refl, rules, subst, suc, sym, take, times, zero, ℕ, ⊎_elim, ◌*◌, ◌++◌, ◌+◌, ◌-◌, ◌<◌, ◌||◌, ◌∙◌, ◌∷◌, ◌≡◌, ◌≤◌}
pub use Rattle.dv_outside.proofs.Vocabulary.{drop}
pub use Rattle.dv_text.proofs.Vocabulary.{All-drop, None, Some, get_or_from_slice_get, map, position, position-Some, slice_get-get_or, slice_get_within}
pub use Rattle.dv_board.proofs.Sums.{times_last, times_one}
pub use Rattle.dv_crew.specs.{Orders.counterpart, Results.AreResults, Results.GivesWith, Results.HasDoneAll, Work.AreDone, Work.HasWorked, Work.numbers, Work.tasks_drawn}
pub use Rattle.dv_crew.specs.declared.{crews.Done.Done, crews.Worker.Worker, orders.Order.Order, orders.Order.TheVariants.Declared, orders.Order.TheVariants.Reverse}
pub use Rattle.dv_text.proofs.Places.{none_placed, placed_within}
pub use Rattle.std.proofs.{Common.nat_eq, Common.◌==◌, Crossing.crosses, Math.Seq.get_or-append_seam, lemmas.List.get_or_append_left, lemmas.List.length-append, lemmas.List.map-append, lemmas.List.Elements.All-append, lemmas.List.Elements.All-nil, lemmas.List.Elements.All-push}
pub use Rattle.std.proofs.{lemmas.List.Elements.All-take, lemmas.Result.IfOk-at_ok}
pub use Rattle.std.specs.Prelude.{All}
pub use denote.Param.Send.{IsSync, sendable}
