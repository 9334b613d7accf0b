use Rattle.dv_pit.proofs.Vocabulary.{List, ap, eqb-true, has_multi, has_sat, length, nil_from_length, sym, ℕ, ◌==◌, ◌∙◌}
use Rattle.dv_pit.proofs.pits.add_cell.Goals as goal

pub unreachable-requires : goal.unreachable-requires
unreachable-requires c =
    let definition = c.args.feed.now.definition.now in
    let none = ap (λ (xs : List (List ℕ)). length xs == 0) (sym c.items-2.ensures) ∙ sym c.if-is_empty-2.ensures in
    let some = ap (λ (xs : List (List ℕ)). length xs == 0) (sym c.items.ensures) ∙ sym c.if-is_empty.ensures in
    c.in-None.ensures.absent (has_sat c.args.vault.now.mapping c.args.feed.now.place definition c.requires (nil_from_length definition.sub (eqb-true (length definition.sub) 0 none)) some)

pub unreachable-requires-in-None-multi : goal.unreachable-requires-in-None-multi
unreachable-requires-in-None-multi c =
    let definition = c.args.feed.now.definition.now in
    let some_sub = ap (λ (xs : List (List ℕ)). length xs == 0) (sym c.items-2.ensures) ∙ sym c.if-is_empty-2.ensures in
    let some = ap (λ (xs : List (List ℕ)). length xs == 0) (sym c.items.ensures) ∙ sym c.if-is_empty.ensures in
    c.in-None-multi.ensures.absent (has_multi c.args.vault.now.mapping c.args.feed.now.place definition c.requires some_sub some)
