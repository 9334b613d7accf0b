use Rattle.dv_hub_link.proofs.Vocabulary.{Contains-map, Key, List, delivered, delivery_of, got_member, hashes_of, refs_fit, subst, sym, true, ◌∙◌, ◌≡◌}
use Rattle.dv_hub_link.proofs.{Brought.brought_first, Brought.missing_first, Hashables.missing_fits}
use Rattle.dv_hub_link.proofs.additions.brought_lists.Goals as goal

pub hashed_lists-requires-clause-missing : goal.hashed_lists-requires-clause-missing
hashed_lists-requires-clause-missing g c κs within =
    let got = sym c.in-Some.ensures.value in
    subst (λ (refs : List Key). refs_fit refs ≡ true) (sym (c.requires.missing ∙ missing_first c.args.catalog.now c.args.items.now c.in-Some.first.now got))
    (missing_fits c.args.catalog.now c.note_valid.ensures (delivered c.args.items.now) c.requires.items (delivery_of c.in-Some.first.now)
    (Contains-map delivery_of c.args.items.now c.in-Some.first.now (got_member c.args.items.now 0 c.in-Some.first.now got)))

pub returns : goal.returns
returns g c =
    c.in_ok-lists.ensures
    ∙ brought_first c.args.catalog.now (hashes_of g.H.KeyDigest.function) c.args.items.now c.in-Some.first.now (sym c.in-Some.ensures.value) c.args.missing.now c.requires.missing
