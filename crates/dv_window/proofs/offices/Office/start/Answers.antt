use Rattle.dv_window.proofs.Vocabulary.{Agrees, Held, IsInForm, IsMappedBy, Mapping, Some, Stands, hashes_of, inr, never_unread, rules, same_mapping, subst, sym, ◌∙◌, ◌≡◌}
use Rattle.dv_window.proofs.StartFacts.{none_stored, read_as}
use Rattle.dv_window.proofs.offices.Office.start.Goals as goal

pub returns-in_err-catalog-clause-undamaged : goal.returns-in_err-catalog-clause-undamaged
returns-in_err-catalog-clause-undamaged g c damage is mapping state store at stands =
    never_unread mapping (hashes_of g.H.KeyDigest.function) state store stands damage (c.stored_mapping.ensures.damaged damage (search rules) store at)

pub returns-in_default-clause-none : goal.returns-in_default-clause-none
returns-in_default-clause-none g c is = λ store at. none_stored c.in_ok-catalog.field-0 store (c.in_ok-catalog.ensures.read store at) c.in_default.not-Some

pub returns-in_err-restored-clause-damaged : goal.returns-in_err-restored-clause-damaged
returns-in_err-restored-clause-damaged g c damage is = λ store at.
    inr (c.in-Some.catalog, read_as c.in_ok-catalog.field-0 store (c.in_ok-catalog.ensures.read store at) c.in-Some.catalog c.in-Some.is, c.read_store.ensures.damaged damage (search rules) store (c.stored_mapping.ensures.store ∙ at))

pub returns-in_err-restored-clause-undamaged : goal.returns-in_err-restored-clause-undamaged
returns-in_err-restored-clause-undamaged g c damage is mapping state store at stands =
    let hashes = hashes_of g.H.KeyDigest.function in
    let read = read_as c.in_ok-catalog.field-0 store (c.in_ok-catalog.ensures.read store at) c.in-Some.catalog c.in-Some.is in
    let same : mapping ≡ c.in-Some.catalog = same_mapping mapping c.in-Some.catalog store stands.mapped read in
    c.read_store.ensures.undamaged damage (search rules) state store (c.stored_mapping.ensures.store ∙ at) (subst (λ (mapping : Mapping). Stands mapping hashes state store) same stands)

pub returns-clause-agrees : goal.returns-clause-agrees
returns-clause-agrees g c = λ store at.
    let before : g.K.Keeper.store c.args.keeper.now ≡ Some store = sym c.stored_mapping.ensures.store ∙ sym c.read_store.ensures.store ∙ at in
    let read : IsMappedBy c.in-Some.catalog store.mapping = read_as c.in_ok-catalog.field-0 store (c.in_ok-catalog.ensures.read store before) c.in-Some.catalog c.in-Some.is in
    subst (λ (held : Held). Agrees held store) (sym c.of_restored.ensures) (record {
      mapped = subst (λ (mapping : Mapping). IsMappedBy mapping store.mapping) (sym c.in_ok-restored.ensures.mapping) read;
      kept = c.in_ok-restored.ensures.kept store (c.stored_mapping.ensures.store ∙ before);
    })

pub returns-clause-in_form : goal.returns-clause-in_form
returns-clause-in_form g c = λ store at.
    let hashes = hashes_of g.H.KeyDigest.function in
    subst (λ (held : Held). IsInForm hashes g.H.KeyDigest.function.width held.vault.mapping store) (sym c.of_restored.ensures)
    (subst (λ (mapping : Mapping). IsInForm hashes g.H.KeyDigest.function.width mapping store) (sym c.in_ok-restored.ensures.mapping) (c.in_ok-restored.ensures.in_form store (c.stored_mapping.ensures.store ∙ at)))
