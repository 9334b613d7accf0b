use Rattle.dv_window.proofs.Vocabulary.{Agrees, BreaksRule, Held, IsIn, IsInForm, IsMappedBy, IsReadAs, Mapping, Some, Stands, ap, hashes_of, rules, subst, sym, true, ◌∙◌, ◌≡◌}
use Rattle.dv_window.proofs.{Refreshed.mapping_for, Refreshed.not_damaged, Refreshed.rule_for, StartFacts.stands_as}
use Rattle.dv_window.proofs.offices.Office.refresh.Goals as goal

pub returns-in_err-catalog-clause-damaged : goal.returns-in_err-catalog-clause-damaged
returns-in_err-catalog-clause-damaged g c damage is = λ store at.
    mapping_for c.args.self.now.vault.mapping (hashes_of g.H.KeyDigest.function) g.H.KeyDigest.function.width store damage (c.same_mapping.ensures.damaged damage (search rules) store at)

pub returns-in_err-catalog-clause-undamaged : goal.returns-in_err-catalog-clause-undamaged
returns-in_err-catalog-clause-undamaged g c damage is state is_in =
    let stale : c.args.self.now.stale ≡ true = ap (λ (held : Held). held.stale) (sym c.self.view_is) ∙ c.if-not-self.false in
    let (store, at) = is_in.told stale in
    not_damaged c.args.self.now.vault.mapping (hashes_of g.H.KeyDigest.function) state store (is_in.store_stands store at) damage
    (c.same_mapping.ensures.damaged damage (search rules) store at)

pub returns-in_err-restored-clause-damaged : goal.returns-in_err-restored-clause-damaged
returns-in_err-restored-clause-damaged g c damage is = λ store at.
    let hashes = hashes_of g.H.KeyDigest.function in
    let broken = c.read_store.ensures.damaged damage (search rules) store (c.same_mapping.ensures.store ∙ at) in
    rule_for c.args.self.now.vault.mapping hashes g.H.KeyDigest.function.width store damage (subst (λ (m : Mapping). IsReadAs m store) c.in_ok-catalog.ensures.same (c.in_ok-catalog.ensures.read store at))
    (subst (λ (m : Mapping). BreaksRule hashes g.H.KeyDigest.function.width m store damage) c.in_ok-catalog.ensures.same broken)

pub returns-in_err-restored-clause-undamaged : goal.returns-in_err-restored-clause-undamaged
returns-in_err-restored-clause-undamaged g c damage is state is_in =
    let hashes = hashes_of g.H.KeyDigest.function in
    let stale : c.args.self.now.stale ≡ true = ap (λ (held : Held). held.stale) (sym c.self.view_is) ∙ c.if-not-self.false in
    let (store, at) = is_in.told stale in
    c.read_store.ensures.undamaged damage (search rules) state store (c.same_mapping.ensures.store ∙ at)
    (subst (λ (mapping : Mapping). Stands mapping hashes state store) (sym c.in_ok-catalog.ensures.same) (is_in.store_stands store at))

pub returns-clause-agrees : goal.returns-clause-agrees
returns-clause-agrees g c = λ fresh store at.
    let before : g.K.Keeper.store c.args.keeper.now ≡ Some store = sym c.same_mapping.ensures.store ∙ sym c.read_store.ensures.store ∙ at in
    let read : IsMappedBy c.in_ok-catalog.catalog store.mapping = c.in_ok-catalog.ensures.read store before in
    subst (λ (held : Held). Agrees held store) (sym (c.change_to.ensures ∙ c.of_restored.ensures)) (record {
      mapped = subst (λ (mapping : Mapping). IsMappedBy mapping store.mapping) (sym c.in_ok-restored.ensures.mapping) read;
      kept = c.in_ok-restored.ensures.kept store (c.same_mapping.ensures.store ∙ before);
    })

pub returns-clause-stands : goal.returns-clause-stands
returns-clause-stands g c state is_in =
    let hashes = hashes_of g.H.KeyDigest.function in
    let stale : c.args.self.now.stale ≡ true = ap (λ (held : Held). held.stale) (sym c.self.view_is) ∙ c.if-not-self.false in
    let (store, at) = is_in.told stale in
    let here = subst (λ (mapping : Mapping). Stands mapping hashes state store) (sym c.in_ok-catalog.ensures.same) (is_in.store_stands store at) in
    let of_state = c.in_ok-restored.ensures.stands state store (c.same_mapping.ensures.store ∙ at) here in
    let kept : g.K.Keeper.store c.read_store.new.keeper ≡ g.K.Keeper.store c.args.keeper.now = c.read_store.ensures.store ∙ c.same_mapping.ensures.store in
    let same : c.in_ok-restored.restored.vault.mapping ≡ c.args.self.now.vault.mapping = c.in_ok-restored.ensures.mapping ∙ c.in_ok-catalog.ensures.same in
    subst (λ (held : Held). IsIn hashes state held (g.K.Keeper.store c.read_store.new.keeper)) (sym (c.change_to.ensures ∙ c.of_restored.ensures)) (record {
      stands = λ fresh. stands_as hashes state _ of_state;
      told = λ no. cc;
      store_stands = λ other e. subst (λ (mapping : Mapping). Stands mapping hashes state other) (sym same) (is_in.store_stands other (sym kept ∙ e));
    })

pub returns-clause-in_form : goal.returns-clause-in_form
returns-clause-in_form g c was = λ store at.
    let hashes = hashes_of g.H.KeyDigest.function in
    subst (λ (held : Held). IsInForm hashes g.H.KeyDigest.function.width held.vault.mapping store) (sym (c.change_to.ensures ∙ c.of_restored.ensures))
    (subst (λ (mapping : Mapping). IsInForm hashes g.H.KeyDigest.function.width mapping store) (sym c.in_ok-restored.ensures.mapping) (c.in_ok-restored.ensures.in_form store (c.same_mapping.ensures.store ∙ at)))
