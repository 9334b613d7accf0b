use Rattle.dv_window.proofs.Vocabulary.{inl, inr, rules}
use Rattle.dv_window.proofs.StartFacts.{none_stored, read_as}
use Rattle.dv_window.proofs.offices.Office.same_mapping.Goals as goal

pub returns-in_default-clause-damaged : goal.returns-in_default-clause-damaged
returns-in_default-clause-damaged g c damage is = λ store at.
    inl (inl (none_stored c.in_ok-catalog.field-0 store (c.in_ok-catalog.ensures.read store at) c.in_default.not-Some), search rules)

pub returns-then-not-same-clause-damaged : goal.returns-then-not-same-clause-damaged
returns-then-not-same-clause-damaged g c damage is = λ store at.
    inl (inr (c.in-Some.catalog, read_as c.in_ok-catalog.field-0 store (c.in_ok-catalog.ensures.read store at) c.in-Some.catalog c.in-Some.is, λ same. search rules), search rules)

pub returns-clause-read : goal.returns-clause-read
returns-clause-read g c = λ store at. read_as c.in_ok-catalog.field-0 store (c.in_ok-catalog.ensures.read store at) c.in-Some.catalog c.in-Some.is
