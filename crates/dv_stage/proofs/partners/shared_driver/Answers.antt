use Rattle.dv_stage.proofs.Vocabulary.{Some, ap, sym, ◌∙◌}
use Rattle.dv_stage.proofs.PartnerFacts.{shared-none, shared-some}
use Rattle.dv_stage.proofs.partners.shared_driver.Goals as goal

pub returns-in-Some : goal.returns-in-Some
returns-in-Some c =
    let members = rw c.in_ok-all_partners.ensures at c.in_ok-partners.ensures.members in
    let first = rw c.items.ensures at (sym c.in-Some.ensures) in
    ap Some c.in_ok-copy-in-Some.ensures
    ∙ sym (shared-some c.args.feed.now c.args.rows.now c.in_ok-partners.partners c.in_ok-partners.ensures.ascending members c.in-Some.driver.now first)

pub returns : goal.returns
returns c =
    let members = rw c.in_ok-all_partners.ensures at c.in_ok-partners.ensures.members in
    let none = rw c.items.ensures at (sym c.in-None.ensures) in
    sym (shared-none c.args.feed.now c.args.rows.now c.in_ok-partners.partners c.in_ok-partners.ensures.ascending members none)
