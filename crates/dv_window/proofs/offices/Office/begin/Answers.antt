use Rattle.dv_window.proofs.Vocabulary.{Held, None, false, refl}
use Rattle.dv_window.proofs.StartFacts.{stands_new}
use Rattle.dv_window.proofs.offices.Office.begin.Goals as goal

pub returns-clause-stands : goal.returns-clause-stands
returns-clause-stands c hashes =
    let held : Held = record { vault = c.in_ok-vault.vault; begun = None; snapshots = c.new.result; stale = false; width = c.args.width } in
    stands_new c.args.catalog held c.in_ok-vault.ensures.mapping c.in_ok-vault.ensures.tables c.in_ok-vault.ensures.heads refl c.new.ensures hashes
