use Rattle.dv_store_rules.proofs.Vocabulary.{err_from_is_err_and, hashes_of}
use Rattle.dv_store_rules.proofs.{FirstFlaws.first_told, FirstFlaws.none_flawed, HubForms.hub_same, HubForms.hub_placed}
use Rattle.dv_store_rules.proofs.hubs.checked_hub.Goals as goal

pub returns-in_err-made-clause-flawed : goal.returns-in_err-made-clause-flawed
returns-in_err-made-clause-flawed g c read is =
    let rules = c.in_ok-rules.rules in
    let told = c.in_ok-rules.ensures in
    let p = err_from_is_err_and c.from_residual-in_err-made.result c.from_residual-in_err-made.ensures.1 in
    rw (p.1, p.2)
    (first_told _ _ (hub_same (hashes_of g.H.KeyDigest.function) g.H.KeyDigest.function.width c.args.known.now read is c.args.hub rules.parts rules.frame.loads rules.frame.sources told.parts told.loads told.sources) c.args.rows c.in_err-made.field-0.0 c.in_err-made.ensures.flawed)

pub from_indexed-requires : goal.from_indexed-requires
from_indexed-requires g c =
    let rules = c.in_ok-rules.rules in
    rw c.in_ok-made.ensures.rows
    (hub_placed (hashes_of g.H.KeyDigest.function) g.H.KeyDigest.function.width c.args.known.now.weight rules.parts rules.frame.loads rules.frame.sources c.args.rows c.in_ok-made.ensures.clear)

pub returns-clause-clear : goal.returns-clause-clear
returns-clause-clear g c read is =
    let rules = c.in_ok-rules.rules in
    let told = c.in_ok-rules.ensures in
    none_flawed _ _ (hub_same (hashes_of g.H.KeyDigest.function) g.H.KeyDigest.function.width c.args.known.now read is c.args.hub rules.parts rules.frame.loads rules.frame.sources told.parts told.loads told.sources) c.args.rows c.in_ok-made.ensures.clear
