use Rattle.dv_store_rules.proofs.Vocabulary.{err_from_is_err_and, hashes_of, is_under}
use Rattle.dv_store_rules.proofs.{FeedForms.looks_up, FirstFlaws.first_told, FirstFlaws.none_flawed, SatForms.sat_ascends, SatForms.sat_same}
use Rattle.dv_store_rules.proofs.sats.checked_sat.Goals as goal

pub returns-in_err-made-clause-flawed : goal.returns-in_err-made-clause-flawed
returns-in_err-made-clause-flawed g c read is =
    let frame = c.in_ok-of.field-0 in
    let told = c.in_ok-of.ensures in
    let p = err_from_is_err_and c.from_residual-in_err-made.result c.from_residual-in_err-made.ensures.1 in
    rw (p.1, p.2)
    (first_told _ _ (sat_same (hashes_of g.H.KeyDigest.function) g.H.KeyDigest.function.width c.args.known.now read is c.args.feed c.attr_count.result c.attr_count.ensures.value frame.frame.loads frame.frame.sources (is_under frame.known.hubs.now frame.known.links.now frame.parent)
    (looks_up _ _ _ read is c.args.feed frame.frame.loads frame.frame.sources (is_under frame.known.hubs.now frame.known.links.now frame.parent) told.loads told.sources
    (λ digest i. is_under (told.known i).hubs.now (told.known i).links.now (told.parent i) digest))) c.args.rows c.in_err-made.field-0.0 c.in_err-made.ensures.flawed)

pub from_indexed-requires : goal.from_indexed-requires
from_indexed-requires g c =
    let frame = c.in_ok-of.field-0 in
    rw c.in_ok-made.ensures.rows
    (sat_ascends (hashes_of g.H.KeyDigest.function) g.H.KeyDigest.function.width c.args.known.now.weight c.attr_count.result frame.frame.loads frame.frame.sources (is_under frame.known.hubs.now frame.known.links.now frame.parent) c.args.rows
    c.in_ok-made.ensures.clear)

pub returns-clause-clear : goal.returns-clause-clear
returns-clause-clear g c read is =
    let frame = c.in_ok-of.field-0 in
    let told = c.in_ok-of.ensures in
    none_flawed _ _ (sat_same (hashes_of g.H.KeyDigest.function) g.H.KeyDigest.function.width c.args.known.now read is c.args.feed c.attr_count.result c.attr_count.ensures.value frame.frame.loads frame.frame.sources (is_under frame.known.hubs.now frame.known.links.now frame.parent)
    (looks_up _ _ _ read is c.args.feed frame.frame.loads frame.frame.sources (is_under frame.known.hubs.now frame.known.links.now frame.parent) told.loads told.sources
    (λ digest i. is_under (told.known i).hubs.now (told.known i).links.now (told.parent i) digest))) c.args.rows c.in_ok-made.ensures.clear
