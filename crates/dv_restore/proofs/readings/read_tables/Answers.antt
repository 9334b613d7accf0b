use Rattle.dv_restore.proofs.Vocabulary.{[], ap, damage_in, entries_in, first_along, hashes_of, known_first, sym, tables, ◌∙◌, ◌≡◌}
use Rattle.dv_restore.proofs.ReadSteps.{read_undamaged}
use Rattle.dv_restore.proofs.readings.read_tables.Goals as goal

pub returns-clause-undamaged : goal.returns-clause-undamaged
returns-clause-undamaged g c s e heads =
    let hashes = hashes_of g.H.KeyDigest.function in
    let all : c.items.result.now ≡ tables c.args.catalog.now = c.items.ensures ∙ c.in_ok-ids.ensures in
    ap (first_along (damage_in c.args.catalog.now hashes g.H.KeyDigest.function.width s) []) (sym all)
    ∙ read_undamaged (known_first c.args.catalog.now hashes g.H.KeyDigest.function.width c.args.heads.now) (g.K.Keeper.store c.args.keeper.now) c.items.result.now (entries_in c.in_ok-gathered.gathered) c.in_ok-gathered.ensures.gathered.read s e heads
