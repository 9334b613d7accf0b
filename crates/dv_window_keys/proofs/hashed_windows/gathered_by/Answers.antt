use Rattle.dv_window_keys.proofs.Vocabulary.{Staged, all_pass, ap, arith, length, list_all, refs_fit}
use Rattle.dv_window_keys.proofs.{TaskFacts.few_extracts, WindowFacts.staged_refs_fit}
use Rattle.dv_window_keys.proofs.hashed_windows.gathered_by.Goals as goal

pub hash_all_by-requires-clause-few : goal.hash_all_by-requires-clause-few
hash_all_by-requires-clause-few g c κs within =
    let few = few_extracts c.args.catalog.now c.requires.valid c.args.window.now c.requires.window in
    let same = ap (λ extracts. length extracts) c.items.ensures in
    omega (arith, few, same)

pub hash_all_by-requires-clause-fit : goal.hash_all_by-requires-clause-fit
hash_all_by-requires-clause-fit g c κs within =
    rw c.items.ensures
    (all_pass (λ (staged : Staged). list_all (λ row. refs_fit row.refs) staged.rows) c.args.window.now.extracts
    (λ staged has. staged_refs_fit c.args.catalog.now c.requires.valid c.args.window.now c.requires.window staged has))
