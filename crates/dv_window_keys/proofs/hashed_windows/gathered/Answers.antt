use Rattle.dv_window_keys.proofs.Vocabulary.{Staged, all_pass, list_all, refs_fit}
use Rattle.dv_window_keys.proofs.WindowFacts.{staged_refs_fit}
use Rattle.dv_window_keys.proofs.hashed_windows.gathered.Goals as goal

pub hash_all-requires-after_bounds : goal.hash_all-requires-after_bounds
hash_all-requires-after_bounds g c κs within =
    rw c.items.ensures
    (all_pass (λ (staged : Staged). list_all (λ row. refs_fit row.refs) staged.rows) c.args.window.now.extracts
    (λ staged has. staged_refs_fit c.args.catalog.now c.requires.valid c.args.window.now c.requires.window staged has))
