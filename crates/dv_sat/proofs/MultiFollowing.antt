-- The rows that an extract's rows add to a multi-active satellite have the load date.
use Rattle.dv_sat.proofs.Vocabulary.{Contains, Hashes, List, MultiRow, NRow, all_valid_at, ap, are_same, batch_of, batch_stamped, multi_change, multi_cmp, sym, ℕ, ◌≡◌}
use Rattle.dv_sat.proofs.SatFollowing.{if_not}

pub made_stamped : (hashes : Hashes) (source : List ℕ) (rows : List MultiRow) (load : ℕ) (staged things : List NRow) (row : MultiRow) → Contains (batch_of multi_cmp (multi_change hashes source rows load staged) things) row → row.load ≡ load
made_stamped hashes source rows load staged =
    batch_stamped (λ (row : MultiRow). row.load) multi_cmp (multi_change hashes source rows load staged) load
    (λ row made e. sym (ap (λ (r : MultiRow). r.load) (if_not (are_same (all_valid_at rows (hashes.hash row.refs) load) staged row) _ made e)))
