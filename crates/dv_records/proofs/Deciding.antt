-- A reference list is delivered exactly where it is among the lists of the rows.
use Rattle.dv_records.proofs.Vocabulary.{Contains, Key, List, NRow, all_refs, any_refs, delivers, true, ◌≡◌}

-- a delivered list is among the lists of the rows
pub Contains-all_refs : (rows : List NRow) (refs : List Key) → delivers rows refs ≡ true → Contains (all_refs rows) refs
Contains-all_refs rows refs = (any_refs (λ (row : NRow). row.refs) rows refs).0

-- and a list that is among them is delivered
pub delivers-from_Contains : (rows : List NRow) (refs : List Key) → Contains (all_refs rows) refs → delivers rows refs ≡ true
delivers-from_Contains rows refs = (any_refs (λ (row : NRow). row.refs) rows refs).1
