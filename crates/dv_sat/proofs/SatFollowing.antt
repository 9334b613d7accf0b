-- The row that an extract's row adds to a satellite has the load date.
use Rattle.dv_sat.proofs.Vocabulary.{Bool, Contains, Hashes, IsTotalOrder, List, NRow, None, SatRow, Some, ap, batch_of, batch_stamped, false, has_attrs, if◌then◌else◌, nat_list_cmp_total, on_total, sat_change, sat_cmp, sym, true, valid_at, ℕ, ◌≡◌}

pub sat_total : IsTotalOrder sat_cmp
sat_total = on_total (λ (row : SatRow). row.parent) nat_list_cmp_total

-- a row that is there where a test fails, or where it passes, is the one that was made
pub if_not : {R : Type 0} (test : Bool) (new row : R) → (if test then None else Some new) ≡ Some row → new ≡ row
if_not true new row e = cc
if_not false new row e = cc

pub if_so : {R : Type 0} (test : Bool) (new row : R) → (if test then Some new else None) ≡ Some row → new ≡ row
if_so true new row e = cc
if_so false new row e = cc

change_stamped : (hashes : Hashes) (source : List ℕ) (rows : List SatRow) (load : ℕ) (row : NRow) (made : SatRow) → sat_change hashes source rows load row ≡ Some made → made.load ≡ load
change_stamped hashes source rows load row made e = sym (ap (λ (r : SatRow). r.load) (if_not (has_attrs (valid_at rows (hashes.hash row.refs) load) row.attrs) _ made e))

-- and so have those of an extract's rows
pub made_stamped : (hashes : Hashes) (source : List ℕ) (rows : List SatRow) (load : ℕ) (things : List NRow) (row : SatRow) → Contains (batch_of sat_cmp (sat_change hashes source rows load) things) row → row.load ≡ load
made_stamped hashes source rows load = batch_stamped (λ (row : SatRow). row.load) sat_cmp (sat_change hashes source rows load) load (change_stamped hashes source rows load)
