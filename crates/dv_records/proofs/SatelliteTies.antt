-- Satellite batches are the lists that meet their records.
use Rattle.dv_records.proofs.Vocabulary.{Contains, Contains-map, Equal, Extract, Hashes, IsApart, IsMultiBatch, IsOnePerList, IsOnePerSub, IsSatBatch, List, MultiRow, NRow, SatRow, Some, all_refs, ap, both_tied, multi_batch, multi_cmp, multi_row, multi_total, nat_cmp-IsAntisymmetric, rules}
use Rattle.dv_records.proofs.Vocabulary.{sat_batch, sat_row, slice_cmp-IsAntisymmetric, sym, ℕ, ◌↔◌, ◌∙◌, ◌≡◌}
use Rattle.dv_records.proofs.BatchTies.{tied, tied_by_digest}

module _ (hashes : Hashes) (source : List ℕ) (older : List Extract) (newest : Extract) where
  -- the row has the hash key of the extract row's list
  pub sat_parent : (row : NRow) (made : SatRow) → sat_row hashes source older newest row ≡ Some made → made.parent ≡ hashes.hash row.refs
  sat_parent row made is = search (rules)

  -- and its sub
  pub multi_made : (row : NRow) (made : MultiRow) → multi_row hashes source older newest row ≡ Some made → (made.parent ≡ hashes.hash row.refs) × (made.sub ≡ row.sub)
  multi_made row made is = search (rules)

  -- rows whose lists have one hash key have one list
  one_list : IsApart hashes (all_refs newest.rows) → (a b : NRow) → Contains newest.rows a → Contains newest.rows b → hashes.hash a.refs ≡ hashes.hash b.refs → a.refs ≡ b.refs
  one_list apart a b a_in b_in =
      apart a.refs b.refs (Contains-map (λ (row : NRow). row.refs) newest.rows a a_in) (Contains-map (λ (row : NRow). row.refs) newest.rows b b_in)

  pub sat_tied : IsOnePerList newest.rows → IsApart hashes (all_refs newest.rows) → (rows : List SatRow) → (rows ≡ sat_batch hashes source older newest) ↔ IsSatBatch hashes source older newest rows
  sat_tied single apart rows =
      tied_by_digest (λ (row : SatRow). row.parent) (λ (row : NRow). hashes.hash row.refs) (sat_row hashes source older newest) newest.rows sat_parent
      (λ a b a_in b_in e. single a b a_in b_in (one_list apart a b a_in b_in e)) rows

  module _ (single : IsOnePerSub newest.rows) (apart : IsApart hashes (all_refs newest.rows)) where
    one_row : (s t : NRow) (a b : MultiRow) → Contains newest.rows s → Contains newest.rows t → multi_row hashes source older newest s ≡ Some a → multi_row hashes source older newest t ≡ Some b → multi_cmp a b ≡ Equal → a ≡ b
    one_row s t a b s_in t_in a_is b_is e =
        let ties = both_tied _ _ e in
        let parents : a.parent ≡ b.parent = slice_cmp-IsAntisymmetric nat_cmp-IsAntisymmetric a.parent b.parent ties.0 in
        let subs : a.sub ≡ b.sub = slice_cmp-IsAntisymmetric (slice_cmp-IsAntisymmetric nat_cmp-IsAntisymmetric) a.sub b.sub ties.1 in
        let from_s = multi_made s a a_is in
        let from_t = multi_made t b b_is in
        let same : s ≡ t = single s t s_in t_in (one_list apart s t s_in t_in (sym from_s.0 ∙ parents ∙ from_t.0)) (sym from_s.1 ∙ subs ∙ from_t.1) in
        let both : Some a ≡ Some b = sym a_is ∙ ap (multi_row hashes source older newest) same ∙ b_is in
        cc

    pub multi_tied : (rows : List MultiRow) → (rows ≡ multi_batch hashes source older newest) ↔ IsMultiBatch hashes source older newest rows
    multi_tied rows = tied multi_cmp multi_total (multi_row hashes source older newest) newest.rows one_row rows
