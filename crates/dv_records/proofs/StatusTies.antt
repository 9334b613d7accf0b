-- Status batches are the lists that meet their records.
use Rattle.dv_records.proofs.Vocabulary.{Bool, Contains, Contains-append_left, Contains-append_right, Extract, Hashes, IsApart, IsStatusBatch, Key, List, Some, StatusRow, all_refs, code_of, delivers, false, newest_rows, refl, status_batch, status_row, true, ℕ, ◌++◌, ◌↔◌, ◌≡◌}
use Rattle.dv_records.proofs.{BatchTies.given, BatchTies.tied_by_digest, BatchTies.tied_whole, Deciding.Contains-all_refs}

module _ (hashes : Hashes) (source : List ℕ) (older : List Extract) (newest : Extract) where
  -- a list of the extract, or of the one before it, is among the two's lists
  pub was_there : (refs : List Key) → delivers (newest_rows older) refs ≡ true → Contains (all_refs (newest_rows older) ++ all_refs newest.rows) refs
  was_there refs e = Contains-append_left (all_refs (newest_rows older)) (all_refs newest.rows) refs (Contains-all_refs (newest_rows older) refs e)

  pub is_there : (refs : List Key) → delivers newest.rows refs ≡ true → Contains (all_refs (newest_rows older) ++ all_refs newest.rows) refs
  is_there refs e = Contains-append_right (all_refs (newest_rows older)) (all_refs newest.rows) refs (Contains-all_refs newest.rows refs e)

  pub status_parent : (refs : List Key) (row : StatusRow) → status_row hashes source older newest refs ≡ Some row → row.parent ≡ hashes.hash refs
  status_parent refs row = given _ (λ (row : StatusRow). row.parent) (hashes.hash refs) (λ code. refl) (code_of older newest refs) row

  pub status_stands : (refs : List Key) (row : StatusRow) → status_row hashes source older newest refs ≡ Some row → Contains (all_refs (newest_rows older) ++ all_refs newest.rows) refs
  status_stands refs row is = by (delivers (newest_rows older) refs) (delivers newest.rows refs) refl refl
    where
      by : (was now : Bool) → delivers (newest_rows older) refs ≡ was → delivers newest.rows refs ≡ now → Contains (all_refs (newest_rows older) ++ all_refs newest.rows) refs
      by true now w n = was_there refs w
      by false true w n = is_there refs n
      by false false w n = let no = rw (w, n) at is in cc

  pub status_tied : IsApart hashes (all_refs (newest_rows older) ++ all_refs newest.rows) → (rows : List StatusRow) → (rows ≡ status_batch hashes source older newest) ↔ IsStatusBatch hashes source older newest rows
  status_tied apart rows =
      tied_whole status_stands rows
      (tied_by_digest (λ (row : StatusRow). row.parent) hashes.hash (status_row hashes source older newest) (all_refs (newest_rows older) ++ all_refs newest.rows) status_parent apart rows)
