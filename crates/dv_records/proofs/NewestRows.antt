-- The rows of a content are those of one extract.
use Rattle.dv_records.proofs.Vocabulary.{Contains, Contains-cons_here, Extract, IsStrictlySortedBy, List, NRow, Window, [], arith, common_steps, content, filtered_members, history, nat_le, nat_tests, newest_rows, reverse, row_cmp, up_to, ℕ, ◌∷◌}
use Rattle.dv_records.proofs.Reversing.{history_member}

newest_extract : (all : List Extract) (row : NRow) → Contains (newest_rows all) row → (extract : Extract) × Contains all extract × Contains extract.rows row
newest_extract all row h1 = grind (arith, common_steps, nat_tests)

newest_ascends : (all : List Extract) → ((extract : Extract) → Contains all extract → IsStrictlySortedBy row_cmp extract.rows) → IsStrictlySortedBy row_cmp (newest_rows all)
unfolding IsStrictlySortedBy
newest_ascends [] up = tt
newest_ascends (newest ∷ older) up = up newest (Contains-cons_here newest older)

module _ (feed : ℕ) (sealed : List Window) (date : ℕ) where
  pub reached : (extract : Extract) → Contains (up_to date (history feed (reverse sealed))) extract → Contains (history feed (reverse sealed)) extract
  reached extract has = ((filtered_members (λ (extract : Extract). nat_le extract.load date) (history feed (reverse sealed)) extract).0 has).0

  pub content_extract : (row : NRow) → Contains (content feed sealed date) row → (extract : Extract) × Contains (history feed (reverse sealed)) extract × Contains extract.rows row
  content_extract row has = let (extract, member, within) = newest_extract (up_to date (history feed (reverse sealed))) row has in (extract, reached extract member, within)

  -- it ascends, as each extract does
  pub content_ascends : ((extract : Extract) → Contains (history feed sealed) extract → IsStrictlySortedBy row_cmp extract.rows) → IsStrictlySortedBy row_cmp (content feed sealed date)
  content_ascends up = newest_ascends (up_to date (history feed (reverse sealed))) (λ extract has. up extract ((history_member feed sealed extract).0 (reached extract has)))
