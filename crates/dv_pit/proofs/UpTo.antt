-- The rows of batches up to a date are those of the windows up to it.
use Rattle.dv_pit.proofs.Vocabulary.{Bool, Contains, IsNewestFirst, List, [], append-nil, appended, arith, false, filter, filter-all, filter-append, filter-none, le-leb, leb-true, nat_le, refl, true, ℕ, ◌++◌, ◌∙◌, ◌∷◌, ◌≡◌, ◌≤◌}

module _ {E R : Type 0} (date_of : E → ℕ) (load_of : R → ℕ) (batch : List E → E → List R) (stamped : (older : List E) (newest : E) (row : R) → Contains (batch older newest) row → load_of row ≡ date_of newest) (date : ℕ) where
  abbrev is_early : E → Bool
  is_early one = nat_le (date_of one) date

  abbrev is_row_early : R → Bool
  is_row_early row = nat_le (load_of row) date

  pub rows_up_to : (all : List E) → IsNewestFirst date_of all → filter is_row_early (appended batch all) ≡ appended batch (filter is_early all)
  rows_up_to [] order = refl
  rows_up_to (newest ∷ older) order = filter-append is_row_early (appended batch older) (batch older newest) ∙ by (is_early newest) refl (rows_up_to older order.1)
    where
      by : (b : Bool) → is_early newest ≡ b → filter is_row_early (appended batch older) ≡ appended batch (filter is_early older)
          → filter is_row_early (appended batch older) ++ filter is_row_early (batch older newest) ≡ appended batch (filter is_early (newest ∷ older))
      by true e rest =
          let reached : date_of newest ≤ date = leb-true (date_of newest) date e in
          let same : filter is_early older ≡ older = filter-all is_early older (λ one has. le-leb (date_of one) date (omega (arith, reached, order.0 one has))) in
          let own : filter is_row_early (batch older newest) ≡ batch older newest = filter-all is_row_early (batch older newest) (λ row has. le-leb (load_of row) date (rw (stamped older newest row has) reached)) in
          rw (e, own, rest, same) refl
      by false e rest =
          let none : filter is_row_early (batch older newest) ≡ [] = filter-none is_row_early (batch older newest) (λ row has. rw (stamped older newest row has) e) in
          rw (e, none, rest) (append-nil (appended batch (filter is_early older)))
