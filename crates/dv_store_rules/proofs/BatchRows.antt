-- A row of a table that is made of batches: the batch that it is of, and the rows before it, which are those of the batches
-- before and the ones before it in its own.
use Rattle.dv_store_rules.proofs.Vocabulary.{AllBefore, Contains, Contains-append_cases, Contains-append_left, Contains-append_right, Contains-cons_here, Contains-cons_there, Contains-nil, IsNewestFirst, IsStrictlySortedBy, Less, List, None, Option, Ordering, Some, [], ap, appended, dated}
use Rattle.dv_store_rules.proofs.Vocabulary.{equal_first, follows, inl, inr, is_behind, is_lt, last_or, less_first, option_map_or, refl, subst, sym, true, ℕ, ◌++◌, ◌<◌, ◌∙◌, ◌∷◌, ◌≡◌}
use Rattle.dv_store_rules.proofs.Splits.{item_in, last_in, less_before, no_split, split_append}

-- the row is of the batch of one of the events, of which the newest stands first
pub record IsOfBatch {E R : Type 0} (batch : List E → E → List R) (events : List E) (before : List R) (row : R) : Type 0 where
  pub newer : List E
  pub newest : E
  pub older : List E
  pub events_are : events ≡ newer ++ newest ∷ older
  pub between : List R
  pub after : List R
  pub before_are : before ≡ appended batch older ++ between
  pub batch_is : batch older newest ≡ between ++ row ∷ after

module _ {E R : Type 0} (batch : List E → E → List R) where
  -- each row of a table is of one
  pub of_batch : (events : List E) (before : List R) (row : R) (after : List R) → appended batch events ≡ before ++ row ∷ after → IsOfBatch batch events before row
  of_batch [] before row after e = absurd (no_split before row after e)
  of_batch (newest ∷ older) before row after e =
      elim (split_append (appended batch older) (batch older newest) before row after e) [
        | inl found ↦
            let is = of_batch older before row found.0 found.1 in
            record {
              newer = newest ∷ is.newer;
              newest = is.newest;
              older = is.older;
              events_are = ap (λ l. newest ∷ l) is.events_are;
              between = is.between;
              after = is.after;
              before_are = is.before_are;
              batch_is = is.batch_is;
            }
        | inr found ↦ record { newer = []; newest = newest; older = older; events_are = refl; between = found.0; after = after; before_are = found.1; batch_is = found.2 }
      ]

  module _ (events : List E) (before : List R) (row : R) (is : IsOfBatch batch events before row) where
    -- the row is in its batch
    pub in_batch : Contains (batch is.older is.newest) row
    in_batch = subst (λ rows. Contains rows row) (sym is.batch_is) (item_in is.between row is.after)

    -- whose event is one of them
    pub event_in : Contains events is.newest
    event_in = subst (λ all. Contains all is.newest) (sym is.events_are) (item_in is.newer is.newest is.older)

    -- as are those before it
    pub older_in : (event : E) → Contains is.older event → Contains events event
    older_in event has = subst (λ all. Contains all event) (sym is.events_are) (Contains-append_right is.newer (is.newest ∷ is.older) event (Contains-cons_there is.newest is.older event has))

-- ---- rows in the order of their load dates

newest_of : {E : Type 0} (date : E → ℕ) (newer events : List E) → IsNewestFirst date (newer ++ events) → IsNewestFirst date events
newest_of date [] events order = order
newest_of date (first ∷ newer) events order = newest_of date newer events order.1

-- the event of a row's batch is later than those before it
pub later_event : {E R : Type 0} (batch : List E → E → List R) (date : E → ℕ) (events : List E) (before : List R) (row : R) (is : IsOfBatch batch events before row) → IsNewestFirst date events → IsNewestFirst date (is.newest ∷ is.older)
later_event batch date events before row is order = newest_of date is.newer (is.newest ∷ is.older) (subst (IsNewestFirst date) is.events_are order)

module _ {E R : Type 0} (date : E → ℕ) (load : R → ℕ) (cmp : R → R → Ordering) (batch : List E → E → List R) (stamped : (older : List E) (newest : E) (row : R) → Contains (batch older newest) row → load row ≡ date newest) where
  -- the rows of events that are before a date are before it
  pub earlier_rows : (limit : ℕ) (events : List E) → AllBefore date limit events → (row : R) → Contains (appended batch events) row → load row < limit
  earlier_rows limit [] early row has = Contains-nil row has
  earlier_rows limit (newest ∷ older) early row has =
      elim (Contains-append_cases (appended batch older) (batch older newest) row has) [
        | inl before ↦ earlier_rows limit older (λ event member. early event (Contains-cons_there newest older event member)) row before
        | inr now ↦ subst (λ n. n < limit) (sym (stamped older newest row now)) (early newest (Contains-cons_here newest older))
      ]

  module _ (ordered : (older : List E) (newest : E) → IsStrictlySortedBy cmp (batch older newest)) (events : List E) (order : IsNewestFirst date events) (before : List R) (row : R) (is : IsOfBatch batch events before row) where
    -- each row before it is of an earlier load date, or of the same and less
    before_it : (other : R) → Contains before other → dated load cmp other row ≡ Less
    before_it other has =
        elim (Contains-append_cases (appended batch is.older) is.between other (subst (λ rows. Contains rows other) is.before_are has)) [
          | inl earlier ↦
              let less = earlier_rows (date is.newest) is.older (later_event batch date events before row is order).0 other earlier in
              less_first (load other) (load row) (cmp other row) (subst (λ n. load other < n) (sym (stamped is.older is.newest row (in_batch batch events before row is))) less)
          | inr between ↦
              let in_it = subst (λ rows. Contains rows other) (sym is.batch_is) (Contains-append_left is.between (row ∷ is.after) other between) in
              let same : load other ≡ load row = stamped is.older is.newest other in_it ∙ sym (stamped is.older is.newest row (in_batch batch events before row is)) in
              equal_first (load other) (load row) (cmp other row) same ∙ less_before cmp is.between row is.after (subst (IsStrictlySortedBy cmp) is.batch_is (ordered is.older is.newest)) other between
        ]

    -- so the row follows the last of them
    pub follows_them : follows load cmp before row ≡ true
    follows_them = by (last_or None before) refl
      where
        by : (o : Option R) → last_or None before ≡ o → option_map_or (λ last. is_behind load cmp last row) o true ≡ true
        by None e = refl
        by (Some last) e = ap is_lt (before_it last (last_in before last e))
