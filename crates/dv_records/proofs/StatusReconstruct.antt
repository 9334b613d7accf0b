-- The status rows of a feed say at each date which reference lists its content delivers.
use Rattle.dv_records.proofs.Vocabulary.{Bool, Code, Contains, Contains-append_cases, Contains-append_left, Contains-append_right, Extract, Hashes, IsApart, IsInLoadOrder, IsStatusBatch, Key, List, Mapping, None, Option, Some, Status, StatusRow, Statuses, Window, all_refs, ap, appended, arith}
use Rattle.dv_records.proofs.Vocabulary.{backwards, bytes_eq, code_between, code_of, common_steps, content, delivered_refs, delivers, find, history, inl, inr, is_appearance, lists_of, made_of, nat_le, nat_tests, newest_rows, present_at, refl, reverse, rules, says_present, source_of, status_batch}
use Rattle.dv_records.proofs.Vocabulary.{status_rows, sym, table_after, up_to, ℕ, ◌&&◌, ◌++◌, ◌∙◌, ◌∷◌, ◌≡◌}
use Rattle.dv_records.proofs.{FeedSteps.feed_rows, LastChange.AreApart, LastChange.Changes, LastChange.IsOwn, LastChange.IsStep, LastChange.Tells, LastChange.apart-older, LastChange.apart-reversed, LastChange.last_change, Reversing.IsNewestFirst, Reversing.history-newest_first}
use Rattle.dv_records.proofs.{StatusTies.status_stands, StatusTies.status_tied}

-- those of the newest extract are among them
pub newest_lists : (all : List Extract) (refs : List Key) → Contains (all_refs (newest_rows all)) refs → Contains (lists_of all) refs
newest_lists all refs h1 = grind (arith, common_steps, nat_tests)

-- and those of the two newest ones
pub both_lists : (newest : Extract) (older : List Extract) (refs : List Key) → Contains (all_refs (newest_rows older) ++ all_refs newest.rows) refs → Contains (lists_of (newest ∷ older)) refs
both_lists newest older refs has = search (rules, Contains-append_cases, Contains-append_right, newest_lists, Contains-append_left, Contains-append_cases (all_refs (newest_rows older)) (all_refs newest.rows) refs has)

-- what a change says of now, and what no change says
code_says : (was now : Bool) (code : Code) → code_between was now ≡ Some code → is_appearance code ≡ now
code_says was now code h1 = search (rules)

none_says : (was now : Bool) → code_between was now ≡ None → was ≡ now
none_says was now h1 = search (rules)

module _ (hashes : Hashes) (source : List ℕ) (refs : List Key) (date : ℕ) where
  module _ (newest : Extract) (older : List Extract) (apart : AreApart hashes refs (newest ∷ older)) where
    is_batch : IsStatusBatch hashes source older newest (status_batch hashes source older newest)
    is_batch =
        (status_tied hashes source older newest (λ a b a_in b_in. apart.0 a b (both_lists newest older a a_in) (both_lists newest older b b_in)) (status_batch hashes source older newest)).0 refl

    -- a row of the batch has the new load date, and its code is that of the list, if it has the list's hash key
    own_row : (row : StatusRow) → Contains (status_batch hashes source older newest) row → row.parent ≡ hashes.hash refs → (row.load ≡ newest.load) × (code_of older newest refs ≡ Some row.code)
    own_row row has parent =
        let (other, gives) = is_batch.only row has in
        let (code, found, made) = made_of _ (code_of older newest other) row gives in
        let hashed : hashes.hash other ≡ hashes.hash refs = ap (λ (r : StatusRow). r.parent) made ∙ parent in
        let same : other ≡ refs = apart.1 other (both_lists newest older other (status_stands hashes source older newest other row gives)) hashed in
        (ap (λ (r : StatusRow). r.load) (sym made), ap (code_of older newest) (sym same) ∙ found ∙ ap (λ (r : StatusRow). Some r.code) made)

    step : IsStep (λ (row : StatusRow). row.parent) (λ (row : StatusRow). row.load) (status_batch hashes source) (λ all. delivers (newest_rows all) refs) (AreApart hashes refs) (hashes.hash refs) date newest older
    step = record { dated = λ row has parent. (own_row row has parent).0; changes = by (code_of older newest refs) refl }
      where
        by : (c : Option Code) → code_of older newest refs ≡ c
            → Changes (λ (row : StatusRow). row.parent) (λ (row : StatusRow). row.load) (status_batch hashes source) (λ all. delivers (newest_rows all) refs) (AreApart hashes refs) (hashes.hash refs) date newest older
        by (Some code) e = let row : StatusRow = record { parent = hashes.hash refs; load = newest.load; source = source; code = code } in inl (row, is_batch.each refs row (rw e), refl)
        by None e = inr (
          λ row has parent. let no : None ≡ Some row.code = sym e ∙ (own_row row has parent).1 in cc,
          sym (none_says (delivers (newest_rows older) refs) (delivers newest.rows refs) e),
        )

  -- the rows of all extracts say what the newest one up to the date delivers
  pub tells : (all : List Extract) → IsNewestFirst (λ (extract : Extract). extract.load) all → IsApart hashes (lists_of all) → IsOwn hashes refs all
      → says_present (find (λ row. bytes_eq row.parent (hashes.hash refs) && nat_le row.load date) (reverse (appended (status_batch hashes source) all))) ≡ delivers (newest_rows (up_to date all)) refs
  tells all order apart own = by (last_change _ _ _ _ _ _ _ (apart-older hashes refs) step all order (apart, own))
    where
      by : Tells (λ (row : StatusRow). row.parent) (λ (row : StatusRow). row.load) (status_batch hashes source) (λ all. delivers (newest_rows all) refs) (AreApart hashes refs) (hashes.hash refs) date all
          (appended (status_batch hashes source) all)
          → says_present (find (λ row. bytes_eq row.parent (hashes.hash refs) && nat_le row.load date) (reverse (appended (status_batch hashes source) all))) ≡ delivers (newest_rows (up_to date all)) refs
      by (inl none) = ap says_present none.0 ∙ sym none.1
      by (inr is) =
          ap says_present is.found
          ∙ code_says (delivers (newest_rows is.older) refs) (delivers is.newest.rows refs) is.last.code (own_row is.newest is.older is.good is.last is.last_in is.last_of).1
          ∙ sym is.told

-- ---- windows

module _ (mapping : Mapping) (hashes : Hashes) (feed : ℕ) (sealed : List Window) (rows : List StatusRow) (table : table_after mapping hashes (backwards sealed) (Status feed) ≡ Statuses rows)
    (order : IsInLoadOrder sealed) (apart : IsApart hashes (delivered_refs feed sealed)) (refs : List Key) where
  pub status_tells : IsOwn hashes refs (history feed sealed) → (date : ℕ) → present_at rows (hashes.hash refs) date ≡ delivers (content feed sealed date) refs
  status_tells own date =
      let all = apart-reversed hashes feed sealed refs apart own in
      rw (feed_rows feed (status_batch hashes (source_of mapping feed)) (reverse sealed) rows (ap status_rows table))
      (tells hashes (source_of mapping feed) refs date (history feed (reverse sealed)) (history-newest_first feed sealed order) all.0 all.1)

  pub delivered_tells : Contains (delivered_refs feed sealed) refs → (date : ℕ) → present_at rows (hashes.hash refs) date ≡ delivers (content feed sealed date) refs
  delivered_tells has = status_tells (λ other other_has same. apart other refs other_has has same)
