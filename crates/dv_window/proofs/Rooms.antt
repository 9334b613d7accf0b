-- What is read of an extract with much room is read of it with less room, where that has place for its records.
use Rattle.dv_window.proofs.Vocabulary.{Bool, ExtractIn, FeedDef, List, Mapping, NRow, None, Option, PlacedExtract, Rule, Some, Taken, TooManyRows, [], ap, arith, empty_key, extract_at, extract_records, false, field_long, first_of, header_names, header_rule, if◌then◌else◌, length, map, nat_lt}
use Rattle.dv_window.proofs.Vocabulary.{nat_tests, not_utf8, option_map, option_or, or_none, ragged, read_at, read_by, reads, record_rule, records_read, records_rule, refl, room_after, row_of, rule_or_rows, same_Some, slice_get, taken_count, two_drivers, two_rows, ℕ, ◌++◌, ◌+◌, ◌∙◌, ◌∷◌, ◌≡◌, ◌≤◌}

-- no answer stays, where the first of two tests has none and the second becomes another that has none either
none_still : (a b c : Option Rule) → option_or a b ≡ None → (b ≡ None → c ≡ None) → option_or a c ≡ None
none_still a b c none later =
    let (here, behind) = or_none a b none in
    ap (λ (first : Option Rule). option_or first c) here ∙ later behind

module _ (feed : FeedDef) (names : List (List ℕ)) (room left : ℕ) where
  record_fits : (number : ℕ) (earlier : List NRow) (fields : List (List ℕ)) → number ≤ left → record_rule feed names room number earlier fields ≡ None → record_rule feed names left number earlier fields ≡ None
  record_fits number earlier fields few none =
      let row = row_of feed names fields in
      let fits : nat_lt left number ≡ false = grind (arith, nat_tests, few) in
      none_still (ragged feed names number fields) _ _ none (λ none.
      none_still (not_utf8 feed number fields) _ _ none (λ none.
      none_still (field_long feed number fields) _ _ none (λ none.
      none_still (empty_key feed number row) _ _ none (λ none.
      none_still (two_rows feed number earlier row) _ _ none (λ none.
      ap (λ (full : Bool). option_or (if full then Some (TooManyRows feed.name number) else None) None) fits)))))

  records_fit : (number : ℕ) (earlier : List NRow) (records : List (List (List ℕ))) → number + length records ≤ left + 1
      → records_rule feed names room number earlier records ≡ None → records_rule feed names left number earlier records ≡ None
  records_fit number earlier [] few none = refl
  records_fit number earlier (fields ∷ records) few none =
      let more = earlier ++ row_of feed names fields ∷ [] in
      let (here, behind) = or_none (record_rule feed names room number earlier fields) (records_rule feed names room (number + 1) more records) none in
      ap (λ (first : Option Rule). option_or first (records_rule feed names left (number + 1) more records)) (record_fits number earlier fields (omega (arith, few)) here)
      ∙ records_fit (number + 1) more records (omega (arith, few)) behind

-- the rows that no rule forbids, where another answer is none too
rows_still : (rule other : Option Rule) (all rows : List NRow) (count taken : ℕ) → rule_or_rows rule all count ≡ Taken rows taken → (rule ≡ None → count ≡ taken → other ≡ None)
    → rule_or_rows other all count ≡ Taken rows taken
rows_still None other all rows count taken read none = ap (λ (first : Option Rule). rule_or_rows first all count) (none refl (ap taken_count read)) ∙ read
rows_still (Some rule) other all rows count taken read none = cc

records_read_fit : (feed : FeedDef) (room left : ℕ) (records : List (List (List ℕ))) (rows : List NRow) (taken : ℕ) → taken ≤ left
    → records_read feed room records ≡ Taken rows taken → records_read feed left records ≡ Taken rows taken
records_read_fit feed room left [] rows taken few read = read
records_read_fit feed room left (header ∷ records) rows taken few read =
    let names = header_names header in
    let made = map (row_of feed names) records in
    rows_still
    (first_of (header_rule feed header ∷ records_rule feed names room 1 [] records ∷ two_drivers feed feed.driver made ∷ []))
    (first_of (header_rule feed header ∷ records_rule feed names left 1 [] records ∷ two_drivers feed feed.driver made ∷ []))
    made rows (length records) taken read
    (λ none counted. none_still (header_rule feed header) _ _ none (λ behind.
    let (within, driven) = or_none (records_rule feed names room 1 [] records) (first_of (two_drivers feed feed.driver made ∷ [])) behind in
    ap (λ (first : Option Rule). option_or first (first_of (two_drivers feed feed.driver made ∷ []))) (records_fit feed names room left 1 [] records (omega (arith, few, counted)) within)
    ∙ driven))

reads_fit : (mapping : Mapping) (feed : ℕ) (bytes : List ℕ) (room left : ℕ) (rows : List NRow) (taken : ℕ) → taken ≤ left
    → reads mapping feed bytes room ≡ Taken rows taken → reads mapping feed bytes left ≡ Taken rows taken
reads_fit mapping feed bytes room left rows taken few read = by (slice_get mapping.feeds feed) read
  where
    by : (found : Option FeedDef) → read_by found bytes room ≡ Taken rows taken → read_by found bytes left ≡ Taken rows taken
    by None read = read
    by (Some def) read = records_read_fit def room left (extract_records bytes) rows taken few read

-- the rows that were taken are taken with what room is left, where that has place for their records
pub still_taken : (mapping : Mapping) (extracts : List ExtractIn) (before taken feed : ℕ) (rows : List NRow) (count : ℕ) → count ≤ room_after taken
    → read_at mapping extracts before feed ≡ Some (Taken rows count) → read_at mapping extracts taken feed ≡ Some (Taken rows count)
still_taken mapping extracts before taken feed rows count few read = by (extract_at mapping extracts feed) read
  where
    by : (found : Option PlacedExtract) → option_map (λ (extract : PlacedExtract). reads mapping extract.feed extract.bytes (room_after before)) found ≡ Some (Taken rows count)
        → option_map (λ (extract : PlacedExtract). reads mapping extract.feed extract.bytes (room_after taken)) found ≡ Some (Taken rows count)
    by None read = read
    by (Some placed) read =
        ap Some (reads_fit mapping placed.feed placed.bytes (room_after before) (room_after taken) rows count few (same_Some (reads mapping placed.feed placed.bytes (room_after before)) (Taken rows count) read))
