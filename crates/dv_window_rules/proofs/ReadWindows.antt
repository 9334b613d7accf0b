-- The window that extracts read as, where they break no rule, is a window of the mapping.
use Rattle.dv_window_rules.proofs.Vocabulary.{Bool, Broken, Contains, Contains-cons_here, Contains-cons_there, Contains-range, ExtractIn, FeedDef, List, Mapping, NRow, NoExtracts, None, Option, PlacedExtract, Read, Some, Staged, Taken, UnknownFeed, WindowIn, [], all_pass_weaker, ap, arith}
use Rattle.dv_window_rules.proofs.Vocabulary.{ascends, broken_rule, bytes_eq, bytes_eq-Decides, common_steps, cons_option, extract_at, extract_records, filter_map, filter_map_member, find, finds, first_of, found_at, given_for, if◌then◌else◌, is_feed, is_placed, is_some, is_staged, is_valid}
use Rattle.dv_window_rules.proofs.Vocabulary.{is_window, le-leb, length, length-map, list_all, map, member_of_filter_map, min, most_records, most_window_records, nat_le, nat_lt, nat_tests, no_extracts, none_before_map, not, option_and_then, option_map, passes_where_none_fails, placed_extracts}
use Rattle.dv_window_rules.proofs.Vocabulary.{placed_within, position, range_with_len, read_by, reads, reads_after, records_read, refl, room_after, rules, slice_get, staged_from, subst, suc, sum_by, sym, taken_count, true, unknown_feed, valid_feed, window_holds, window_of, window_rule, zero, ℕ}
use Rattle.dv_window_rules.proofs.Vocabulary.{◌+◌, ◌-◌, ◌<◌, ◌==◌, ◌∙◌, ◌∷◌, ◌≡◌, ◌≤◌}
use Rattle.dv_window_rules.proofs.{FeedSteps.placed_at, ReadRows.AreTaken, ReadRows.rows_taken}

-- ---- extracts one after another

-- the feed of an extract is in the mapping
abbrev IsPlaced : Mapping → PlacedExtract → Type 0
IsPlaced mapping placed = (feed : FeedDef) × (slice_get mapping.feeds placed.feed ≡ Some feed)

abbrev rows_after : Mapping → ℕ → List PlacedExtract → List Staged
rows_after mapping taken placed = filter_map (λ extract. staged_from extract.feed extract.read) (reads_after mapping taken placed)

abbrev row_count : List Staged → ℕ
row_count extracts = sum_by (λ staged. length staged.rows) extracts

record AreRead (mapping : Mapping) (taken : ℕ) (placed : List PlacedExtract) (extracts : List Staged) : Type 0 where
  staged : list_all (is_staged mapping) extracts ≡ true
  few : taken ≤ most_window_records → taken + row_count extracts ≤ most_window_records
  feeds : map (λ staged. staged.feed) extracts ≡ map (λ extract. extract.feed) placed

-- one extract more in front
read_more : (mapping : Mapping) (taken : ℕ) (first : PlacedExtract) (placed : List PlacedExtract) (feed : FeedDef) (rows : List NRow) (count : ℕ) (later : List Staged)
    → slice_get mapping.feeds first.feed ≡ Some feed → AreTaken mapping feed (room_after taken) rows count → AreRead mapping (taken + count) placed later
    → AreRead mapping taken (first ∷ placed) (record { feed = first.feed; rows = rows } ∷ later)
read_more mapping taken first placed feed rows count later got are rest = grind (arith, common_steps, nat_tests)

module _ (mapping : Mapping) (valid : is_valid mapping ≡ true) where
  are_read : (taken : ℕ) (placed : List PlacedExtract) → ((p : PlacedExtract) → Contains placed p → IsPlaced mapping p)
      → first_of (map (λ extract. broken_rule extract.read) (reads_after mapping taken placed)) ≡ None → AreRead mapping taken placed (rows_after mapping taken placed)
  are_read taken [] each none = record { staged = refl; few = λ low. omega (arith, low); feeds = refl }
  are_read taken (first ∷ placed) each none =
      let (feed, got) = each first (Contains-cons_here first placed) in
      by feed got (reads mapping first.feed first.bytes (room_after taken)) refl (λ next. are_read next placed (λ p has. each p (Contains-cons_there first placed p has))) none
    where
      small : (n : ℕ) → min most_records n ≤ most_records
      small n = omega arith

      by : (feed : FeedDef) → slice_get mapping.feeds first.feed ≡ Some feed → (read : Read) → reads mapping first.feed first.bytes (room_after taken) ≡ read
          → ((next : ℕ) → first_of (map (λ extract. broken_rule extract.read) (reads_after mapping next placed)) ≡ None → AreRead mapping next placed (rows_after mapping next placed))
          → first_of (broken_rule read ∷ map (λ extract. broken_rule extract.read) (reads_after mapping (taken + taken_count read) placed)) ≡ None
          → AreRead mapping taken (first ∷ placed) (rows_after mapping taken (first ∷ placed))
      by feed got (Broken rule) is later none = let no : Some rule ≡ None = none in cc
      by feed got (Taken rows count) is later none =
          let read : records_read feed (room_after taken) (extract_records first.bytes) ≡ Taken rows count = ap (λ found. read_by found first.bytes (room_after taken)) (sym got) ∙ is in
          let are = rows_taken mapping feed (valid_feed mapping valid first.feed feed got) (room_after taken) (small (most_window_records - taken)) (extract_records first.bytes) rows count read in
          let rest = later (taken + count) none in
          let made : rows_after mapping taken (first ∷ placed) ≡ record { feed = first.feed; rows = rows } ∷ rows_after mapping (taken + count) placed =
          ap (λ (read : Read). cons_option (staged_from first.feed read) (rows_after mapping (taken + taken_count read) placed)) is in
          subst (AreRead mapping taken (first ∷ placed)) (sym made) (read_more mapping taken first placed feed rows count (rows_after mapping (taken + count) placed) got are rest)

-- ---- extracts in declared order

module _ (mapping : Mapping) (extracts : List ExtractIn) where
  placed_feed : (feed : ℕ) (placed : PlacedExtract) → extract_at mapping extracts feed ≡ Some placed → IsPlaced mapping placed
  placed_feed feed placed e =
      let (def, got) = by (slice_get mapping.feeds feed) e in
      (def, ap (slice_get mapping.feeds) (placed_at mapping extracts feed placed e) ∙ got)
    where
      by : (found : Option FeedDef) → option_map (λ extract. record { feed = feed; bytes = extract.bytes }) (option_and_then (given_for extracts) found) ≡ Some placed → (def : FeedDef) × (found ≡ Some def)
      by None e = let no : None ≡ Some placed = e in cc
      by (Some def) e = (def, refl)

  pub all_placed : (p : PlacedExtract) → Contains (placed_extracts mapping extracts) p → IsPlaced mapping p
  all_placed p has =
      let (feed, within, e) = filter_map_member (extract_at mapping extracts) (range_with_len 0 (length mapping.feeds)) p has in
      placed_feed feed p e

  -- the feeds of extracts from a place on
  abbrev feeds_from : ℕ → ℕ → List ℕ
  feeds_from feed count = map (λ extract. extract.feed) (filter_map (extract_at mapping extracts) (range_with_len feed count))

  weaker : (low : ℕ) (feeds : List ℕ) → list_all (nat_le (low + 1)) feeds ≡ true → list_all (nat_le low) feeds ≡ true
  weaker low = all_pass_weaker (nat_le (low + 1)) (nat_le low) (λ feed e. grind (arith, nat_tests, e))

  above : (low : ℕ) (feeds : List ℕ) → list_all (nat_le (low + 1)) feeds ≡ true → list_all (nat_lt low) feeds ≡ true
  above low = all_pass_weaker (nat_le (low + 1)) (nat_lt low) (λ feed e. grind (arith, nat_tests, e))

  feeds_ascend : (feed count : ℕ) → (ascends (feeds_from feed count) ≡ true) × (list_all (nat_le feed) (feeds_from feed count) ≡ true)
  feeds_ascend feed zero = (refl, refl)
  feeds_ascend feed (suc count) = search (rules, placed_at, weaker, above, le-leb, feeds_ascend (feed + 1) count)

  -- an extract that is given for a feed of the mapping is among them
  pub some_placed : (extract : ExtractIn) → Contains extracts extract → is_feed mapping extract.feed ≡ true → 0 < length (placed_extracts mapping extracts)
  some_placed extract has known = by (position test mapping.feeds) refl (is_placed test mapping.feeds ∙ known)
    where
      test : FeedDef → Bool
      test feed = bytes_eq feed.name extract.feed

      by : (place : Option ℕ) → position test mapping.feeds ≡ place → is_some place ≡ true → 0 < length (placed_extracts mapping extracts)
      by None e some = cc
      by (Some n) e some =
          let at = found_at test mapping.feeds n e in
          let same : at.item.name ≡ extract.feed = (bytes_eq-Decides at.item.name extract.feed).0 at.passes in
          let (given, found) = finds (λ (extract : ExtractIn). bytes_eq extract.feed at.item.name) extracts extract has ((bytes_eq-Decides extract.feed at.item.name).1 (sym same)) in
          let here : extract_at mapping extracts n ≡ Some (record { feed = n; bytes = given.bytes }) =
          ap (λ feed. option_map (λ (extract : ExtractIn). record { feed = n; bytes = extract.bytes }) (option_and_then (given_for extracts) feed)) at.there
          ∙ ap (option_map (λ (extract : ExtractIn). record { feed = n; bytes = extract.bytes })) found in
          let inside = Contains-range (length mapping.feeds) n (placed_within test mapping.feeds n e) in
          let (j, below, is) = member_of_filter_map (extract_at mapping extracts) (range_with_len 0 (length mapping.feeds)) n (record { feed = n; bytes = given.bytes }) inside here in
          omega (arith, below)

-- ---- the window

some_given : (mapping : Mapping) (extracts : List ExtractIn) → (if length extracts == 0 then Some NoExtracts else None) ≡ None → find (λ extract. not (is_feed mapping extract.feed)) extracts ≡ None
    → 0 < length (placed_extracts mapping extracts)
some_given mapping [] some known = let no : Some NoExtracts ≡ None = some in cc
some_given mapping (extract ∷ extracts) some known = search (rules, Contains-cons_here, some_placed, passes_where_none_fails)

-- what is given for feeds of the mapping, and breaks no rule of an extract, is a window of the mapping
pub window_of-is_window : (mapping : Mapping) → is_valid mapping ≡ true → (given : WindowIn) → no_extracts given ≡ None → unknown_feed mapping given ≡ None → window_rule mapping given ≡ None
    → is_window mapping (window_of mapping given) ≡ true
window_of-is_window mapping valid given some known none =
    let extracts = given.extracts in
    let are = are_read mapping valid 0 (placed_extracts mapping extracts) (all_placed mapping extracts) none in
    let up = (feeds_ascend mapping extracts 0 (length mapping.feeds)).0 in
    let as_many : length (window_of mapping given).extracts ≡ length (placed_extracts mapping extracts) =
    sym (length-map (window_of mapping given).extracts (λ (staged : Staged). staged.feed)) ∙ ap length are.feeds ∙ length-map (placed_extracts mapping extracts) (λ (extract : PlacedExtract). extract.feed) in
    let one = some_given mapping extracts some (none_before_map (λ (extract : ExtractIn). UnknownFeed extract.feed) (find (λ (extract : ExtractIn). not (is_feed mapping extract.feed)) extracts) known) in
    let few = are.few (omega arith) in
    window_holds mapping (window_of mapping given) (record { some = omega (arith, as_many, one); ascending = ap ascends are.feeds ∙ up; staged = are.staged; few = omega (arith, few) })
