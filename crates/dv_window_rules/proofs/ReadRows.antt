-- The rows that an extract reads as, where it breaks no rule, have the form of the feed.
use Rattle.dv_window_rules.proofs.Vocabulary.{Bool, Contains, Contains-append_left, Contains-append_right, Contains-cons_cases, Contains-cons_here, Contains-cons_there, Contains-flat_map, Contains-map, Contains-nil, FeedDef, HasForm, HasNoRivals, Key, List, Mapping, NRow, None, Option, Rule, Some}
use Rattle.dv_window_rules.proofs.Vocabulary.{Taken, ValidFeed, [], all_pass, and_parts, ap, apart_more, append-nil, append_assoc, are_rivals, are_rows_of, arith, ascending-sorted_by, bytes_eq, common_steps, driver_keys, eq-eqb, eqb-true, false, fields_under, filter, filter_map, filter_map_member}
use Rattle.dv_window_rules.proofs.Vocabulary.{filtered_members, first_of, fit_hubs, fits_hub, got_from, got_member, header_names, header_rule, holds_of_each_two, inl, inr, is_among, is_field, is_key_part, is_missing, is_one_partner, is_placed, is_some, key_cmp-IsAntisymmetric, key_under, le-leb}
use Rattle.dv_window_rules.proofs.Vocabulary.{length, length-map, length-sorted_by, list_all, list_any, ltb-false, map, map_member, mapped_columns, member_after_sort, member_before_sort, missing_column, most_field_bytes, most_records, nat_lt, nat_tests, nil_from_length, none_before_map}
use Rattle.dv_window_rules.proofs.Vocabulary.{none_behind, none_passes, norm_field, norm_key, not, of_each_two, option_and_then, or_none, or_right, part_ways, parts_of, passes_where_none_fails, place_of, placed_within, position, record_rule, records_read, records_rule, refl, refs_cmp, row_cmp}
use Rattle.dv_window_rules.proofs.Vocabulary.{row_of, row_total, rows_hold, rule_or_rows, rules, shared_drivers, slice_cmp-IsAntisymmetric, slice_get, some_passes_at, sorted_by, subst, suc, sym, texts_eq-Decides, true, two_drivers, zip, ℕ, ◌++◌, ◌+◌, ◌==◌, ◌||◌, ◌∙◌, ◌∷◌, ◌≡◌, ◌≤◌}
use Rattle.dv_window_rules.proofs.NormalForms.{norm_field-itself, norm_field-short, norm_key-itself, norm_key-short}

-- ---- no refusal

-- ---- lists

length-filter_map : {X Y : Type 0} (f : X → Option Y) (xs : List X) → ((x : X) → Contains xs x → (y : Y) × (f x ≡ Some y)) → length (filter_map f xs) ≡ length xs
length-filter_map f [] each = refl
length-filter_map f (x ∷ xs) each =
    let (y, is) = each x (Contains-cons_here x xs) in
    let rest = length-filter_map f xs (λ z has. each z (Contains-cons_there x xs z has)) in
    rw is (ap suc rest)

-- ---- texts

short_key_part : (t : List ℕ) → length t ≤ most_field_bytes → is_key_part (norm_key t) ≡ true
short_key_part t short = search (rules, norm_key-itself, texts_eq-Decides, le-leb, norm_key-short)

short_field : (t : List ℕ) → length t ≤ most_field_bytes → is_field (norm_field t) ≡ true
short_field t short = search (rules, norm_field-itself, texts_eq-Decides, le-leb, norm_field-short)

-- ---- the fields of a record

-- all columns are in the header, and the record has as many fields, none too long
module _ (names fields : List (List ℕ)) (as_many : length fields ≡ length names) (short : list_any (λ field. nat_lt most_field_bytes (length field)) fields ≡ false) where
  abbrev under : List ℕ → Option (List ℕ)
  under column = option_and_then (slice_get fields) (place_of names column)

  found : (column : List ℕ) → is_among names column ≡ true → (field : List ℕ) × (under column ≡ Some field)
  found column among = by (place_of names column) refl (is_placed (λ name. bytes_eq name column) names ∙ among)
    where
      by : (place : Option ℕ) → place_of names column ≡ place → is_some place ≡ true → (field : List ℕ) × (under column ≡ Some field)
      by None e some = cc
      by (Some n) e some =
          let within = placed_within (λ name. bytes_eq name column) names n e in
          let (field, got) = got_from fields n (omega (arith, within, as_many)) in
          (field, ap (option_and_then (slice_get fields)) e ∙ got)

  under_member : (column field : List ℕ) → under column ≡ Some field → Contains fields field
  under_member column field e = search (rules, got_member)

  short_at : (field : List ℕ) → Contains fields field → length field ≤ most_field_bytes
  short_at field has = ltb-false most_field_bytes (length field) (none_passes (λ field. nat_lt most_field_bytes (length field)) fields field short has)

  -- as many as the columns
  length-fields : (columns : List (List ℕ)) → ((column : List ℕ) → Contains columns column → is_among names column ≡ true) → length (fields_under names fields columns) ≡ length columns
  length-fields columns among = length-filter_map under columns (λ column has. found column (among column has))

  short_fields : (columns : List (List ℕ)) (field : List ℕ) → Contains (fields_under names fields columns) field → length field ≤ most_field_bytes
  short_fields columns field has =
      let (column, within, e) = filter_map_member under columns field has in
      short_at field (under_member column field e)

  made_fields : (columns : List (List ℕ)) → list_all is_field (map norm_field (fields_under names fields columns)) ≡ true
  made_fields columns =
      all_pass is_field (map norm_field (fields_under names fields columns))
      (λ text has.
      let (field, within, is) = map_member norm_field (fields_under names fields columns) text has in
      ap is_field (sym is) ∙ short_field field (short_fields columns field within))

  made_parts : (columns : List (List ℕ)) → list_all is_key_part (map norm_key (fields_under names fields columns)) ≡ true
  made_parts columns =
      all_pass is_key_part (map norm_key (fields_under names fields columns))
      (λ text has.
      let (field, within, is) = map_member norm_key (fields_under names fields columns) text has in
      ap is_key_part (sym is) ∙ short_key_part field (short_fields columns field within))

  -- a key fits the hub that has as many parts as there are columns
  made_key : (mapping : Mapping) (hub : ℕ) (columns : List (List ℕ)) → ((column : List ℕ) → Contains columns column → is_among names column ≡ true)
      → length columns ≡ parts_of (slice_get mapping.hubs hub) → fits_hub mapping hub (key_under names fields columns) ≡ true
  made_key mapping hub columns among as_many_parts = search (rules, length-map, length-fields, eq-eqb, made_parts)

  made_refs : (mapping : Mapping) (keys : List (List (List ℕ))) (hubs : List ℕ)
      → ((columns : List (List ℕ)) → Contains keys columns → (column : List ℕ) → Contains columns column → is_among names column ≡ true)
      → length keys ≡ length hubs → list_all (λ (columns, hub). length columns == parts_of (slice_get mapping.hubs hub)) (zip keys hubs) ≡ true
      → fit_hubs mapping hubs (map (key_under names fields) keys) ≡ true
  made_refs mapping [] [] among same parts = refl
  made_refs mapping [] (hub ∷ hubs) among same parts = absurd (omega (arith, same))
  made_refs mapping (columns ∷ keys) [] among same parts = absurd (omega (arith, same))
  made_refs mapping (columns ∷ keys) (hub ∷ hubs) among same parts =
      let (here, behind) = and_parts (length columns == parts_of (slice_get mapping.hubs hub)) (list_all (λ (columns, hub). length columns == parts_of (slice_get mapping.hubs hub)) (zip keys hubs)) parts in
      rw (
        made_key mapping hub columns (among columns (Contains-cons_here columns keys)) (eqb-true _ _ here),
        made_refs mapping keys hubs (λ c has. among c (Contains-cons_there columns keys c has)) (omega (arith, same)) behind,
      )
      refl

-- ---- a row of a record that breaks no rule

-- the columns of a feed that a header has
abbrev HasColumns : FeedDef → List (List ℕ) → Type 0
HasColumns feed names = (column : List ℕ) → Contains (mapped_columns feed) column → is_among names column ≡ true

has_columns : (feed : FeedDef) (header : List (List ℕ)) → header_rule feed header ≡ None → HasColumns feed (header_names header)
has_columns feed header e column has =
    let there : missing_column feed (header_names header) ≡ None = grind (arith, common_steps) in
    passes_where_none_fails (is_among (header_names header)) (mapped_columns feed) column (none_before_map _ _ there) has

-- what the rules of a record say where it breaks none
record BreaksNone (feed : FeedDef) (names : List (List ℕ)) (room number : ℕ) (earlier : List NRow) (fields : List (List ℕ)) : Type 0 where
  as_many : length fields ≡ length names
  short : list_any (λ field. nat_lt most_field_bytes (length field)) fields ≡ false
  keyed : list_all is_missing (row_of feed names fields).refs ≡ false
  driven : list_any is_missing (driver_keys feed (row_of feed names fields)) ≡ false
  apart : position (λ other. are_rivals other (row_of feed names fields)) earlier ≡ None
  within : nat_lt room number ≡ false

breaks_none : (feed : FeedDef) (names : List (List ℕ)) (room number : ℕ) (earlier : List NRow) (fields : List (List ℕ)) → record_rule feed names room number earlier fields ≡ None → BreaksNone feed names room number earlier fields
breaks_none feed names room number earlier fields e = grind (arith, common_steps, nat_tests)

module _ (mapping : Mapping) (feed : FeedDef) (valid : ValidFeed mapping feed) where
  -- the row has the feed's form
  row_formed : (names : List (List ℕ)) (room number : ℕ) (earlier : List NRow) (fields : List (List ℕ)) → HasColumns feed names → BreaksNone feed names room number earlier fields
      → HasForm mapping feed (row_of feed names fields)
  row_formed names room number earlier fields columns none = search (rules, arith, Contains-flat_map, Contains-append_left, Contains-append_right, made_refs, length-map, length-fields, made_fields) depth 8 fits 3000

  -- ---- all records

  rows_formed : (names : List (List ℕ)) (room number : ℕ) (earlier : List NRow) (all : List (List (List ℕ))) → HasColumns feed names → records_rule feed names room number earlier all ≡ None
      → (row : NRow) → Contains (map (row_of feed names) all) row → HasForm mapping feed row
  rows_formed names room number earlier [] columns e row has = Contains-nil row has
  rows_formed names room number earlier (fields ∷ all) columns e row has =
      let parts = or_none (record_rule feed names room number earlier fields) (records_rule feed names room (number + 1) (earlier ++ row_of feed names fields ∷ []) all) e in
      elim (Contains-cons_cases (row_of feed names fields) (map (row_of feed names) all) row has) [
        | inl same ↦ subst (HasForm mapping feed) same (row_formed names room number earlier fields columns (breaks_none feed names room number earlier fields parts.0))
        | inr rest ↦ rows_formed names room (number + 1) (earlier ++ row_of feed names fields ∷ []) all columns parts.1 row rest
      ]

module _ (feed : FeedDef) (names : List (List ℕ)) (room : ℕ) where
  rows_apart : (number : ℕ) (earlier : List NRow) (all : List (List (List ℕ))) → HasNoRivals earlier → records_rule feed names room number earlier all ≡ None → HasNoRivals (earlier ++ map (row_of feed names) all)
  rows_apart number earlier [] apart e = subst HasNoRivals (sym (append-nil earlier)) apart
  rows_apart number earlier (fields ∷ all) apart e =
      let row = row_of feed names fields in
      let parts = or_none (record_rule feed names room number earlier fields) (records_rule feed names room (number + 1) (earlier ++ row ∷ []) all) e in
      let more = apart_more earlier row apart (breaks_none feed names room number earlier fields parts.0).apart in
      subst HasNoRivals (append_assoc earlier (row ∷ []) (map (row_of feed names) all)) (rows_apart (number + 1) (earlier ++ row ∷ []) all more parts.1)

  rows_within : (number : ℕ) (earlier : List NRow) (all : List (List (List ℕ))) → records_rule feed names room number earlier all ≡ None → number ≤ room + 1 → number + length all ≤ room + 1
  rows_within number earlier [] e low = omega (arith, low)
  rows_within number earlier (fields ∷ all) e low =
      let row = row_of feed names fields in
      let parts = or_none (record_rule feed names room number earlier fields) (records_rule feed names room (number + 1) (earlier ++ row ∷ []) all) e in
      let here : number ≤ room = ltb-false room number (breaks_none feed names room number earlier fields parts.0).within in
      omega (arith, rows_within (number + 1) (earlier ++ row ∷ []) all parts.1 (omega (arith, here)))

-- ---- rows two by two

-- no row parts ways with another, where the feed has a driver and its rule isn't broken
pub partners_agree : (feed : FeedDef) (place : ℕ) (places : List ℕ) (rows : List NRow) → two_drivers feed (place ∷ places) rows ≡ None → (a b : NRow) → Contains rows a → Contains rows b → part_ways feed a b ≡ false
partners_agree feed place places rows e a b a_in b_in = by (part_ways feed a b) refl
  where
    none : shared_drivers feed rows ≡ []
    none = nil_from_length (shared_drivers feed rows) (omega (arith, none_behind (shared_drivers feed rows) 0 (none_before_map _ _ e)))

    by : (t : Bool) → part_ways feed a b ≡ t → part_ways feed a b ≡ false
    by false t = t
    by true t =
        let parting : list_any (part_ways feed a) rows ≡ true = some_passes_at (part_ways feed a) rows b b_in t in
        let kept = (filtered_members (λ row. list_any (part_ways feed row) rows) rows a).1 (a_in, parting) in
        let made = Contains-map (driver_keys feed) (filter (λ row. list_any (part_ways feed row) rows) rows) a kept in
        let sorted = member_after_sort refs_cmp (map (driver_keys feed) (filter (λ row. list_any (part_ways feed row) rows) rows)) (driver_keys feed a)
        (λ x member tie. slice_cmp-IsAntisymmetric key_cmp-IsAntisymmetric x (driver_keys feed a) tie) made in
        Contains-nil (driver_keys feed a) (subst (λ (all : List (List Key)). Contains all (driver_keys feed a)) none sorted)

driver_rule : (feed : FeedDef) (driver : List ℕ) (rows made : List NRow) → feed.driver ≡ driver → ((row : NRow) → Contains rows row → Contains made row) → two_drivers feed driver made ≡ None
    → ((length driver == 0) || holds_of_each_two (is_one_partner feed) rows) ≡ true
driver_rule feed [] rows made is members e = refl
driver_rule feed (place ∷ places) rows made is members e =
    or_right (length (place ∷ places) == 0) (holds_of_each_two (is_one_partner feed) rows)
    (of_each_two (is_one_partner feed) rows (λ a b a_in b_in. ap not (partners_agree feed place places made e a b (members a a_in) (members b b_in))))

-- ---- what is taken

taken_rows : (rule : Option Rule) (rows : List NRow) (count : ℕ) (taken : List NRow) (number : ℕ) → rule_or_rows rule rows count ≡ Taken taken number → (rule ≡ None) × (taken ≡ sorted_by row_cmp rows) × (number ≡ count)
taken_rows rule rows count taken number h1 = grind (arith, common_steps, nat_tests)

-- what a feed's extract reads as: rows of the feed, no more than its records, of which there are no more than there is room for
pub record AreTaken (mapping : Mapping) (feed : FeedDef) (room : ℕ) (rows : List NRow) (count : ℕ) : Type 0 where
  pub formed : are_rows_of mapping feed rows ≡ true
  pub few : length rows ≤ count
  pub within : count ≤ room

pub rows_taken : (mapping : Mapping) (feed : FeedDef) → ValidFeed mapping feed → (room : ℕ) → room ≤ most_records → (all : List (List (List ℕ))) (rows : List NRow) (count : ℕ)
    → records_read feed room all ≡ Taken rows count → AreTaken mapping feed room rows count
rows_taken mapping feed valid room small [] rows count e = cc
rows_taken mapping feed valid room small (header ∷ all) rows count e =
    let names = header_names header in
    let made = map (row_of feed names) all in
    let (none, is, counted) = taken_rows (first_of (header_rule feed header ∷ records_rule feed names room 1 [] all ∷ two_drivers feed feed.driver made ∷ [])) made (length all) rows count e in
    let head = or_none (header_rule feed header) _ none in
    let body = or_none (records_rule feed names room 1 [] all) _ head.1 in
    let tail = or_none (two_drivers feed feed.driver made) _ body.1 in
    let columns = has_columns feed header head.0 in
    let members : (row : NRow) → Contains rows row → Contains made row = λ row has. member_before_sort row_cmp made row (subst (λ (all : List NRow). Contains all row) is has) in
    let apart = rows_apart feed names room 1 [] all (λ a b a_in b_in. Contains-nil a a_in) body.0 in
    let in_room = rows_within feed names room 1 [] all body.0 (omega arith) in
    let fewer : length rows ≤ length all = rw is (omega (arith, length-sorted_by row_cmp made, length-map all (row_of feed names))) in
    record {
      formed =
          rows_hold mapping feed rows (rw is (ascending-sorted_by row_cmp row_total made))
          (λ row has. rows_formed mapping feed valid names room 1 [] all columns body.0 row (members row has))
          (λ a b a_in b_in. apart a b (members a a_in) (members b b_in))
          (driver_rule feed feed.driver rows made refl members tail.0)
          (omega (arith, fewer, in_room, small));
      few = omega (arith, fewer, counted);
      within = omega (arith, counted, in_room);
    }
