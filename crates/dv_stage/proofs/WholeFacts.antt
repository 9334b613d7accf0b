-- Records that break no rule by themselves, whose rows have no rivals, break none.
use Rattle.dv_stage.proofs.Vocabulary.{Bool, Contains, Contains-append_left, Contains-append_right, Contains-cons_here, FeedDef, HasNoRivals, IsStrictlySortedBy, List, NRow, None, Taken, [], ap, append_assoc, are_rivals, behind_header, false, header_names, header_rule, if◌then◌else◌, le-ltb}
use Rattle.dv_stage.proofs.Vocabulary.{length, length-map, map, nat_lt, own_rule, position, record_rule, records_rule, refl, repeats_name, row_cmp, row_of, sorted_by, subst, sym, true, two_drivers, unplaced, ℕ, ◌++◌, ◌+◌, ◌↔◌, ◌∙◌, ◌∷◌, ◌≡◌, ◌≤◌}
use Rattle.dv_stage.proofs.{NeighbourFacts.apart_among, NeighbourFacts.names_apart, RuleFacts.record_rule-parts}

-- a row among rows without rivals has none before it
none_before : (earlier later : List NRow) (row : NRow) → HasNoRivals (earlier ++ row ∷ later) → position (λ other. are_rivals other row) earlier ≡ None
none_before earlier later row apart =
    unplaced (λ other. are_rivals other row) earlier
    (λ other has. apart other row (Contains-append_left earlier (row ∷ later) other has) (Contains-append_right earlier (row ∷ later) row (Contains-cons_here row later)))

-- such a record breaks no rule while there is room
record_rule-none : (feed : FeedDef) (names : List (List ℕ)) (room number : ℕ) (earlier later : List NRow) (fields : List (List ℕ)) → own_rule feed names number fields ≡ None
    → number ≤ room → HasNoRivals (earlier ++ row_of feed names fields ∷ later) → record_rule feed names room number earlier fields ≡ None
record_rule-none feed names room number earlier later fields own small apart =
    let within : nat_lt room number ≡ false = le-ltb room number small in
    record_rule-parts feed names room number earlier fields ∙ rw (own, none_before earlier later (row_of feed names fields) apart, within) refl

-- a record was found
pub left_more : (found : Bool) (left rest : List (List (List ℕ))) (fields : List (List ℕ)) → left ≡ (if found then fields ∷ rest else []) → found ≡ true → left ≡ fields ∷ rest
left_more found left rest fields e f = rw f at e

module _ (feed : FeedDef) (names : List (List ℕ)) (earlier grown : List NRow) (all left rest : List (List (List ℕ))) (fields : List (List ℕ)) (made : NRow)
    (is_left : left ≡ fields ∷ rest) (rows : map (row_of feed names) all ≡ earlier ++ map (row_of feed names) left) (is_row : made ≡ row_of feed names fields) (is_grown : grown ≡ earlier ++ made ∷ []) where
  split : map (row_of feed names) all ≡ earlier ++ row_of feed names fields ∷ map (row_of feed names) rest
  split = rw is_left at rows

  -- one row more
  pub rows_more : map (row_of feed names) all ≡ grown ++ map (row_of feed names) rest
  rows_more = split ∙ rw (is_grown, is_row) (sym (append_assoc earlier (row_of feed names fields ∷ []) (map (row_of feed names) rest)))

  -- one record more that breaks no rule
  pub rule_more : (room number : ℕ) → own_rule feed names number fields ≡ None → number ≤ room → HasNoRivals (map (row_of feed names) all)
      → records_rule feed names room number earlier left ≡ records_rule feed names room (number + 1) grown rest
  rule_more room number own small apart =
      let none = record_rule-none feed names room number earlier (map (row_of feed names) rest) fields own small (subst HasNoRivals split apart) in
      rw (is_left, none, is_grown, is_row) refl

-- what the records behind a header read as where no rule is broken
pub whole_read : (feed : FeedDef) (room count : ℕ) (header : List (List ℕ)) (records : List (List (List ℕ))) (rows sorted : List NRow) → header_rule feed header ≡ None
    → rows ≡ map (row_of feed (header_names header)) records → (HasNoRivals rows → records_rule feed (header_names header) room 1 [] records ≡ None) → two_drivers feed feed.driver rows ≡ None
    → sorted ≡ sorted_by row_cmp rows → IsStrictlySortedBy row_cmp sorted → ((row : NRow) → Contains sorted row ↔ Contains rows row) → repeats_name sorted ≡ false → count ≡ length rows
    → behind_header feed room header records ≡ Taken sorted count
whole_read feed room count header records rows sorted of_header is_rows of_records of_drivers is_sorted up members once is_count =
    let apart : HasNoRivals rows = apart_among rows sorted (λ row has. (members row).1 has) (names_apart sorted up once) in
    let drivers : two_drivers feed feed.driver (map (row_of feed (header_names header)) records) ≡ None = rw is_rows at of_drivers in
    let number : count ≡ length records = is_count ∙ ap length is_rows ∙ length-map records (row_of feed (header_names header)) in
    rw (of_header, of_records apart, drivers, number, is_sorted, is_rows) refl
