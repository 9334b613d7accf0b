-- The rules of a record in their order.
use Rattle.dv_stage.proofs.Vocabulary.{Bool, FeedDef, List, NRow, None, Option, Rule, Some, [], ap, cons_option, driver_keys, empty_key, false, field_long, filter_map, is_missing, list_any, not_utf8, option_map_or, option_or, option_or-none, own_rule, ragged, record_rule, refl, row_of, slice_get}
use Rattle.dv_stage.proofs.Vocabulary.{too_many_rows, two_rows, ℕ, ◌||◌, ◌∷◌, ◌≡◌}

list_any-filter_map : {X Y : Type 0} (test : Y → Bool) (f : X → Option Y) (xs : List X) → list_any test (filter_map f xs) ≡ list_any (λ x. option_map_or test (f x) false) xs
list_any-filter_map test f [] = refl
list_any-filter_map {X} {Y} test f (x ∷ xs) = by (f x) (list_any-filter_map test f xs)
  where
    by : (o : Option Y) → list_any test (filter_map f xs) ≡ list_any (λ x. option_map_or test (f x) false) xs
        → list_any test (cons_option o (filter_map f xs)) ≡ (option_map_or test o false || list_any (λ x. option_map_or test (f x) false) xs)
    by None more = more
    by (Some y) more = ap (λ b. test y || b) more

pub driver-missing : (feed : FeedDef) (row : NRow) → list_any is_missing (driver_keys feed row) ≡ list_any (λ place. option_map_or is_missing (slice_get row.refs place) false) feed.driver
driver-missing feed row = list_any-filter_map is_missing (slice_get row.refs) feed.driver

pub ruleset any_driver = (driver-missing)

-- the rules of the record alone come before those that look at earlier records
pub record_rule-parts : (feed : FeedDef) (names : List (List ℕ)) (room number : ℕ) (earlier : List NRow) (fields : List (List ℕ))
    → record_rule feed names room number earlier fields
    ≡ option_or (own_rule feed names number fields) (option_or (two_rows feed number earlier (row_of feed names fields)) (too_many_rows feed room number))
record_rule-parts feed names room number earlier fields =
    by (ragged feed names number fields) (not_utf8 feed number fields) (field_long feed number fields) (empty_key feed number (row_of feed names fields))
    (two_rows feed number earlier (row_of feed names fields)) (too_many_rows feed room number)
  where
    by : (a b c d e f : Option Rule) → option_or a (option_or b (option_or c (option_or d (option_or e (option_or f None))))) ≡ option_or (option_or (option_or a (option_or b (option_or c None))) d) (option_or e f)
    by (Some a) b c d e f = refl
    by None (Some b) c d e f = refl
    by None None (Some c) d e f = refl
    by None None None (Some d) e f = refl
    by None None None None e f = rw (option_or-none f) refl

pub ruleset record_parts = (record_rule-parts)
