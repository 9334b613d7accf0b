-- The rule of driving keys with several partners is broken where two rows part ways.
use Rattle.dv_window_rules.proofs.Vocabulary.{FeedDef, List, NRow, None, [], ap, arith, false, filter-none, holds_of_each_two, is_none, is_one_partner, length, list_all, list_any, nat_tests, none_from, none_pass, not, not-true, of_each_two, part_ways, passes_at, refl, same_answer, shared_drivers}
use Rattle.dv_window_rules.proofs.Vocabulary.{slice_get, sym, true, two_drivers, ℕ, ◌==◌, ◌||◌, ◌∙◌, ◌∷◌, ◌≡◌}
use Rattle.dv_window_rules.proofs.ReadRows.{partners_agree}

-- where no two rows part ways, no driving keys are shared
none_shared : (feed : FeedDef) (rows : List NRow) → holds_of_each_two (is_one_partner feed) rows ≡ true → slice_get (shared_drivers feed rows) 0 ≡ None
none_shared feed rows each =
    rw (filter-none (λ row. list_any (part_ways feed row) rows) rows (λ row has.
    none_pass (part_ways feed row) rows (λ other member.
    not-true (part_ways feed row other) (passes_at (is_one_partner feed row) rows other (passes_at (λ a. list_all (is_one_partner feed a) rows) rows row each has) member))))
    refl

told : (feed : FeedDef) (driver : List ℕ) (rows : List NRow) → is_none (two_drivers feed driver rows) ≡ ((length driver == 0) || holds_of_each_two (is_one_partner feed) rows)
told feed [] rows = refl
told feed (place ∷ places) rows =
    let none : (length (place ∷ places) == 0) ≡ false = grind (arith, nat_tests) in
    same_answer (is_none (two_drivers feed (place ∷ places) rows)) (holds_of_each_two (is_one_partner feed) rows)
    (λ e. of_each_two (is_one_partner feed) rows (λ a b a_in b_in. ap not (partners_agree feed place places rows (none_from (two_drivers feed (place ∷ places) rows) e) a b a_in b_in)))
    (λ e. rw (none_shared feed rows e) refl)
    ∙ sym (ap (λ b. b || holds_of_each_two (is_one_partner feed) rows) none)

pub partners_told : (feed : FeedDef) (rows : List NRow) → is_none (two_drivers feed feed.driver rows) ≡ ((length feed.driver == 0) || holds_of_each_two (is_one_partner feed) rows)
partners_told feed rows = told feed feed.driver rows
