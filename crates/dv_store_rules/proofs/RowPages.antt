-- Rows of any kind: their pages, and rows behind others.
use Rattle.dv_store_rules.proofs.Vocabulary.{Bool, List, Rows, TableId, TableRows, [], and_parts, ap, arith, drop, false, has_kind, have_kinds, is_of_kind, length, length-append, length-drop, length-take, min, no_rows, page, refl, row_count, rows_in, rows_then, rows_weight, rules, same_table}
use Rattle.dv_store_rules.proofs.Vocabulary.{suc, sum_by, sum_by-append, sum_by-cons, sym, table_eq, take, take-nil, take_all, take_min, true, zero, ℕ, ◌++◌, ◌+◌, ◌-◌, ◌<◌, ◌∙◌, ◌∷◌, ◌≡◌, ◌≤◌}

-- ---- lists

-- some first items, and some behind them
taken_then : {X : Type 0} (n m : ℕ) (xs : List X) → take n xs ++ take m (drop n xs) ≡ take (n + m) xs
taken_then zero m xs = let e : 0 + m ≡ m = omega arith in rw e refl
taken_then (suc n) m [] = let e : suc n + m ≡ suc (n + m) = omega arith in rw e (take-nil m)
taken_then (suc n) m (x ∷ xs) = let e : suc n + m ≡ suc (n + m) = omega arith in rw e (ap (λ l. x ∷ l) (taken_then n m xs))

-- first items are as many first items as there are of them
taken_exact : {X : Type 0} (n : ℕ) (xs : List X) → take (length (take n xs)) xs ≡ take n xs
taken_exact n xs = ap (λ k. take k xs) (length-take n xs) ∙ take_min n xs

counted : {X : Type 0} (from most : ℕ) (xs : List X) → length (take most (drop from xs)) ≡ min most (length xs - from)
counted from most xs = length-take most (drop from xs) ∙ ap (min most) (length-drop from xs)

-- items of which each weighs something weigh at least as much as there are
long_sum : {X : Type 0} (weight : X → ℕ) → ((x : X) → 0 < weight x) → (xs : List X) → length xs ≤ sum_by weight xs
long_sum weight some [] = omega arith
long_sum weight some (x ∷ xs) = omega (arith, some x, long_sum weight some xs, sum_by-cons weight x xs)

-- ---- pages

pub then_page : (n m : ℕ) (rows : Rows) → rows_then (page 0 n rows) (page n m rows) ≡ page 0 (n + m) rows
then_page n m rows = search (rules, taken_then)

pub page_exact : (n : ℕ) (rows : Rows) → page 0 (row_count (page 0 n rows)) rows ≡ page 0 n rows
page_exact n rows = search (rules, taken_exact)

pub page_count : (from most : ℕ) (rows : Rows) → row_count (page from most rows) ≡ min most (row_count rows - from)
page_count from most rows = search (rules, counted)

pub whole_page : (n : ℕ) (rows : Rows) → row_count rows ≤ n → page 0 n rows ≡ rows
whole_page n rows le = search (rules, take_all)

pub page_kind : (table : TableId) (from most : ℕ) (rows : Rows) → is_of_kind table (page from most rows) ≡ is_of_kind table rows
page_kind table from most rows = search rules

-- ---- rows behind others of their kind

pub count_then : (table : TableId) (a b : Rows) → is_of_kind table a ≡ true → is_of_kind table b ≡ true → row_count (rows_then a b) ≡ row_count a + row_count b
count_then table a b k l = search (rules, length-append)

pub weight_then : (table : TableId) (a b : Rows) → is_of_kind table a ≡ true → is_of_kind table b ≡ true → rows_weight (rows_then a b) ≡ rows_weight a + rows_weight b
weight_then table a b k l = search (rules, sum_by-append)

-- each row weighs something
pub weight_least : (rows : Rows) → row_count rows ≤ rows_weight rows
weight_least rows = search (rules, long_sum, arith)

-- ---- tables

none_kind : (table : TableId) → is_of_kind table (no_rows table) ≡ true
none_kind table = search rules

-- a table of a well-formed store has rows of its kind, or some of another one
pub kind_in : (table : TableId) (tables : List TableRows) → have_kinds tables ≡ true → row_count (rows_in table tables) ≡ 0 → is_of_kind table (rows_in table tables) ≡ true
kind_in table [] kinds empty = none_kind table
kind_in table (entry ∷ tables) kinds empty = by (table_eq entry.table table) refl (kind_in table tables both.1)
  where
    both : (has_kind entry ≡ true) × (have_kinds tables ≡ true)
    both = and_parts (has_kind entry) (have_kinds tables) kinds

    by : (b : Bool) → table_eq entry.table table ≡ b → (row_count (rows_in table tables) ≡ 0 → is_of_kind table (rows_in table tables) ≡ true) → is_of_kind table (rows_in table (entry ∷ tables)) ≡ true
    by true t rest =
        let same = same_table entry.table table t in
        let none : row_count entry.rows ≡ 0 = rw t at empty in
        let kind : has_kind entry ≡ true = both.0 in
        let own : is_of_kind entry.table entry.rows ≡ true = rw none at kind in
        rw t (ap (λ table. is_of_kind table entry.rows) (sym same) ∙ own)
    by false t rest = rw t (rest (rw t at empty))
