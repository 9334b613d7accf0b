-- The rows that columns lend are those of the contents.
use Rattle.dv_mart.proofs.Vocabulary.{Bor, FeedDef, FeedRows, HubColumn, Key, List, NRow, None, Option, Some, [], ap, append_assoc, arith, attrs_or_blanks, cell_at, cell_of, column_of, column_told, drop, drop_more, enumerate_from, find, get_or, if◌then◌else◌, is_some, length, lent_row, lent_rows}
use Rattle.dv_mart.proofs.Vocabulary.{map, option_map, option_map_or, refl, row_at, row_of, slice_get, slice_get-map, some_found, subst, suc, sym, told, ℕ, ◌++◌, ◌+◌, ◌<◌, ◌==◌, ◌∙◌, ◌∷◌, ◌≡◌}
use Rattle.dv_mart.proofs.HubColumns.{has}

-- whether there is an item, whatever is told of it
pub some_told : {A B : Type 0} (f : A → B) (item : Option A) → is_some item ≡ is_some (option_map f item)
some_told f None = refl
some_told f (Some x) = refl

-- an item more beside its place
pub numbered_more : {X Y : Type 0} (f : ℕ × X → Y) (made more whole : List Y) (x : X) (xs : List X) (i : ℕ) → i < length xs → x ≡ get_or xs i x → more ≡ made ++ f (i, x) ∷ []
    → made ++ map f (enumerate_from i (drop i xs)) ≡ whole → more ++ map f (enumerate_from (i + 1) (drop (i + 1) xs)) ≡ whole
numbered_more f made more whole x xs i under at more_is so_far =
    ap (λ l. l ++ map f (enumerate_from (i + 1) (drop (i + 1) xs))) more_is
    ∙ append_assoc made (f (i, x) ∷ []) (map f (enumerate_from (i + 1) (drop (i + 1) xs)))
    ∙ ap (λ rest. made ++ map f (enumerate_from i rest)) (sym (drop_more xs i x under ∙ ap (λ y. y ∷ drop (i + 1) xs) (sym at)))
    ∙ so_far

module _ (keys : List Key) where
  module _ (key : Key) (place : ℕ) (at : slice_get keys place ≡ Some key) where
    -- the row at the place of a key is the first that has it
    row_found : (column : HubColumn) (rows : List NRow) → map (option_map (λ row. row.now)) column.found.items ≡ map (λ key. find (has key) rows) keys → row_at place column ≡ find (has key) rows
    row_found column rows found = flat (slice_get column.found.items place) seen
      where
        seen : option_map (option_map (λ (row : Bor NRow). row.now)) (slice_get column.found.items place) ≡ Some (find (has key) rows)
        seen =
            sym (slice_get-map (option_map (λ (row : Bor NRow). row.now)) column.found.items place)
            ∙ ap (λ (all : List (Option NRow)). slice_get all place) found
            ∙ slice_get-map (λ key. find (has key) rows) keys place
            ∙ ap (option_map (λ key. find (has key) rows)) at

        flat : (o : Option (Option (Bor NRow))) → option_map (option_map (λ row. row.now)) o ≡ Some (find (has key) rows) → option_map_or (λ row. option_map (λ row. row.now) row) o None ≡ find (has key) rows
        flat None e = cc
        flat (Some row) e = cc

    cell_same : (column : HubColumn) (one : FeedRows) → column_told column ≡ column_of keys one → cell_at place column ≡ cell_of key one
    cell_same column one e =
        let feed : told column.feed ≡ told one.feed = ap (λ (p : (ℕ × FeedDef) × List (Option NRow)). p.0) e in
        let row = row_found column one.rows (ap (λ (p : (ℕ × FeedDef) × List (Option NRow)). p.1) e) in
        λ i. record {
          present = (ap is_some row ∙ some_found (has key) one.rows) i;
          attrs = if length (feed i).1.sub == 0 then attrs_or_blanks (length (feed i).1.attrs) (row i) else [];
        }

    cells_same : (columns : List HubColumn) (contents : List FeedRows) → map column_told columns ≡ map (column_of keys) contents → map (cell_at place) columns ≡ map (cell_of key) contents
    cells_same [] [] e = refl
    cells_same [] (one ∷ contents) e = cc
    cells_same (column ∷ columns) [] e = cc
    cells_same (column ∷ columns) (one ∷ contents) e =
        let here : column_told column ≡ column_of keys one = cc in
        let there : map column_told columns ≡ map (column_of keys) contents = cc in
        λ i. cell_same column one here i ∷ cells_same columns contents there i

  module _ (columns : List HubColumn) (contents : List FeedRows) (columns_are : map column_told columns ≡ map (column_of keys) contents) where
    rows_from : (n : ℕ) (rest : List Key) → ((j : ℕ) (key : Key) → slice_get rest j ≡ Some key → slice_get keys (n + j) ≡ Some key)
        → map (λ (place, key). lent_row key columns place) (enumerate_from n rest) ≡ map (row_of contents) rest
    rows_from n [] at = refl
    rows_from n (key ∷ rest) at =
        let here : n + 0 ≡ n = omega arith in
        let cells = cells_same key n (subst (λ m. slice_get keys m ≡ Some key) here (at 0 key refl)) columns contents columns_are in
        let later = rows_from (n + 1) rest (λ j k e. let there : n + suc j ≡ n + 1 + j = omega arith in subst (λ m. slice_get keys m ≡ Some k) there (at (suc j) k e)) in
        λ i. record { key = key; cells = cells i } ∷ later i

    pub lent_are : lent_rows columns keys ≡ map (row_of contents) keys
    lent_are = rows_from 0 keys (λ j key e. let same : j ≡ 0 + j = omega arith in subst (λ m. slice_get keys m ≡ Some key) same e)
