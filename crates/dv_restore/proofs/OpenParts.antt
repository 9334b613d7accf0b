-- The parts of an open window in a vault of which some first tables have its batches.
use Rattle.dv_restore.proofs.Vocabulary.{ArePartsOf, Backwards, Hashes, List, Mapping, Part, Rows, TableId, TableRows, Window, [], all_lacking, ap, arith, backwards, batch_adds, drop, is_of_kind, map, none_like, opened_in, partial, parts_at, refl, rest_in, row_count, rows_then, rows_weight, rules}
use Rattle.dv_restore.proofs.Vocabulary.{suc, sum_by, sum_by-cons, sym, table_after, table_after-newest, table_batch, table_entry, tables, tables_there, tables_weight, take, then_none, true, vault, vault_weight, weight_with_batches, window_batches, with_newest, zero, ℕ, ◌++◌, ◌+◌, ◌∙◌, ◌∷◌, ◌≡◌}
use Rattle.dv_restore.proofs.Completing.{same_behind}

-- a table and its batch are of its kind
after_kind : (mapping : Mapping) (hashes : Hashes) (older : Backwards) (id : TableId) → is_of_kind id (table_after mapping hashes older id) ≡ true
after_kind mapping hashes older id = search rules

batch_kind : (mapping : Mapping) (hashes : Hashes) (older : Backwards) (window : Window) (id : TableId) → is_of_kind id (table_batch mapping hashes id older window) ≡ true
batch_kind mapping hashes older window id = search rules

none_kind : (mapping : Mapping) (hashes : Hashes) (older : Backwards) (window : Window) (id : TableId) → is_of_kind id (none_like (table_batch mapping hashes id older window)) ≡ true
none_kind mapping hashes older window id = search rules

pub none_weighs : (rows : Rows) → (rows_weight (none_like rows) ≡ 0) × (row_count (none_like rows) ≡ 0)
none_weighs rows = search rules

head_same : {x y : TableRows} {xs ys : List TableRows} → x ∷ xs ≡ y ∷ ys → x ≡ y
head_same e = cc

tail_same : {x y : TableRows} {xs ys : List TableRows} → x ∷ xs ≡ y ∷ ys → xs ≡ ys
tail_same e = cc

-- the rows of all batches are counted, wherever they are
pub all_counted : (k : ℕ) (batches : List Rows) → sum_by row_count (opened_in (parts_at k batches)) + sum_by row_count (rest_in (parts_at k batches)) ≡ sum_by row_count batches
all_counted zero [] = refl
all_counted zero (rows ∷ batches) =
    let behind = ap (λ parts. sum_by row_count (opened_in parts) + sum_by row_count (rest_in parts)) (sym (all_lacking batches)) ∙ all_counted zero batches in
    let there = sum_by-cons row_count (none_like rows) (opened_in (map (λ b. record { opened = none_like b; rest = b }) batches)) in
    let lacking = sum_by-cons row_count rows (rest_in (map (λ b. record { opened = none_like b; rest = b }) batches)) in
    let all = sum_by-cons row_count rows batches in
    let none = (none_weighs rows).1 in
    omega (arith, behind, there, lacking, all, none)
all_counted (suc k) [] = refl
all_counted (suc k) (rows ∷ batches) =
    let behind = all_counted k batches in
    let there = sum_by-cons row_count rows (opened_in (parts_at k batches)) in
    let lacking = sum_by-cons row_count (none_like rows) (rest_in (parts_at k batches)) in
    let all = sum_by-cons row_count rows batches in
    let none = (none_weighs rows).1 in
    omega (arith, behind, there, lacking, all, none)

module _ (mapping : Mapping) (hashes : Hashes) (older : Backwards) (window : Window) where
  abbrev batch_at : TableId → Rows
  batch_at id = table_batch mapping hashes id older window

  abbrev mixed : ℕ → List TableId → List TableRows
  mixed k some = map (table_entry mapping hashes (with_newest window older)) (take k some) ++ map (table_entry mapping hashes older) (drop k some)

  -- tables weigh with what they lack what they weigh with all batches
  weighs : (k : ℕ) (some : List TableId) → tables_weight (mixed k some) + sum_by rows_weight (rest_in (parts_at k (map batch_at some))) ≡ tables_weight (map (table_entry mapping hashes older) some) + sum_by rows_weight (map batch_at some)
  weighs zero [] = refl
  weighs zero (id ∷ some) =
      ap (λ (rest : List Rows). tables_weight (map (table_entry mapping hashes older) (id ∷ some)) + sum_by rows_weight (batch_at id ∷ rest)) (lacking (map batch_at some))
    where
      lacking : (batches : List Rows) → rest_in (map (λ b. record { opened = none_like b; rest = b }) batches) ≡ batches
      lacking [] = refl
      lacking (rows ∷ batches) = ap (λ (rest : List Rows). rows ∷ rest) (lacking batches)
  weighs (suc k) [] = refl
  weighs (suc k) (id ∷ some) =
      let behind = weighs k some in
      let now = sum_by-cons (λ (entry : TableRows). rows_weight entry.rows) (table_entry mapping hashes (with_newest window older) id) (mixed k some) in
      let lacking = sum_by-cons rows_weight (none_like (batch_at id)) (rest_in (parts_at k (map batch_at some))) in
      let before = sum_by-cons (λ (entry : TableRows). rows_weight entry.rows) (table_entry mapping hashes older id) (map (table_entry mapping hashes older) some) in
      let batch = sum_by-cons rows_weight (batch_at id) (map batch_at some) in
      let adds = (batch_adds mapping hashes older window id).weight in
      let grown = ap rows_weight (table_after-newest mapping hashes older window id) in
      let none = (none_weighs (batch_at id)).0 in
      omega (arith, behind, now, lacking, before, batch, adds, grown, none)

  -- what is there of a window is told by the tables with it
  opened_are : (k : ℕ) (some : List TableId) (parts : List Part) → ArePartsOf (map (table_entry mapping hashes older) some) parts → tables_there (map (table_entry mapping hashes older) some) parts ≡ mixed k some
      → opened_in parts ≡ opened_in (parts_at k (map batch_at some))
  opened_are zero [] [] are e = refl
  opened_are (suc k) [] [] are e = refl
  opened_are k [] (part ∷ parts) are e = absurd are
  opened_are k (id ∷ some) [] are e = absurd are
  opened_are zero (id ∷ some) (part ∷ parts) (here, behind) e =
      let first : rows_then (table_after mapping hashes older id) part.opened ≡ table_after mapping hashes older id = ap (λ (entry : TableRows). entry.rows) (head_same e) in
      λ i. same_behind id (table_after mapping hashes older id) part.opened (none_like (batch_at id)) (after_kind mapping hashes older id) here.opened (none_kind mapping hashes older window id) (first ∙ sym (then_none (table_after mapping hashes older id) (batch_at id))) i
      ∷ (opened_are zero some parts behind (tail_same e ∙ none_first some) ∙ ap opened_in (all_lacking (map batch_at some))) i
    where
      none_first : (some : List TableId) → map (table_entry mapping hashes older) some ≡ mixed 0 some
      none_first [] = refl
      none_first (id ∷ some) = refl
  opened_are (suc k) (id ∷ some) (part ∷ parts) (here, behind) e =
      let first : rows_then (table_after mapping hashes older id) part.opened ≡ table_after mapping hashes (with_newest window older) id = ap (λ (entry : TableRows). entry.rows) (head_same e) in
      λ i. same_behind id (table_after mapping hashes older id) part.opened (batch_at id) (after_kind mapping hashes older id) here.opened (batch_kind mapping hashes older window id) (first ∙ table_after-newest mapping hashes older window id) i
      ∷ opened_are k some parts behind (tail_same e) i

pub partly_weighs : (mapping : Mapping) (hashes : Hashes) (sealed : List Window) (window : Window) (k : ℕ)
    → tables_weight (partial mapping hashes sealed window k) + sum_by rows_weight (rest_in (parts_at k (window_batches mapping hashes sealed window))) ≡ vault_weight mapping hashes (sealed ++ window ∷ [])
partly_weighs mapping hashes sealed window k = weighs mapping hashes (backwards sealed) window k (tables mapping) ∙ weight_with_batches mapping hashes sealed window

pub partly_opened : (mapping : Mapping) (hashes : Hashes) (sealed : List Window) (window : Window) (k : ℕ) (parts : List Part) → ArePartsOf (vault mapping hashes sealed) parts
    → tables_there (vault mapping hashes sealed) parts ≡ partial mapping hashes sealed window k → opened_in parts ≡ opened_in (parts_at k (window_batches mapping hashes sealed window))
partly_opened mapping hashes sealed window k parts = opened_are mapping hashes (backwards sealed) window k (tables mapping) parts
