-- The rows of a stored table of a snapshot, in a store that stands for a state: all of the table at the date.
use Rattle.dv_window.proofs.Vocabulary.{Bool, Bridge, Bridges, HasTable, Hashes, List, Mapping, Pit, Pits, Rows, Snap, SnapHead, SnapId, SnapTable, Some, Stands, State, Store, [], ap, append-nil, arith, asked_of, bridge, bridge_table, eqb-true, false, length, map, nat_tests, no_snap_rows, page}
use Rattle.dv_window.proofs.Vocabulary.{pit, pit_table, range_with_len, read_rows, refl, row_count, rows_of_snap, snap_id_eq, snapshot, snapshot_rows, suc, sum_by, sum_by-cons, sym, true, whole_page, zero, ℕ, ◌++◌, ◌+◌, ◌<◌, ◌==◌, ◌∙◌, ◌∷◌, ◌≡◌, ◌≤◌}
use Rattle.dv_window.specs.StoredRows.{head_at}

-- ---- the rows of a table of snapshots

-- a table has no more rows than all
none_within : (id : SnapId) → row_count (no_snap_rows id) ≡ 0
none_within (Pit n) = refl
none_within (Bridge n) = refl

abbrev count_of : SnapTable → ℕ
count_of table = row_count table.rows

count_within : (id : SnapId) (tables : List SnapTable) → row_count (rows_of_snap id tables) ≤ sum_by count_of tables
count_within id [] = let none = none_within id in omega (arith, none)
count_within id (table ∷ tables) = by (snap_id_eq table.id id) refl (count_within id tables)
  where
    by : (b : Bool) → snap_id_eq table.id id ≡ b → row_count (rows_of_snap id tables) ≤ sum_by count_of tables → row_count (rows_of_snap id (table ∷ tables)) ≤ sum_by count_of (table ∷ tables)
    by true e rest = let sum = sum_by-cons count_of table tables in rw e (omega (arith, sum))
    by false e rest = let sum = sum_by-cons count_of table tables in rw e (omega (arith, sum, rest))

-- the table with a number among tables that are numbered, whatever stands behind them
module _ (made : ℕ → SnapTable) (id : ℕ → SnapId) (exact : (m n : ℕ) → snap_id_eq (made m).id (id n) ≡ (m == n)) (others : List SnapTable) where
  found_in : (n start len : ℕ) → start ≤ n → n < start + len → rows_of_snap (id n) (map made (range_with_len start len) ++ others) ≡ (made n).rows
  found_in n start zero from to = absurd (omega (arith, from, to))
  found_in n start (suc len) from to = by (start == n) refl (λ behind. found_in n (start + 1) len behind (omega (arith, to)))
    where
      by : (b : Bool) → (start == n) ≡ b → (start + 1 ≤ n → rows_of_snap (id n) (map made (range_with_len (start + 1) len) ++ others) ≡ (made n).rows)
          → rows_of_snap (id n) (map made (range_with_len start (suc len)) ++ others) ≡ (made n).rows
      by true e rest = rw (exact start n, e) (ap (λ n. (made n).rows) (eqb-true start n e))
      by false e rest = rw (exact start n, e) (rest (grind (arith, nat_tests, e, from)))

-- no point-in-time table is a bridge
behind_pits : (rows : ℕ → Rows) (path : ℕ) (hubs : List ℕ) (others : List SnapTable) → rows_of_snap (Bridge path) (map (λ hub. record { id = Pit hub; rows = rows hub }) hubs ++ others) ≡ rows_of_snap (Bridge path) others
behind_pits rows path [] others = refl
behind_pits rows path (hub ∷ hubs) others = behind_pits rows path hubs others

-- the snapshot of a date among those of dates
found_at : (at : ℕ → Snap) → ((d : ℕ) → (at d).head.date ≡ d) → (date : ℕ) (id : SnapId) (dates : List ℕ) (head : SnapHead) → head_at date (map (λ d. (at d).head) dates) ≡ Some head
    → (head ≡ (at date).head) × (snapshot_rows date id (map at dates) ≡ rows_of_snap id (at date).tables)
found_at at dated date id [] head e = cc
found_at at dated date id (d ∷ dates) head e = by ((at d).head.date == date) refl (found_at at dated date id dates head)
  where
    by : (b : Bool) → ((at d).head.date == date) ≡ b
        → (head_at date (map (λ d. (at d).head) dates) ≡ Some head → (head ≡ (at date).head) × (snapshot_rows date id (map at dates) ≡ rows_of_snap id (at date).tables))
        → (head ≡ (at date).head) × (snapshot_rows date id (map at (d ∷ dates)) ≡ rows_of_snap id (at date).tables)
    by true t rest =
        let same : d ≡ date = sym (dated d) ∙ eqb-true (at d).head.date date t in
        let is : Some (at d).head ≡ Some head = rw t at e in
        let head_is : (at d).head ≡ head = cc in (
          sym head_is ∙ ap (λ d. (at d).head) same,
          rw t (ap (λ d. rows_of_snap id (at d).tables) same),
        )
    by false f rest =
        let (head_is, rows_are) = rest (rw f at e) in (
          head_is,
          rw f rows_are,
        )

-- ---- a state

module _ (mapping : Mapping) (hashes : Hashes) (state : State) (date : ℕ) where
  abbrev at : ℕ → Snap
  at = snapshot mapping hashes state.sealed

  -- the rows of a table at the date
  abbrev pub table_rows : SnapId → Rows
  table_rows (Pit hub) = Pits (pit mapping hashes state.sealed hub date)
  table_rows (Bridge path) = Bridges (bridge mapping hashes state.sealed path date)

  rows_in_snap : (id : SnapId) → HasTable mapping id → rows_of_snap id (at date).tables ≡ table_rows id
  rows_in_snap (Pit hub) under =
      found_in (pit_table mapping hashes state.sealed date) (λ n. Pit n) (λ m n. refl) (map (bridge_table mapping hashes state.sealed date) (range_with_len 0 (length mapping.paths))) hub 0 (length mapping.hubs) (omega arith) (omega (arith, under))
  rows_in_snap (Bridge path) under =
      behind_pits (λ hub. Pits (pit mapping hashes state.sealed hub date)) path (range_with_len 0 (length mapping.hubs)) (map (bridge_table mapping hashes state.sealed date) (range_with_len 0 (length mapping.paths)))
      ∙ ap (rows_of_snap (Bridge path)) (sym (append-nil (map (bridge_table mapping hashes state.sealed date) (range_with_len 0 (length mapping.paths)))))
      ∙ found_in (bridge_table mapping hashes state.sealed date) (λ n. Bridge n) (λ m n. refl) [] path 0 (length mapping.paths) (omega arith) (omega (arith, under))

  module _ (id : SnapId) (head : SnapHead) (found : head_at date (map (λ d. (at d).head) state.dates) ≡ Some head) where
    -- the head is of the date
    pub head_dated : head.date ≡ date
    head_dated = let (head_is, _) = found_at at (λ d. refl) date id state.dates head found in ap (λ (h : SnapHead). h.date) head_is

    -- the rows that are read are all of the table
    pub rows_stand : (store : Store) → Stands mapping hashes state store → HasTable mapping id → read_rows (asked_of id head) store.snapshots ≡ table_rows id
    rows_stand store stands has =
        let (head_is, rows_are) = found_at at (λ d. refl) date id state.dates head found in
        let own : rows_of_snap id (at date).tables ≡ table_rows id = rows_in_snap id has in
        let counted : head.rows ≡ sum_by count_of (at date).tables = ap (λ (h : SnapHead). h.rows) head_is in
        let within : row_count (rows_of_snap id (at date).tables) ≤ sum_by count_of (at date).tables = count_within id (at date).tables in
        let long : row_count (table_rows id) ≤ head.rows = omega (arith, counted, within, ap row_count own) in
        ap (page 0 head.rows) (ap (λ d. snapshot_rows d id store.snapshots) head_dated ∙ ap (snapshot_rows date id) stands.snapshots ∙ rows_are ∙ own)
        ∙ whole_page head.rows (table_rows id) long
