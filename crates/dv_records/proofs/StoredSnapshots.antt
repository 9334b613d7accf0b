-- A snapshot at a date that is not refused: what a store that stands for a state stands for with it, and that it is new there.
use Rattle.dv_records.proofs.Vocabulary.{AllByRecursion, Bool, Bridge, Bridges, Equal, Greater, Hashes, IsStrictlySortedBy, Less, List, Mapping, None, Option, Ordering, Pit, Pits, Snap, SnapId, SnapTable, Some, Stands, State, Store, TablesStand, Window, [], all_windows, and_from, and_parts, ap}
use Rattle.dv_records.proofs.Vocabulary.{are_dates_valid, are_not_later, are_snap_tables_apart, are_windows_valid, arith, ascending-sorted_by, ascends, bridge, common_steps, false, false≢true, full_with, future, if◌then◌else◌, insert_by, is_new_snapshot, is_valid_state, last_load, later_than}
use Rattle.dv_records.proofs.Vocabulary.{le-leb, length, length-sorted_by, list_all, list_any, list_any-append, list_any-map, lt-ltb, map, most_snapshot_weight, most_snapshots, nat_cmp, nat_cmp_total, nat_le, nat_lt, nat_tests, not, or_none, pit, range_with_len, ranked, refl, rules, snap_cmp}
use Rattle.dv_records.proofs.Vocabulary.{snap_id_eq, snapshot, snapshot_refusal, snapshots_full, snapshots_weight, sorted_by, sorted_by-sorted, suc, sum_by, sum_by-append, sum_by-cons, sym, taken, true, with_date, with_snapshot, zero, ℕ, ◌++◌, ◌+◌, ◌<◌, ◌==◌, ◌||◌, ◌∙◌, ◌∷◌, ◌≡◌, ◌≤◌}
use Rattle.dv_records.proofs.{SnapshotOrder.all-insert, WindowRows.in_order}

-- ---- what is put among others

module _ {X : Type 0} (R : X → X → Ordering) where
  -- they weigh no more than it and the others
  pub sum-insert : (w : X → ℕ) (x : X) (ys : List X) → sum_by w (insert_by R x ys) ≤ w x + sum_by w ys
  sum-insert w x [] = let one = sum_by-cons w x [] in omega (arith, one)
  sum-insert w x (y ∷ ys) = by (R x y) refl (sum-insert w x ys)
    where
      by : (r : Ordering) → R x y ≡ r → sum_by w (insert_by R x ys) ≤ w x + sum_by w ys → sum_by w (insert_by R x (y ∷ ys)) ≤ w x + sum_by w (y ∷ ys)
      by Less e later = let all = sum_by-cons w x (y ∷ ys) in rw e (omega (arith, all))
      by Equal e later = let all = sum_by-cons w x ys in let rest = sum_by-cons w y ys in rw e (omega (arith, all, rest))
      by Greater e later =
          let all = sum_by-cons w y (insert_by R x ys) in
          let rest = sum_by-cons w y ys in
          rw e (omega (arith, later, all, rest))

-- the same of what is made of them, where that is ordered alike
pub insert-map : {X Y : Type 0} (f : X → Y) (R : X → X → Ordering) (S : Y → Y → Ordering) → ((a b : X) → S (f a) (f b) ≡ R a b) → (x : X) (xs : List X) → insert_by S (f x) (map f xs) ≡ map f (insert_by R x xs)
insert-map f R S alike x [] = refl
insert-map {X} {Y} f R S alike x (y ∷ ys) = by (R x y) refl (insert-map f R S alike x ys)
  where
    by : (r : Ordering) → R x y ≡ r → insert_by S (f x) (map f ys) ≡ map f (insert_by R x ys) → insert_by S (f x) (map f (y ∷ ys)) ≡ map f (insert_by R x (y ∷ ys))
    by Less e later = rw (alike x y, e) refl
    by Equal e later = rw (alike x y, e) refl
    by Greater e later = rw (alike x y, e) (ap (λ rest. f y ∷ rest) later)

-- numbers that ascend
all_less : (n : ℕ) (ns : List ℕ) → AllByRecursion (λ m. nat_cmp n m ≡ Less) ns → list_all (nat_lt n) ns ≡ true
all_less n [] all = refl
all_less n (m ∷ ns) all = and_from _ _ (lt-ltb n m (ranked n m Less (sym all.0))) (all_less n ns all.1)

ascends_from : (ns : List ℕ) → IsStrictlySortedBy nat_cmp ns → ascends ns ≡ true
unfolding IsStrictlySortedBy
ascends_from [] up = refl
ascends_from (n ∷ ns) up = and_from _ _ (all_less n ns up.0) (ascends_from ns up.1)

-- ---- a snapshot

-- what a date that is not refused keeps to
pub record IsFree (mapping : Mapping) (hashes : Hashes) (state : State) (date : ℕ) : Type 0 where
  pub not_future : future state date ≡ None
  pub not_taken : taken state date ≡ None
  pub not_full : snapshots_full mapping hashes state date ≡ None

pub is_free : (mapping : Mapping) (hashes : Hashes) (state : State) (date : ℕ) → snapshot_refusal mapping hashes state date ≡ None → IsFree mapping hashes state date
is_free mapping hashes state date none = search (rules, or_none)

-- tests that answer nothing have failed
pub if_none : {X : Type 0} (b : Bool) (x : X) → (if b then Some x else None) ≡ None → b ≡ false
if_none false x e = refl
if_none true x e = let no : Some x ≡ None = e in cc

pub room_left : (stored weight : ℕ) → full_with stored weight ≡ None → (weight ≤ most_snapshot_weight) × (stored < most_snapshots)
room_left stored weight none = let fails = if_none (nat_lt most_snapshot_weight weight || nat_le most_snapshots stored) _ none in grind (arith, common_steps, nat_tests, fails)

not_later_with : (last : Option ℕ) (date : ℕ) (dates : List ℕ) → later_than last date ≡ false → are_not_later last dates ≡ true → are_not_later last (insert_by nat_cmp date dates) ≡ true
not_later_with None date dates reached all = absurd (false≢true (sym reached))
not_later_with (Some last) date dates reached all = all-insert nat_cmp (λ d. nat_le d last) date dates (grind (arith, nat_tests, reached)) all

module _ (mapping : Mapping) (hashes : Hashes) (state : State) (date : ℕ) (valid : is_valid_state mapping hashes state ≡ true) (free : IsFree mapping hashes state date) where
  abbrev at : ℕ → Snap
  at = snapshot mapping hashes state.sealed

  abbrev weigh : ℕ → ℕ
  weigh d = (at d).head.weight

  record Parts : Type 0 where
    windows : are_windows_valid mapping hashes (all_windows state) ≡ true
    ascending : ascends state.dates ≡ true
    not_later : are_not_later (last_load state.sealed) state.dates ≡ true

  the_parts : Parts
  the_parts =
      let (windows, dates) = and_parts (are_windows_valid mapping hashes (all_windows state)) (are_dates_valid mapping hashes state) valid in
      let (abc, d) = and_parts _ _ dates in
      let (ab, c) = and_parts _ _ abc in
      let (a, b) = and_parts (ascends state.dates) (are_not_later (last_load state.sealed) state.dates) ab in
      record { windows = windows; ascending = a; not_later = b }

  sorted_dates : sorted_by nat_cmp state.dates ≡ state.dates
  sorted_dates = sorted_by-sorted nat_cmp state.dates (in_order state.dates the_parts.ascending)

  pub dates_are : (with_date date state).dates ≡ insert_by nat_cmp date state.dates
  dates_are = ap (insert_by nat_cmp date) sorted_dates

  few : length (insert_by nat_cmp date state.dates) ≤ most_snapshots
  few =
      let room = (room_left (length state.dates) (snapshots_weight mapping hashes state.sealed (state.dates ++ date ∷ [])) free.not_full).1 in
      let longer : length (sorted_by nat_cmp (date ∷ state.dates)) ≤ length (date ∷ state.dates) = length-sorted_by nat_cmp (date ∷ state.dates) in
      let same = ap length dates_are in
      omega (arith, room, longer, same)

  light : snapshots_weight mapping hashes state.sealed (insert_by nat_cmp date state.dates) ≤ most_snapshot_weight
  light =
      let room = (room_left (length state.dates) (snapshots_weight mapping hashes state.sealed (state.dates ++ date ∷ [])) free.not_full).0 in
      let put = sum-insert nat_cmp weigh date state.dates in
      let both = sum_by-append weigh state.dates (date ∷ []) in
      let one = sum_by-cons weigh date [] in
      omega (arith, room, put, both, one)

  dates_valid : are_dates_valid mapping hashes (with_date date state) ≡ true
  dates_valid =
      rw dates_are
      (and_from _ _ (and_from _ _ (and_from _ _
      (rw (sym dates_are) (ascends_from (sorted_by nat_cmp (date ∷ state.dates)) (ascending-sorted_by nat_cmp nat_cmp_total (date ∷ state.dates))))
      (not_later_with (last_load state.sealed) date state.dates (if_none (later_than (last_load state.sealed) date) _ free.not_future) the_parts.not_later))
      (le-leb _ _ few)) (le-leb _ _ light))

  -- the state with the date is valid
  pub with_date_valid : is_valid_state mapping hashes (with_date date state) ≡ true
  with_date_valid = and_from _ _ the_parts.windows dates_valid

module _ (mapping : Mapping) (hashes : Hashes) (state : State) (date : ℕ) (store : Store) (stands : Stands mapping hashes state store) (free : IsFree mapping hashes state date) where
  tables_kept : (begun : Option Window) → TablesStand mapping hashes state.sealed begun store → TablesStand mapping hashes state.sealed begun (with_snapshot (snapshot mapping hashes state.sealed date) store)
  tables_kept None tables = tables
  tables_kept (Some window) tables = tables

  pub snapshot_stands : Stands mapping hashes (with_date date state) (with_snapshot (snapshot mapping hashes state.sealed date) store)
  snapshot_stands = record {
    valid = with_date_valid mapping hashes state date stands.valid free;
    mapped = stands.mapped;
    windows = stands.windows;
    stage = stands.stage;
    tables_stand = tables_kept state.begun stands.tables_stand;
    snapshots = ap (insert_by snap_cmp (snapshot mapping hashes state.sealed date)) stands.snapshots
        ∙ insert-map (snapshot mapping hashes state.sealed) nat_cmp snap_cmp (λ a b. refl) date state.dates
        ∙ ap (map (snapshot mapping hashes state.sealed)) (sym (dates_are mapping hashes state date stands.valid free));
  }

  not_there : list_any (λ (other : Snap). other.head.date == date) store.snapshots ≡ false
  not_there =
      ap (list_any (λ (other : Snap). other.head.date == date)) stands.snapshots ∙ list_any-map (λ (other : Snap). other.head.date == date) (snapshot mapping hashes state.sealed) state.dates
      ∙ if_none (list_any (λ other. other == date) state.dates) _ free.not_taken

-- ---- the tables of a snapshot are apart

module _ (pit_at bridge_at : ℕ → SnapTable) (is_pit : (n : ℕ) → (pit_at n).id ≡ Pit n) (is_bridge : (n : ℕ) → (bridge_at n).id ≡ Bridge n) where
  no_pit : (n : ℕ) (ms : List ℕ) → list_any (λ (other : SnapTable). snap_id_eq other.id (Pit n)) (map bridge_at ms) ≡ false
  no_pit n [] = refl
  no_pit n (m ∷ ms) = rw (is_bridge m) (no_pit n ms)

  others : (id : ℕ → SnapId) (made : ℕ → SnapTable) → ((m n : ℕ) → snap_id_eq (made m).id (id n) ≡ (m == n)) → (n start len : ℕ) → n < start → list_any (λ (other : SnapTable). snap_id_eq other.id (id n)) (map made (range_with_len start len)) ≡ false
  others id made exact n start zero lt = refl
  others id made exact n start (suc len) lt =
      let later = others id made exact n (start + 1) len (omega (arith, lt)) in
      let differs : (start == n) ≡ false = grind (arith, nat_tests, lt) in
      rw (exact start n, differs) later

  bridges_apart : (start len : ℕ) → are_snap_tables_apart (map bridge_at (range_with_len start len)) ≡ true
  bridges_apart start zero = refl
  bridges_apart start (suc len) =
      let later = others Bridge bridge_at (λ m n. rw (is_bridge m) refl) start (start + 1) len (omega arith) in
      rw (is_bridge start, later) (bridges_apart (start + 1) len)

  pub tables_apart : (start len count : ℕ) → are_snap_tables_apart (map pit_at (range_with_len start len) ++ map bridge_at (range_with_len 0 count)) ≡ true
  tables_apart start zero count = bridges_apart 0 count
  tables_apart start (suc len) count =
      let later = others Pit pit_at (λ m n. rw (is_pit m) refl) start (start + 1) len (omega arith) in
      let none = no_pit start (range_with_len 0 count) in
      let both = list_any-append (λ (other : SnapTable). snap_id_eq other.id (Pit start)) (map pit_at (range_with_len (start + 1) len)) (map bridge_at (range_with_len 0 count)) in
      rw (is_pit start, both, later, none) (tables_apart (start + 1) len count)

-- ---- laws of snapshots

pub snapshot_stands_for : (mapping : Mapping) (hashes : Hashes) (state : State) (date : ℕ) (store : Store) → Stands mapping hashes state store → snapshot_refusal mapping hashes state date ≡ None
    → Stands mapping hashes (with_date date state) (with_snapshot (snapshot mapping hashes state.sealed date) store)
snapshot_stands_for mapping hashes state date store stands none = snapshot_stands mapping hashes state date store stands (is_free mapping hashes state date none)

pub snapshot_is_new : (mapping : Mapping) (hashes : Hashes) (state : State) (date : ℕ) (store : Store) → Stands mapping hashes state store → snapshot_refusal mapping hashes state date ≡ None
    → is_new_snapshot (snapshot mapping hashes state.sealed date) store.snapshots ≡ true
snapshot_is_new mapping hashes state date store stands none =
    and_from _ _ (ap not (not_there mapping hashes state date store stands (is_free mapping hashes state date none)))
    (tables_apart (λ hub. record { id = Pit hub; rows = Pits (pit mapping hashes state.sealed hub date) }) (λ path. record { id = Bridge path; rows = Bridges (bridge mapping hashes state.sealed path date) }) (λ n. refl) (λ n. refl) 0 (length mapping.hubs) (length mapping.paths))
