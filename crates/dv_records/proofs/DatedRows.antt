-- Rows in the order of their load dates, and of their batch within one date: what is true of the tables of satellites and of
-- status tables.
use Rattle.dv_records.proofs.Vocabulary.{All, All-contains_itself, All-weaker, AllByRecursion, AreNewestFirst, Bool, Contains, Contains-append_cases, Contains-cons_here, Contains-cons_there, Contains-nil, Extract, IsStrictlySortedBy, Less, List, Option, Ordering, Place, Some, [], all_pass}
use Rattle.dv_records.proofs.Vocabulary.{and_from, append-nil, appended, are_in_load_order, arith, ascending-append, ascending-same, batch_of, common_steps, eq-eqb, eqb-true, equal_first, false, false≢true, filter_map, filter_map_member, find, find_same, get_or-map, get_or_from_slice_get}
use Rattle.dv_records.proofs.Vocabulary.{got_member, if◌then◌else◌, inl, inr, le-leb, le_from_cmp, leb-true, length, less_first, list_all, list_any, loads_rise, member_before_sort, member_of_all, nat_cmp, nat_le, nat_tests, ordering_then, passes_at, refl, reverse, reverse_member, rules}
use Rattle.dv_records.proofs.Vocabulary.{same_answer, slice_get, some_passes, some_passes_at, subst, sym, true, ℕ, ◌&&◌, ◌++◌, ◌-◌, ◌<◌, ◌==◌, ◌∙◌, ◌∷◌, ◌≡◌, ◌≤◌}
use Rattle.dv_records.proofs.Reversing.{AllBefore, IsNewestFirst}

-- ---- rows whose load dates do not fall

module _ {X : Type 0} (place : X → Place) where
  -- no row is later than the last one
  pub up_to_last : (rows : List X) (last : X) → are_in_load_order place rows ≡ true → slice_get rows (length rows - 1) ≡ Some last → (x : X) → Contains rows x → (place x).load ≤ (place last).load
  up_to_last rows last order is x (k, under, there) =
      let end : length rows - 1 < length rows = omega (arith, under) in
      let rise = loads_rise place rows order k (length rows - 1) (omega (arith, under)) end in
      rw (get_or-map (λ row. (place row).load) rows k x 0 under, there, get_or-map (λ row. (place row).load) rows (length rows - 1) last 0 end, get_or_from_slice_get rows (length rows - 1) last last is) at rise

-- ---- rows by load date, then by the order of a batch

abbrev pub dated : {X : Type 0} → (X → ℕ) → (X → X → Ordering) → X → X → Ordering
dated load cmp a b = ordering_then (nat_cmp (load a) (load b)) (cmp a b)

-- their load dates do not fall
module _ {X : Type 0} (place : X → Place) (cmp : X → X → Ordering) where
  none_earlier : (row : X) (rows : List X) → AllByRecursion (λ other. dated (λ row. (place row).load) cmp row other ≡ Less) rows → list_all (λ other. nat_le (place row).load (place other).load) rows ≡ true
  none_earlier row rows all = all_pass _ rows (λ other has. le-leb (place row).load (place other).load (le_from_cmp (place row).load (place other).load (cmp row other) (member_of_all _ rows other all has)))

  pub in_load_order : (rows : List X) → IsStrictlySortedBy (dated (λ row. (place row).load) cmp) rows → are_in_load_order place rows ≡ true
  unfolding IsStrictlySortedBy
  in_load_order [] up = refl
  in_load_order (row ∷ rows) up = and_from _ _ (none_earlier row rows up.0) (in_load_order rows up.1)

strictly : (a b : ℕ) → a ≤ b → (a ≡ b → ⊥) → a < b
strictly a b le differs = omega (arith, differs)

with_true : (a b : Bool) → b ≡ true → (a && b) ≡ a
with_true a b h1 = search (rules)

module _ {X : Type 0} (load : X → ℕ) (cmp : X → X → Ordering) where
  -- no row is later than a date
  pub all_up_to : (rows : List X) (date : ℕ) (row : X) → list_all (λ row. nat_le (load row) date) rows ≡ true → Contains rows row → load row ≤ date
  all_up_to rows date row e has = leb-true (load row) date (passes_at (λ row. nat_le (load row) date) rows row e has)

  -- no row is later than the last one
  last_is_latest : (rows : List X) (last : X) → IsStrictlySortedBy (dated load cmp) rows → slice_get rows (length rows - 1) ≡ Some last → (row : X) → Contains rows row → load row ≤ load last
  last_is_latest rows last up = let place : X → Place = λ row. record { parent = []; load = load row } in up_to_last place rows last (in_load_order place cmp rows up)

  -- where no row is later than a date, a row has it where the last one has
  pub last_load : (rows : List X) (last : X) (date : ℕ) → IsStrictlySortedBy (dated load cmp) rows → list_all (λ row. nat_le (load row) date) rows ≡ true → slice_get rows (length rows - 1) ≡ Some last
      → (load last == date) ≡ list_any (λ row. load row == date) rows
  last_load rows last date up early e =
      let last_in = got_member rows (length rows - 1) last e in
      same_answer (load last == date) (list_any (λ row. load row == date) rows) (some_passes_at (λ row. load row == date) rows last last_in) (λ has.
      let (row, member, same) = some_passes (λ row. load row == date) rows has in
      eq-eqb (load last) date (omega (arith, eqb-true (load row) date same, last_is_latest rows last up e row member, all_up_to rows date last early last_in)))

  -- a test of rows that are up to the last one's date is a test of rows
  pub found_up_to_last : (p : X → Bool) (rows : List X) (last : X) → IsStrictlySortedBy (dated load cmp) rows → slice_get rows (length rows - 1) ≡ Some last
      → find (λ row. p row && nat_le (load row) (load last)) (reverse rows) ≡ find p (reverse rows)
  found_up_to_last p rows last up e =
      find_same (λ row. p row && nat_le (load row) (load last)) p (reverse rows)
      (λ row has. with_true (p row) (nat_le (load row) (load last)) (le-leb (load row) (load last) (last_is_latest rows last up e row ((reverse_member rows row).0 has))))

  -- ---- rows that are put behind others

  -- rows of one load date in the order of a batch
  pub ascends : (date : ℕ) (rows : List X) → ((row : X) → Contains rows row → load row ≡ date) → IsStrictlySortedBy cmp rows → IsStrictlySortedBy (dated load cmp) rows
  ascends date rows stamped up = search (rules, ascending-same, equal_first)

  -- behind rows that are earlier
  pub follows : (date : ℕ) (rows more : List X) → IsStrictlySortedBy (dated load cmp) rows → list_all (λ row. nat_le (load row) date) rows ≡ true → list_any (λ row. load row == date) rows ≡ false
      → ((row : X) → Contains more row → load row ≡ date) → IsStrictlySortedBy cmp more → IsStrictlySortedBy (dated load cmp) (rows ++ more)
  follows date rows more up early none stamped vp =
      ascending-append (dated load cmp) rows more up (ascends date more stamped vp) (λ x y x_in y_in.
      let new : load y ≡ date = stamped y y_in in
      let reach : load x ≤ date = all_up_to rows date x early x_in in
      less_first (load x) (load y) (cmp x y) (rw new (earlier x x_in reach (load x == date) refl)))
    where
      earlier : (x : X) → Contains rows x → load x ≤ date → (b : Bool) → (load x == date) ≡ b → load x < date
      earlier x member reach true t = absurd (false≢true (sym none ∙ some_passes_at (λ row. load row == date) rows x member t))
      earlier x member reach false f = strictly (load x) date reach (λ same. false≢true (sym f ∙ eq-eqb (load x) date same))

-- ---- what an extract adds

-- rows of one load date in the order of a batch; nothing where a row has the load date already
module _ {X : Type 0} (load : X → ℕ) (cmp : X → X → Ordering) (date : ℕ) (rows made : List X) (stamped : (row : X) → Contains made row → load row ≡ date) where
  abbrev delta : List X
  delta = if list_any (λ row. load row == date) rows then [] else made

  has_its_load : (row : X) → Contains delta row → load row ≡ date
  has_its_load row has = search (rules, Contains-nil)

  -- all rows have the load date
  pub delta_stamped : All (λ row. load row ≡ date) delta
  delta_stamped = All-weaker (Contains delta) (λ row. load row ≡ date) (λ row has. has_its_load row has) delta (All-contains_itself delta)

  -- and stand behind those that are there
  pub delta_follows : IsStrictlySortedBy cmp made → IsStrictlySortedBy (dated load cmp) rows → list_all (λ row. nat_le (load row) date) rows ≡ true → IsStrictlySortedBy (dated load cmp) (rows ++ delta)
  delta_follows ordered up early = search (rules, append-nil, follows)

-- the rows of a batch have the load date that each of them is given
pub batch_stamped : {T X : Type 0} (load : X → ℕ) (cmp : X → X → Ordering) (change : T → Option X) (date : ℕ) → ((t : T) (x : X) → change t ≡ Some x → load x ≡ date) → (things : List T) (row : X)
    → Contains (batch_of cmp change things) row → load row ≡ date
batch_stamped load cmp change date stamped things row has = grind (arith, common_steps, filter_map_member change things row (member_before_sort cmp (filter_map change things) row has), member_before_sort cmp (filter_map change things) row has)

-- ---- tables of extracts

all_before : (date : ℕ) (extracts : List Extract) → AllByRecursion (λ (extract : Extract). nat_cmp extract.load date ≡ Less) extracts → AllBefore (λ (extract : Extract). extract.load) date extracts
all_before date [] all extract has = Contains-nil extract has
all_before date (first ∷ rest) all extract has = grind (arith, common_steps, nat_tests)

pub newest_first : (extracts : List Extract) → AreNewestFirst extracts → IsNewestFirst (λ (extract : Extract). extract.load) extracts
unfolding IsStrictlySortedBy
newest_first [] order = tt
newest_first (newest ∷ older) order = (all_before newest.load older order.0, newest_first older order.1)

-- where the rows of a batch have their extract's load date
module _ {X : Type 0} (load : X → ℕ) (batch : List Extract → Extract → List X) (stamped : (older : List Extract) (newest : Extract) (row : X) → Contains (batch older newest) row → load row ≡ newest.load) where
  -- a row of the table has that of one of the extracts
  table_before : (date : ℕ) (extracts : List Extract) → AllBefore (λ (extract : Extract). extract.load) date extracts → (row : X) → Contains (appended batch extracts) row → load row < date
  table_before date [] before row has = Contains-nil row has
  table_before date (newest ∷ older) before row has =
      elim (Contains-append_cases (appended batch older) (batch older newest) row has) [
        | inl early ↦ table_before date older (λ extract member. before extract (Contains-cons_there newest older extract member)) row early
        | inr late ↦ subst (λ at. at < date) (sym (stamped older newest row late)) (before newest (Contains-cons_here newest older))
      ]

  -- so no row of the table of older extracts has the load date of the newest one
  pub none_loaded : (older : List Extract) (newest : Extract) → AreNewestFirst (newest ∷ older) → list_any (λ row. load row == newest.load) (appended batch older) ≡ false
  none_loaded older newest order = by (list_any (λ row. load row == newest.load) (appended batch older)) refl
    where
      by : (b : Bool) → list_any (λ row. load row == newest.load) (appended batch older) ≡ b → list_any (λ row. load row == newest.load) (appended batch older) ≡ false
      by false e = e
      by true e =
          let (row, member, same) = some_passes (λ row. load row == newest.load) (appended batch older) e in
          let at : load row ≡ newest.load = eqb-true (load row) newest.load same in
          let early = table_before newest.load older (newest_first (newest ∷ older) order).0 row member in
          absurd (omega (arith, at, early))

  -- nor is one later than it
  pub none_later : (older : List Extract) (newest : Extract) → AreNewestFirst (newest ∷ older) → list_all (λ row. nat_le (load row) newest.load) (appended batch older) ≡ true
  none_later older newest order =
      all_pass (λ row. nat_le (load row) newest.load) (appended batch older)
      (λ row member. le-leb (load row) newest.load (omega (arith, table_before newest.load older (newest_first (newest ∷ older) order).0 row member)))
