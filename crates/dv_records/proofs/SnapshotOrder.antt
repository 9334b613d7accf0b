-- A new snapshot that is put in its place by date leaves the snapshots in order.
use Rattle.dv_records.proofs.Vocabulary.{Bool, Equal, Greater, Less, List, Ordering, Snap, Store, [], and_from, and_parts, ap, are_apart, are_snap_tables_apart, are_snapshots_in_order, arith, eq-eqb, false, false≢true, have_kinds, insert, insert_by, is_new_snapshot, is_well_formed, le-leb}
use Rattle.dv_records.proofs.Vocabulary.{list_all, list_any, lt-leb, lt-ltb, ltb-true, nat_cmp, nat_le, nat_lt, not, not-true, or_parts, position_or_len, ranked, refl, snap_cmp, suc, sym, true, with_snapshot, ℕ, ◌&&◌, ◌+◌, ◌<◌, ◌==◌, ◌∙◌, ◌∷◌, ◌≡◌}

module _ {X : Type 0} (R : X → X → Ordering) where
  -- a test that passes of it and of the others passes of all
  pub all-insert : (p : X → Bool) (x : X) (ys : List X) → p x ≡ true → list_all p ys ≡ true → list_all p (insert_by R x ys) ≡ true
  all-insert p x [] h all = and_from _ _ h refl
  all-insert p x (y ∷ ys) h all = let (first, rest) = and_parts (p y) (list_all p ys) all in by (R x y) refl first rest (all-insert p x ys h rest)
    where
      by : (r : Ordering) → R x y ≡ r → p y ≡ true → list_all p ys ≡ true → list_all p (insert_by R x ys) ≡ true → list_all p (insert_by R x (y ∷ ys)) ≡ true
      by Less e first rest later = rw e (and_from _ _ h all)
      by Equal e first rest later = rw e (and_from _ _ h rest)
      by Greater e first rest later = rw e (and_from _ _ first later)

-- ---- the form of a store

less_later : (a b : ℕ) (snaps : List Snap) → a < b → list_all (λ (later : Snap). nat_lt b later.head.date) snaps ≡ true → list_all (λ (later : Snap). nat_lt a later.head.date) snaps ≡ true
less_later a b [] lt all = refl
less_later a b (snap ∷ snaps) lt all =
    let (first, rest) = and_parts (nat_lt b snap.head.date) (list_all (λ (later : Snap). nat_lt b later.head.date) snaps) all in
    let less = ltb-true b snap.head.date first in
    and_from _ _ (lt-ltb a snap.head.date (omega (arith, lt, less))) (less_later a b snaps lt rest)

in_order-insert : (snap : Snap) (snaps : List Snap) → are_snap_tables_apart snap.tables ≡ true → list_any (λ (other : Snap). other.head.date == snap.head.date) snaps ≡ false → are_snapshots_in_order snaps ≡ true
    → are_snapshots_in_order (insert_by snap_cmp snap snaps) ≡ true
in_order-insert snap [] apart none ordered = and_from _ _ (and_from _ _ refl apart) refl
in_order-insert snap (first ∷ snaps) apart none ordered =
    by (nat_cmp snap.head.date first.head.date) refl (in_order-insert snap snaps apart absent.1 parts.1)
  where
    date : ℕ
    date = snap.head.date

    parts : ((list_all (λ (later : Snap). nat_lt first.head.date later.head.date) snaps ≡ true) × (are_snap_tables_apart first.tables ≡ true)) × (are_snapshots_in_order snaps ≡ true)
    parts =
        let (both, rest) = and_parts (list_all (λ (later : Snap). nat_lt first.head.date later.head.date) snaps && are_snap_tables_apart first.tables) (are_snapshots_in_order snaps) ordered in
        (and_parts (list_all (λ (later : Snap). nat_lt first.head.date later.head.date) snaps) (are_snap_tables_apart first.tables) both, rest)

    absent : ((first.head.date == date) ≡ false) × (list_any (λ (other : Snap). other.head.date == date) snaps ≡ false)
    absent = or_parts (first.head.date == date) (list_any (λ (other : Snap). other.head.date == date) snaps) none

    by : (r : Ordering) → nat_cmp date first.head.date ≡ r → are_snapshots_in_order (insert_by snap_cmp snap snaps) ≡ true → are_snapshots_in_order (insert_by snap_cmp snap (first ∷ snaps)) ≡ true
    by Less e later =
        let lt = ranked date first.head.date Less (sym e) in
        rw e (and_from _ _ (and_from _ _ (and_from _ _ (lt-ltb date first.head.date lt) (less_later date first.head.date snaps lt parts.0.0)) apart) ordered)
    by Equal e later =
        let same = ranked date first.head.date Equal (sym e) in
        absurd (false≢true (sym absent.0 ∙ eq-eqb first.head.date date (sym same)))
    by Greater e later =
        let gt = ranked date first.head.date Greater (sym e) in
        rw e (and_from _ _ (and_from _ _
        (all-insert snap_cmp (λ (later : Snap). nat_lt first.head.date later.head.date) snap snaps (lt-ltb first.head.date date gt) parts.0.0) parts.0.1) later)

pub keeps_form : (snap : Snap) (store : Store) → is_well_formed store ≡ true → is_new_snapshot snap store.snapshots ≡ true → is_well_formed (with_snapshot snap store) ≡ true
keeps_form snap store formed new =
    let (tables, ordered) = and_parts (are_apart store.tables && have_kinds store.tables) (are_snapshots_in_order store.snapshots) formed in
    let (absent, apart) = and_parts (not (list_any (λ other. other.head.date == snap.head.date) store.snapshots)) (are_snap_tables_apart snap.tables) new in
    and_from _ _ tables (in_order-insert snap store.snapshots apart (not-true (list_any (λ other. other.head.date == snap.head.date) store.snapshots) absent) ordered)

-- ---- the place of a new snapshot

one_more : (n : ℕ) → 1 + n ≡ suc n
one_more n = omega arith

module _ {X : Type 0} (date_of : X → ℕ) where
  abbrev by_date : X → X → Ordering
  by_date a b = nat_cmp (date_of a) (date_of b)

  -- an item that is put before the first whose date is not earlier is put in its place, where none has its date
  pub in_place : (item : X) (items : List X) → list_any (λ other. date_of other == date_of item) items ≡ false
      → insert items (position_or_len (λ other. nat_le (date_of item) (date_of other)) items) item ≡ insert_by by_date item items
  in_place item [] none = refl
  in_place item (first ∷ items) none = by (nat_cmp date (date_of first)) refl (in_place item items absent.1)
    where
      date : ℕ
      date = date_of item

      absent : ((date_of first == date) ≡ false) × (list_any (λ other. date_of other == date) items ≡ false)
      absent = or_parts (date_of first == date) (list_any (λ other. date_of other == date) items) none

      by : (r : Ordering) → nat_cmp date (date_of first) ≡ r → insert items (position_or_len (λ other. nat_le date (date_of other)) items) item ≡ insert_by by_date item items
          → insert (first ∷ items) (position_or_len (λ other. nat_le date (date_of other)) (first ∷ items)) item ≡ insert_by by_date item (first ∷ items)
      by Less e later =
          let lt = ranked date (date_of first) Less (sym e) in
          let here : nat_le date (date_of first) ≡ true = le-leb date (date_of first) (omega (arith, lt)) in
          rw (here, e) refl
      by Equal e later =
          let same = ranked date (date_of first) Equal (sym e) in
          absurd (false≢true (sym absent.0 ∙ eq-eqb (date_of first) date (sym same)))
      by Greater e later =
          let gt = ranked date (date_of first) Greater (sym e) in
          let behind : nat_le date (date_of first) ≡ false = lt-leb date (date_of first) gt in
          rw (behind, e) (ap (λ k. insert (first ∷ items) k item) (one_more (position_or_len (λ other. nat_le date (date_of other)) items)) ∙ ap (λ rest. first ∷ rest) later)
