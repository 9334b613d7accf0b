-- Tables and their batches, one table after the other.
use Rattle.dv_vault.proofs.Vocabulary.{AllZip, Bool, Contains, Contains-get_or, Follow, List, Rows, Table, TableId, TableRows, [], and_parts, ap, append-nil, append_assoc, appended_to, are_apart, arith, drop, entries_with, entry_of, false, false≢true, get_or, get_or-map, has_table, if◌then◌else◌}
use Rattle.dv_vault.proofs.Vocabulary.{is_of_kind, length, length-map, list_any, map, map-append, nil_from_length, no_rows, none_passes, not, not-true, refl, row_count, rows_in, rows_then, same_answer, same_table, slice_set, spare_of, subst, suc, sym, table_eq, table_eq-itself, take, take_more}
use Rattle.dv_vault.proofs.Vocabulary.{take_more_set, true, zero, ℕ, ◌++◌, ◌+◌, ◌<◌, ◌∙◌, ◌∷◌, ◌≡◌, ◌≤◌}
use Rattle.dv_catalog.specs.declared.tables.TableId.TheVariants as ids
use Rattle.dv_records.specs.declared.stores.Rows.TheVariants as of

-- ---- kinds

-- the rows of a table, and a batch, are of its kind
pub record IsOfKind (entry : TableRows) (batch : Rows) : Type 0 where
  pub rows : is_of_kind entry.table entry.rows ≡ true
  pub more : is_of_kind entry.table batch ≡ true

-- one batch for each table, of its kind
abbrev pub AreOfKinds : List TableRows → List Rows → Type 0
AreOfKinds entries batches = AllZip IsOfKind entries batches

-- ---- pairs

pub pairs_push : {A B : Type 0} (R : A → B → Type 0) (xs : List A) (ys : List B) (x : A) (y : B) → AllZip R xs ys → R x y → AllZip R (xs ++ x ∷ []) (ys ++ y ∷ [])
pairs_push R [] [] x y all r = (r, tt)
pairs_push R [] (b ∷ ys) x y all r = absurd all
pairs_push R (a ∷ xs) [] x y all r = absurd all
pairs_push R (a ∷ xs) (b ∷ ys) x y all r = (all.0, pairs_push R xs ys x y all.1 r)

pub pairs_more : {A B : Type 0} (R : A → B → Type 0) (xs : List A) (ys : List B) (i : ℕ) (x : A) (y : B) → i < length xs → i < length ys → get_or ys i y ≡ y → R x y
    → AllZip R (take i xs) (take i ys) → AllZip R (take (i + 1) (slice_set xs i x)) (take (i + 1) ys)
pairs_more R xs ys i x y h k is r all =
    let more : take (i + 1) ys ≡ take i ys ++ y ∷ [] = take_more ys i y k ∙ ap (λ z. take i ys ++ z ∷ []) is in
    rw (take_more_set xs i x h, more) (pairs_push R (take i xs) (take i ys) x y all r)

pub pair_at : {A B : Type 0} (R : A → B → Type 0) (xs : List A) (ys : List B) (i : ℕ) (x : A) (y : B) → AllZip R xs ys → i < length xs → get_or xs i x ≡ x → get_or ys i y ≡ y → R x y
pair_at R [] ys i x y all h at is = absurd (omega (arith, h))
pair_at R (a ∷ xs) [] i x y all h at is = absurd all
pair_at R (a ∷ xs) (b ∷ ys) zero x y all h at is = subst (λ b. R x b) is (subst (λ a. R a b) at all.0)
pair_at R (a ∷ xs) (b ∷ ys) (suc i) x y all h at is = pair_at R xs ys i x y all.1 (omega (arith, h)) at is

-- ---- batches that are put behind the rows of tables

-- the batches that are left fit the tables from a place on, and with those before them the tables are as they should be
pub record IsUnder (first : List Table) (all : List Rows) (now : List Table) (i : ℕ) (left : List Rows) (count : ℕ) : Type 0 where
  pub counted : count ≡ length left
  pub room : AllZip (λ table rows. row_count rows ≤ spare_of table) (drop i now) left
  pub follow : AllZip Follow (map (λ table. (entry_of table).rows) (drop i now)) left
  pub result : map entry_of (take i now) ++ entries_with (map entry_of (drop i now)) left ≡ entries_with (map entry_of first) all

moved : (before : List Table) (table : Table) (rest : List TableRows) → map entry_of (before ++ table ∷ []) ++ rest ≡ map entry_of before ++ entry_of table ∷ rest
moved before table rest = ap (λ l. l ++ rest) (map-append entry_of before (table ∷ [])) ∙ append_assoc (map entry_of before) (entry_of table ∷ []) rest

module _ (first : List Table) (all : List Rows) (now : List Table) (i : ℕ) (left : List Rows) (count : ℕ) (is : IsUnder first all now i left count) where
  -- what holds of a table and its batch
  pub record Turn (table : Table) (rows : Rows) (left' : List Rows) (count' : ℕ) : Type 0 where
    pub room : row_count rows ≤ spare_of table
    pub follow : Follow (entry_of table).rows rows
    pub next : (table' : Table) → entry_of table' ≡ record { table = (entry_of table).table; rows = rows_then (entry_of table).rows rows } → IsUnder first all (slice_set now i table') (i + 1) left' count'

-- ---- batches that are put into a store

-- no rows behind others
pub nothing_then : (table : TableId) (a b : Rows) → is_of_kind table a ≡ true → is_of_kind table b ≡ true → row_count b ≡ 0 → rows_then a b ≡ a
nothing_then (ids.Hub n) (of.Hubs a) (of.Hubs b) k l e = ap of.Hubs (ap (λ b. a ++ b) (nil_from_length b e) ∙ append-nil a)
nothing_then (ids.Link n) (of.Links a) (of.Links b) k l e = ap of.Links (ap (λ b. a ++ b) (nil_from_length b e) ∙ append-nil a)
nothing_then (ids.Sat n) (of.Sats a) (of.Sats b) k l e = ap of.Sats (ap (λ b. a ++ b) (nil_from_length b e) ∙ append-nil a)
nothing_then (ids.Multi n) (of.Multis a) (of.Multis b) k l e = ap of.Multis (ap (λ b. a ++ b) (nil_from_length b e) ∙ append-nil a)
nothing_then (ids.Status n) (of.Statuses a) (of.Statuses b) k l e = ap of.Statuses (ap (λ b. a ++ b) (nil_from_length b e) ∙ append-nil a)
nothing_then (ids.Effect n) (of.Effects a) (of.Effects b) k l e = ap of.Effects (ap (λ b. a ++ b) (nil_from_length b e) ∙ append-nil a)
nothing_then table a b k l e = cc

-- rows behind none
pub then_nothing : (table : TableId) (b : Rows) → is_of_kind table b ≡ true → rows_then (no_rows table) b ≡ b
then_nothing (ids.Hub n) (of.Hubs b) k = refl
then_nothing (ids.Link n) (of.Links b) k = refl
then_nothing (ids.Sat n) (of.Sats b) k = refl
then_nothing (ids.Multi n) (of.Multis b) k = refl
then_nothing (ids.Status n) (of.Statuses b) k = refl
then_nothing (ids.Effect n) (of.Effects b) k = refl
then_nothing table b k = cc

-- the rows of each table after rows are put behind those of one
rows_appended : (id table : TableId) (rows : Rows) → is_of_kind table rows ≡ true → (entries : List TableRows)
    → rows_in id (appended_to table rows entries) ≡ (if table_eq table id then rows_then (rows_in table entries) rows else rows_in id entries)
rows_appended id table rows kind [] = by (table_eq table id)
  where
    by : (b : Bool) → (if b then rows else no_rows id) ≡ (if b then rows_then (no_rows table) rows else no_rows id)
    by true = sym (then_nothing table rows kind)
    by false = refl
rows_appended id table rows kind (entry ∷ entries) =
    got (table_eq entry.table table)
    ∙ by (table_eq entry.table table) (table_eq entry.table id) (table_eq table id) refl refl refl (rows_appended id table rows kind entries)
  where
    got : (here : Bool) → rows_in id (if here then record entry { rows = rows_then entry.rows rows } ∷ entries else entry ∷ appended_to table rows entries)
        ≡ (if here then (if table_eq entry.table id then rows_then entry.rows rows else rows_in id entries) else (if table_eq entry.table id then entry.rows else rows_in id (appended_to table rows entries)))
    got true = refl
    got false = refl

    clash : (b : Bool) → b ≡ true → b ≡ false → ⊥
    clash b x y = cc

    by : (here its same : Bool) → table_eq entry.table table ≡ here → table_eq entry.table id ≡ its → table_eq table id ≡ same
        → rows_in id (appended_to table rows entries) ≡ (if same then rows_then (rows_in table entries) rows else rows_in id entries)
        → (if here then (if its then rows_then entry.rows rows else rows_in id entries) else (if its then entry.rows else rows_in id (appended_to table rows entries)))
        ≡ (if same then rows_then (if here then entry.rows else rows_in table entries) rows else (if its then entry.rows else rows_in id entries))
    by true true true h i s later = refl
    by true false false h i s later = refl
    by true true false h i s later = absurd (clash (table_eq table id) (sym (ap (λ t. table_eq t id) (same_table entry.table table h)) ∙ i) s)
    by true false true h i s later = absurd (clash (table_eq entry.table id) (ap (λ t. table_eq t id) (same_table entry.table table h) ∙ s) i)
    by false true true h i s later = absurd (clash (table_eq entry.table table) (ap (λ t. table_eq t table) (same_table entry.table id i ∙ sym (same_table table id s)) ∙ table_eq-itself table) h)
    by false true false h i s later = refl
    by false false true h i s later = later
    by false false false h i s later = later

pub rows_stay : (id table : TableId) (rows : Rows) → is_of_kind table rows ≡ true → (a b : List TableRows) → rows_in table a ≡ rows_in table b → rows_in id a ≡ rows_in id b
    → rows_in id (appended_to table rows a) ≡ rows_in id (appended_to table rows b)
rows_stay id table rows kind a b there same =
    rows_appended id table rows kind a
    ∙ ap (λ l. if table_eq table id then rows_then l rows else rows_in id a) there
    ∙ ap (λ l. if table_eq table id then rows_then (rows_in table b) rows else l) same
    ∙ sym (rows_appended id table rows kind b)

-- the rows of the other tables stay
pub others_stay : (id table : TableId) (rows : Rows) → is_of_kind table rows ≡ true → table_eq table id ≡ false → (a : List TableRows) → rows_in id (appended_to table rows a) ≡ rows_in id a
others_stay id table rows kind other a = rows_appended id table rows kind a ∙ ap (λ b. if b then rows_then (rows_in table a) rows else rows_in id a) other

pub no_more : (entries : List TableRows) → entries_with entries [] ≡ entries
no_more [] = refl
no_more (entry ∷ entries) = refl

-- a table behind the first one is another
another : (table : TableId) (entries : List TableRows) (i : ℕ) (entry : TableRows) → list_any (λ other. table_eq other.table table) entries ≡ false → i < length entries → get_or entries i entry ≡ entry
    → table_eq entry.table table ≡ false
another table entries i entry none h at = none_passes (λ (other : TableRows). table_eq other.table table) entries entry none (subst (Contains entries) at (Contains-get_or entries i entry h))

-- the tables are apart, so the first with a name is at its place
pub record AtPlace (entries : List TableRows) (batches : List Rows) (i : ℕ) (entry : TableRows) (rows : Rows) : Type 0 where
  pub among : has_table entry.table entries ≡ true
  pub found : rows_in entry.table (entries_with entries (take i batches)) ≡ entry.rows
  pub appended : appended_to entry.table rows (entries_with entries (take i batches)) ≡ entries_with entries (take (suc i) batches)
  pub passed : rows_then entry.rows rows ≡ entry.rows → entries_with entries (take (suc i) batches) ≡ entries_with entries (take i batches)

pub at_place : (entries : List TableRows) (batches : List Rows) (i : ℕ) (entry : TableRows) (rows : Rows) → are_apart entries ≡ true → i < length entries → get_or entries i entry ≡ entry
    → i < length batches → get_or batches i rows ≡ rows → AtPlace entries batches i entry rows
at_place [] batches i entry rows apart h at k is = absurd (omega (arith, h))
at_place (first ∷ entries) [] i entry rows apart h at k is = absurd (omega (arith, k))
at_place (first ∷ entries) (batch ∷ batches) zero entry rows apart h at k is =
    rw (← at, ← is)
    (record {
      among = rw (table_eq-itself first.table) refl;
      found = rw (table_eq-itself first.table) refl;
      appended = rw (table_eq-itself first.table) (ap (λ l. record { table = first.table; rows = rows_then first.rows batch } ∷ l) (sym (no_more entries)));
      passed = λ same. ap (λ rows. record { table = first.table; rows = rows } ∷ entries_with entries []) same ∙ ap (λ l. first ∷ l) (no_more entries);
    })
at_place (first ∷ entries) (batch ∷ batches) (suc i) entry rows apart h at k is =
    let (alone, rest) = and_parts (not (list_any (λ other. table_eq other.table first.table) entries)) (are_apart entries) apart in
    let under : i < length entries = omega (arith, h) in
    let other : table_eq first.table entry.table ≡ false =
    same_answer _ false (λ t. sym (another first.table entries i entry (not-true _ alone) under at) ∙ ap (λ t. table_eq t first.table) (sym (same_table first.table entry.table t)) ∙ table_eq-itself first.table)
    (λ no. absurd (false≢true no)) in
    let behind = at_place entries batches i entry rows rest under at (omega (arith, k)) is in
    record {
      among = rw other behind.among;
      found = rw other behind.found;
      appended = rw other (ap (λ l. record { table = first.table; rows = rows_then first.rows batch } ∷ l) behind.appended);
      passed = λ same. ap (λ l. record { table = first.table; rows = rows_then first.rows batch } ∷ l) (behind.passed same);
    }

-- the entry at the place of a table
pub entry_here : (tables : List Table) (i : ℕ) (table : Table) → i < length tables → table ≡ get_or tables i table → (i < length (map entry_of tables)) × (get_or (map entry_of tables) i (entry_of table) ≡ entry_of table)
entry_here tables i table under is = (omega (arith, under, length-map tables entry_of), get_or-map entry_of tables i table ∙ ap entry_of (sym is))
