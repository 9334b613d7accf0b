-- The parts of a window: what tables have with them, and after some first tables have got what they lacked.
use Rattle.dv_vault.proofs.Vocabulary.{ArePartsOf, Begun, Fits, FollowAll, IsLeftOf, List, Part, RawVault, Rows, TableId, TableRows, Window, [], ap, append-nil, append_assoc, arith, entries_with, get_or, is_of_kind, is_window, last_sealed, late_after, length, length-append, map, nil_from_length}
use Rattle.dv_vault.proofs.Vocabulary.{no_rows, none_like, opened_in, refl, rest_in, row_count, rows_then, slice_set, subst, suc, sym, tables_there, tables_weight, tables_whole, take, taken_first, taken_part, true, whole_in, whole_part, zero, ℕ, ◌+◌, ◌<◌, ◌∙◌, ◌∷◌, ◌≡◌, ◌≤◌}
use Rattle.dv_vault.proofs.BatchSteps.{AreOfKinds}
use Rattle.dv_catalog.specs.declared.tables.TableId.TheVariants as ids
use Rattle.dv_records.specs.declared.stores.Rows.TheVariants as of

-- ---- rows

-- no rows behind others, and others behind none
pub then_none : (rows like : Rows) → rows_then rows (none_like like) ≡ rows
then_none (of.Hubs a) (of.Hubs b) = ap of.Hubs (append-nil a)
then_none (of.Links a) (of.Links b) = ap of.Links (append-nil a)
then_none (of.Sats a) (of.Sats b) = ap of.Sats (append-nil a)
then_none (of.Multis a) (of.Multis b) = ap of.Multis (append-nil a)
then_none (of.Statuses a) (of.Statuses b) = ap of.Statuses (append-nil a)
then_none (of.Effects a) (of.Effects b) = ap of.Effects (append-nil a)
then_none (of.Pits a) (of.Pits b) = ap of.Pits (append-nil a)
then_none (of.Bridges a) (of.Bridges b) = ap of.Bridges (append-nil a)
then_none a b = refl

pub none_then : (rows : Rows) → rows_then (none_like rows) rows ≡ rows
none_then (of.Hubs a) = refl
none_then (of.Links a) = refl
none_then (of.Sats a) = refl
none_then (of.Multis a) = refl
none_then (of.Statuses a) = refl
none_then (of.Effects a) = refl
none_then (of.Pits a) = refl
none_then (of.Bridges a) = refl

pub none_like_none : (rows : Rows) → none_like (none_like rows) ≡ none_like rows
none_like_none (of.Hubs a) = refl
none_like_none (of.Links a) = refl
none_like_none (of.Sats a) = refl
none_like_none (of.Multis a) = refl
none_like_none (of.Statuses a) = refl
none_like_none (of.Effects a) = refl
none_like_none (of.Pits a) = refl
none_like_none (of.Bridges a) = refl

-- no rows of a kind are those of the table
pub none_is : (table : TableId) (rows : Rows) → is_of_kind table rows ≡ true → none_like rows ≡ no_rows table
none_is (ids.Hub n) (of.Hubs a) k = refl
none_is (ids.Link n) (of.Links a) k = refl
none_is (ids.Sat n) (of.Sats a) k = refl
none_is (ids.Multi n) (of.Multis a) k = refl
none_is (ids.Status n) (of.Statuses a) k = refl
none_is (ids.Effect n) (of.Effects a) k = refl
none_is table rows k = cc

-- rows of which there are none
pub none_counted : (table : TableId) (rows : Rows) → is_of_kind table rows ≡ true → row_count rows ≡ 0 → rows ≡ no_rows table
none_counted (ids.Hub n) (of.Hubs a) k e = ap of.Hubs (nil_from_length a e)
none_counted (ids.Link n) (of.Links a) k e = ap of.Links (nil_from_length a e)
none_counted (ids.Sat n) (of.Sats a) k e = ap of.Sats (nil_from_length a e)
none_counted (ids.Multi n) (of.Multis a) k e = ap of.Multis (nil_from_length a e)
none_counted (ids.Status n) (of.Statuses a) k e = ap of.Statuses (nil_from_length a e)
none_counted (ids.Effect n) (of.Effects a) k e = ap of.Effects (nil_from_length a e)
none_counted table rows k e = cc

pub none_of_kind : (table : TableId) (rows : Rows) → is_of_kind table rows ≡ true → is_of_kind table (none_like rows) ≡ true
none_of_kind (ids.Hub n) (of.Hubs a) k = refl
none_of_kind (ids.Link n) (of.Links a) k = refl
none_of_kind (ids.Sat n) (of.Sats a) k = refl
none_of_kind (ids.Multi n) (of.Multis a) k = refl
none_of_kind (ids.Status n) (of.Statuses a) k = refl
none_of_kind (ids.Effect n) (of.Effects a) k = refl
none_of_kind table rows k = cc

pub then_of_kind : (table : TableId) (a b : Rows) → is_of_kind table a ≡ true → is_of_kind table b ≡ true → is_of_kind table (rows_then a b) ≡ true
then_of_kind (ids.Hub n) (of.Hubs a) (of.Hubs b) k l = refl
then_of_kind (ids.Link n) (of.Links a) (of.Links b) k l = refl
then_of_kind (ids.Sat n) (of.Sats a) (of.Sats b) k l = refl
then_of_kind (ids.Multi n) (of.Multis a) (of.Multis b) k l = refl
then_of_kind (ids.Status n) (of.Statuses a) (of.Statuses b) k l = refl
then_of_kind (ids.Effect n) (of.Effects a) (of.Effects b) k l = refl
then_of_kind table a b k l = cc

-- rows behind others that stand behind others
pub then_then : (table : TableId) (a b c : Rows) → is_of_kind table a ≡ true → is_of_kind table b ≡ true → is_of_kind table c ≡ true → rows_then (rows_then a b) c ≡ rows_then a (rows_then b c)
then_then (ids.Hub n) (of.Hubs a) (of.Hubs b) (of.Hubs c) k l m = ap of.Hubs (append_assoc a b c)
then_then (ids.Link n) (of.Links a) (of.Links b) (of.Links c) k l m = ap of.Links (append_assoc a b c)
then_then (ids.Sat n) (of.Sats a) (of.Sats b) (of.Sats c) k l m = ap of.Sats (append_assoc a b c)
then_then (ids.Multi n) (of.Multis a) (of.Multis b) (of.Multis c) k l m = ap of.Multis (append_assoc a b c)
then_then (ids.Status n) (of.Statuses a) (of.Statuses b) (of.Statuses c) k l m = ap of.Statuses (append_assoc a b c)
then_then (ids.Effect n) (of.Effects a) (of.Effects b) (of.Effects c) k l m = ap of.Effects (append_assoc a b c)
then_then table a b c k l m = cc

-- how many two lists of rows have together, at most
pub then_count : (a b : Rows) → row_count (rows_then a b) ≤ row_count a + row_count b
then_count (of.Hubs a) (of.Hubs b) = omega (arith, length-append a b)
then_count (of.Links a) (of.Links b) = omega (arith, length-append a b)
then_count (of.Sats a) (of.Sats b) = omega (arith, length-append a b)
then_count (of.Multis a) (of.Multis b) = omega (arith, length-append a b)
then_count (of.Statuses a) (of.Statuses b) = omega (arith, length-append a b)
then_count (of.Effects a) (of.Effects b) = omega (arith, length-append a b)
then_count (of.Pits a) (of.Pits b) = omega (arith, length-append a b)
then_count (of.Bridges a) (of.Bridges b) = omega (arith, length-append a b)
then_count a b = omega arith

-- ---- parts of which some first ones are taken

pub none_taken : (parts : List Part) → taken_first 0 parts ≡ parts
none_taken [] = refl
none_taken (part ∷ parts) = refl

-- they have the same rows
pub whole_kept : (k : ℕ) (parts : List Part) → whole_in (taken_first k parts) ≡ whole_in parts
whole_kept zero [] = refl
whole_kept zero (part ∷ parts) = refl
whole_kept (suc k) [] = refl
whole_kept (suc k) (part ∷ parts) = λ i. then_none (whole_part part) part.rest i ∷ whole_kept k parts i

-- all of which are there where all are taken
pub all_taken : (k : ℕ) (parts : List Part) → length parts ≤ k → opened_in (taken_first k parts) ≡ whole_in parts
all_taken zero [] le = refl
all_taken zero (part ∷ parts) le = absurd (omega (arith, le))
all_taken (suc k) [] le = refl
all_taken (suc k) (part ∷ parts) le = ap (λ (rest : List Rows). whole_part part ∷ rest) (all_taken k parts (omega (arith, le)))

-- as many parts
pub taken_long : (k : ℕ) (parts : List Part) → length (taken_first k parts) ≡ length parts
taken_long zero [] = refl
taken_long zero (part ∷ parts) = refl
taken_long (suc k) [] = refl
taken_long (suc k) (part ∷ parts) = ap suc (taken_long k parts)

-- the part at a place from which on none is taken
pub taken_at : (parts : List Part) (i : ℕ) (part : Part) → i < length parts → get_or (taken_first i parts) i part ≡ get_or parts i part
taken_at [] i part under = absurd (omega (arith, under))
taken_at (first ∷ parts) zero part under = refl
taken_at (first ∷ parts) (suc i) part under = taken_at parts i part (omega (arith, under))

-- and with it one more is
pub taken_more : (parts : List Part) (i : ℕ) (part : Part) → i < length parts → get_or parts i part ≡ part → slice_set (taken_first i parts) i (taken_part part) ≡ taken_first (suc i) parts
taken_more [] i part under at = absurd (omega (arith, under))
taken_more (first ∷ []) zero part under at = ap (λ p. taken_part p ∷ []) (sym at)
taken_more (first ∷ second ∷ parts) zero part under at = ap (λ p. taken_part p ∷ second ∷ parts) (sym at)
taken_more (first ∷ parts) (suc i) part under at = ap (λ (rest : List Part). taken_part first ∷ rest) (taken_more parts i part (omega (arith, under)) at)

-- they are of the tables still
pub kinds_kept : (k : ℕ) (entries : List TableRows) (parts : List Part) → ArePartsOf entries parts → ArePartsOf entries (taken_first k parts)
kinds_kept zero entries parts are = subst (ArePartsOf entries) (sym (none_taken parts)) are
kinds_kept (suc k) [] [] are = tt
kinds_kept (suc k) [] (part ∷ parts) are = absurd are
kinds_kept (suc k) (entry ∷ entries) [] are = absurd are
kinds_kept (suc k) (entry ∷ entries) (part ∷ parts) (here, behind) = (
  record {
    rows = here.rows;
    opened = then_of_kind entry.table part.opened part.rest here.opened here.rest;
    rest = none_of_kind entry.table part.rest here.rest;
  },
  kinds_kept k entries parts behind,
)

-- ---- tables with parts

-- none of a window is there
then_no_rows : (table : TableId) (rows : Rows) → is_of_kind table rows ≡ true → rows_then rows (no_rows table) ≡ rows
then_no_rows (ids.Hub n) (of.Hubs a) k = ap of.Hubs (append-nil a)
then_no_rows (ids.Link n) (of.Links a) k = ap of.Links (append-nil a)
then_no_rows (ids.Sat n) (of.Sats a) k = ap of.Sats (append-nil a)
then_no_rows (ids.Multi n) (of.Multis a) k = ap of.Multis (append-nil a)
then_no_rows (ids.Status n) (of.Statuses a) k = ap of.Statuses (append-nil a)
then_no_rows (ids.Effect n) (of.Effects a) k = ap of.Effects (append-nil a)
then_no_rows table rows k = cc

none_with : (entries : List TableRows) (parts : List Part) → ArePartsOf entries parts → entries_with entries (map (λ (entry : TableRows). no_rows entry.table) entries) ≡ entries
none_with [] parts are = refl
none_with (entry ∷ entries) [] are = absurd are
none_with (entry ∷ entries) (part ∷ parts) (here, behind) = λ i. record { table = entry.table; rows = then_no_rows entry.table entry.rows here.rows i } ∷ none_with entries parts behind i

pub none_opened : (entries : List TableRows) (parts : List Part) → ArePartsOf entries parts → opened_in parts ≡ map (λ (entry : TableRows). no_rows entry.table) entries → tables_there entries parts ≡ entries
none_opened entries parts are none = ap (entries_with entries) none ∙ none_with entries parts are

-- what is lacking is of the kinds of the tables with what is there
pub rest_kinds : (entries : List TableRows) (parts : List Part) → ArePartsOf entries parts → AreOfKinds (tables_there entries parts) (rest_in parts)
rest_kinds [] [] are = tt
rest_kinds [] (part ∷ parts) are = absurd are
rest_kinds (entry ∷ entries) [] are = absurd are
rest_kinds (entry ∷ entries) (part ∷ parts) (here, behind) = (
  record { rows = then_of_kind entry.table entry.rows part.opened here.rows here.opened; more = here.rest },
  rest_kinds entries parts behind,
)

-- what some first tables lacked stands behind their rows
pub there_taken : (k : ℕ) (entries : List TableRows) (parts : List Part) → ArePartsOf entries parts → entries_with (tables_there entries parts) (take k (rest_in parts)) ≡ tables_there entries (taken_first k parts)
there_taken zero [] [] are = refl
there_taken zero [] (part ∷ parts) are = absurd are
there_taken zero (entry ∷ entries) [] are = absurd are
there_taken zero (entry ∷ entries) (part ∷ parts) are = refl
there_taken (suc k) [] [] are = refl
there_taken (suc k) [] (part ∷ parts) are = absurd are
there_taken (suc k) (entry ∷ entries) [] are = absurd are
there_taken (suc k) (entry ∷ entries) (part ∷ parts) (here, behind) =
    λ i. record { table = entry.table; rows = then_then entry.table entry.rows part.opened part.rest here.rows here.opened here.rest i } ∷ there_taken k entries parts behind i

-- and with all that is lacking they have all
pub there_whole : (entries : List TableRows) (parts : List Part) → ArePartsOf entries parts → entries_with (tables_there entries parts) (rest_in parts) ≡ tables_whole entries parts
there_whole [] [] are = refl
there_whole [] (part ∷ parts) are = absurd are
there_whole (entry ∷ entries) [] are = absurd are
there_whole (entry ∷ entries) (part ∷ parts) (here, behind) =
    λ i. record { table = entry.table; rows = then_then entry.table entry.rows part.opened part.rest here.rows here.opened here.rest i } ∷ there_whole entries parts behind i

-- so they have where all is taken
pub taken_whole : (k : ℕ) (entries : List TableRows) (parts : List Part) → length parts ≤ k → tables_there entries (taken_first k parts) ≡ tables_whole entries parts
taken_whole k entries parts le = ap (entries_with entries) (all_taken k parts le)

-- ---- what is left of a window

-- a vault may grow by it still
pub fits_left : (raw : RawVault) (begun left : Begun) → Fits raw begun → IsLeftOf begun left → Fits raw left
fits_left raw begun left fits of =
    let whole : whole_in left.parts.items ≡ whole_in begun.parts.items = ap whole_in of.parts_are ∙ whole_kept of.taken begun.parts.items in
    record {
      window = ap (is_window raw.mapping) of.window_is ∙ fits.window;
      parts = subst (ArePartsOf raw.tables) (sym of.parts_are) (kinds_kept of.taken raw.tables begun.parts.items fits.parts);
      follow = subst (λ (w : Window). FollowAll w.load raw.tables (whole_in left.parts.items)) (sym of.window_is) (subst (FollowAll begun.window.load raw.tables) (sym whole) fits.follow);
      later = ap (λ (w : Window). late_after (last_sealed raw.heads) w.load) of.window_is ∙ fits.later;
      weight = of.weight_is ∙ fits.weight ∙ ap (λ rows. tables_weight (entries_with raw.tables rows)) (sym whole);
    }
