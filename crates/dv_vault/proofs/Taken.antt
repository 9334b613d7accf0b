-- What a vault keeps to with an addition, and what it weighs then.
use Rattle.dv_vault.proofs.Vocabulary.{All, All-head, All-tail, AllZip, AreOfLoad, Begun, Fits, Follow, Hubs, IsVaultOf, Links, List, Mapping, None, Option, RawVault, Rows, Sats, Some, Staged, Statuses, Table, TableRows, Vec, WindowHead, [], all_pass_weaker, all_up_to-later, all_up_to-none}
use Rattle.dv_vault.proofs.Vocabulary.{and_from, and_parts, ap, are_empty, are_heads_of, are_rows_kept, are_up_to, arith, entries_with, entry_of, head_of, is_staged, is_up_to, last_or, last_sealed, late_after, length, list_all, list_all-append, list_all-map, lt-ltb, ltb-true, map, map-append}
use Rattle.dv_vault.proofs.Vocabulary.{map-map, nat_lt, option_map_or, refl, rows_add_up, rows_then, rows_weight, slice_get_within, staged_rows, subst, sum_by, sum_by-cons, sym, tables_weight, tables_whole, true, up_to-then, whole_in, window_parts, with_items, with_items_is, ℕ}
use Rattle.dv_vault.proofs.Vocabulary.{◌++◌, ◌+◌, ◌-◌, ◌∙◌, ◌∷◌, ◌≡◌}
use Rattle.dv_vault.proofs.{Afterwards.later_than_last, OtherTables.same_tables}
use Rattle.dv_records.specs.declared.stores.Rows.TheVariants as of

-- ---- rows that follow those of tables

pub follows : (entries : List TableRows) (batches : List Rows) (tables : List Table) → entries ≡ map entry_of tables → AllZip Follow (map (λ entry. entry.rows) entries) batches
    → AllZip Follow (map (λ t. (entry_of t).rows) tables) batches
follows entries batches tables is follow =
    subst (λ (all : List Rows). AllZip Follow all batches) (ap (map (λ (entry : TableRows). entry.rows)) is ∙ map-map (λ (entry : TableRows). entry.rows) entry_of tables) follow

-- ---- the rows of the vault are no later

pub rows_not_later : (heads : List WindowHead) (tables : List TableRows) (load : ℕ) → are_rows_kept heads tables ≡ true → late_after (last_sealed heads) load ≡ None → are_up_to load tables ≡ true
rows_not_later heads tables load kept late = by (last_sealed heads) kept late
  where
    by : (last : Option ℕ) → option_map_or (λ last. are_up_to last tables) last (are_empty tables) ≡ true → late_after last load ≡ None → are_up_to load tables ≡ true
    by None empty e = all_up_to-none load tables empty
    by (Some last) up e = let after = ltb-true last load (later_than_last last load e) in all_up_to-later last load tables (omega (arith, after)) up

up_with : (load : ℕ) (entries : List TableRows) (batches : List Rows) → are_up_to load entries ≡ true → All (AreOfLoad load) batches → are_up_to load (entries_with entries batches) ≡ true
up_with load [] batches up all = refl
up_with load (entry ∷ entries) [] up all = up
up_with load (entry ∷ entries) (rows ∷ batches) up all =
    let (here, behind) = and_parts (is_up_to load entry.rows) (are_up_to load entries) up in
    and_from _ _ (up_to-then load entry.rows rows here (All-head (AreOfLoad load) rows batches all)) (up_with load entries batches behind (All-tail (AreOfLoad load) rows batches all))

-- ---- the last head

pub last_or_pushed : {X : Type 0} (o : Option X) (xs : List X) (x : X) → last_or o (xs ++ x ∷ []) ≡ Some x
last_or_pushed o [] x = refl
last_or_pushed o (first ∷ xs) x = last_or_pushed (Some first) xs x

pub last_pushed : (heads : List WindowHead) (head : WindowHead) → last_sealed (heads ++ head ∷ []) ≡ Some head.load
last_pushed heads head = ap (last_or None) (map-append (λ (head : WindowHead). head.load) heads (head ∷ [])) ∙ last_or_pushed None (map (λ (head : WindowHead). head.load) heads) head.load

-- the feeds of a window are in the mapping
feeds_there : (mapping : Mapping) (extracts : List Staged) → list_all (is_staged mapping) extracts ≡ true → list_all (λ feed. nat_lt feed (length mapping.feeds)) (map (λ staged. staged.feed) extracts) ≡ true
feeds_there mapping extracts all =
    list_all-map (λ feed. nat_lt feed (length mapping.feeds)) (λ (staged : Staged). staged.feed) extracts
    ∙ all_pass_weaker (is_staged mapping) (λ (staged : Staged). nat_lt staged.feed (length mapping.feeds)) (λ staged here.
    let (definition, at, are) = staged_rows mapping staged here in
    lt-ltb staged.feed (length mapping.feeds) (slice_get_within mapping.feeds staged.feed definition at)) extracts all

-- ---- what an office keeps to

module _ (raw : RawVault) (begun : Begun) (fits : Fits raw begun) (entries : List TableRows) (heads : List WindowHead)
    (tables_are : entries ≡ tables_whole raw.tables begun.parts.items) (heads_are : heads ≡ raw.heads ++ head_of begun.window ∷ []) where
  pub vault_still : IsVaultOf raw.mapping raw.tables → IsVaultOf raw.mapping entries
  vault_still are = ap (map (λ (entry : TableRows). entry.table)) tables_are ∙ same_tables raw.tables (whole_in begun.parts.items) ∙ are

  pub rows_still : are_rows_kept raw.heads raw.tables ≡ true → are_rows_kept heads entries ≡ true
  rows_still kept =
      ap (λ last. option_map_or (λ last. are_up_to last entries) last (are_empty entries)) (ap last_sealed heads_are ∙ last_pushed raw.heads (head_of begun.window))
      ∙ ap (are_up_to begun.window.load) tables_are
      ∙ up_with begun.window.load raw.tables (whole_in begun.parts.items) (rows_not_later raw.heads raw.tables begun.window.load kept fits.later) fits.follow.stamped

  pub heads_still : are_heads_of raw.mapping raw.heads ≡ true → are_heads_of raw.mapping heads ≡ true
  heads_still kept =
      ap (are_heads_of raw.mapping) heads_are
      ∙ list_all-append (λ (head : WindowHead). list_all (λ feed. nat_lt feed (length raw.mapping.feeds)) head.feeds) raw.heads (head_of begun.window ∷ [])
      ∙ and_from _ _ kept (and_from _ _ (feeds_there raw.mapping begun.window.extracts (window_parts raw.mapping begun.window fits.window).staged) refl)

-- ---- what tables weigh with batches that follow their rows

follow_adds : (rows more : Rows) → Follow rows more → rows_weight (rows_then rows more) ≡ rows_weight rows + rows_weight more
follow_adds (of.Hubs rows) (of.Hubs more) follow = (rows_add_up (of.Hubs rows) (of.Hubs more) refl).weight
follow_adds (of.Links rows) (of.Links more) follow = (rows_add_up (of.Links rows) (of.Links more) refl).weight
follow_adds (of.Sats rows) (of.Sats more) follow = (rows_add_up (of.Sats rows) (of.Sats more) refl).weight
follow_adds (of.Multis rows) (of.Multis more) follow = (rows_add_up (of.Multis rows) (of.Multis more) refl).weight
follow_adds (of.Statuses rows) (of.Statuses more) follow = (rows_add_up (of.Statuses rows) (of.Statuses more) refl).weight
follow_adds (of.Effects rows) (of.Effects more) follow = (rows_add_up (of.Effects rows) (of.Effects more) refl).weight
follow_adds rows more follow = absurd follow

pub weight_grows : (entries : List TableRows) (batches : List Rows) → AllZip Follow (map (λ entry. entry.rows) entries) batches
    → tables_weight (entries_with entries batches) ≡ tables_weight entries + sum_by rows_weight batches
weight_grows [] [] all = refl
weight_grows [] (rows ∷ batches) all = absurd all
weight_grows (entry ∷ entries) [] all = absurd all
weight_grows (entry ∷ entries) (rows ∷ batches) all =
    let after = sum_by-cons (λ (entry : TableRows). rows_weight entry.rows) (record { table = entry.table; rows = rows_then entry.rows rows }) (entries_with entries batches) in
    let before = sum_by-cons (λ (entry : TableRows). rows_weight entry.rows) entry entries in
    let more = sum_by-cons rows_weight rows batches in
    let one = follow_adds entry.rows rows all.0 in
    let rest = weight_grows entries batches all.1 in
    omega (arith, after, before, more, one, rest)

-- ---- tables that were lent

-- with tables in their places that have the same rows
pub entries_now : {Z : Type 0} (v : Vec Table Z) (lent new now : List Table) → lent ≡ v.items → length new ≡ length lent → map entry_of new ≡ map entry_of lent → now ≡ (with_items v new).items
    → map entry_of v.items ≡ map entry_of now
entries_now v lent new now was long same is =
    sym (ap (map entry_of) (is ∙ with_items_is v new (long ∙ ap length was ∙ sym v.ok.0)) ∙ same ∙ ap (map entry_of) was)

-- with tables in their places that have others
pub entries_after : {Z : Type 0} (v : Vec Table Z) (lent new : List Table) (entries : List TableRows) → lent ≡ v.items → length new ≡ length lent → map entry_of new ≡ entries
    → map entry_of (with_items v new).items ≡ entries
entries_after v lent new entries was long same = ap (map entry_of) (with_items_is v new (long ∙ ap length was ∙ sym v.ok.0)) ∙ same
