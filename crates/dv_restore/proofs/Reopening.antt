-- The open window over the vault of the sealed ones: what its tables have of it, and what they lack.
use Rattle.dv_restore.proofs.Vocabulary.{All, All-append, All-cons, All-head, All-nil, All-tail, AllZip, AreOfLoad, AreParted, ArePartsOf, Begun, Bool, EndsAt, Fits, Follow, FollowAll, HasPlace, Hashes, IsBegunOf, IsStrictlySortedBy, List, Mapping, None, Part, RawVault, Rows, Some, TableId}
use Rattle.dv_restore.proofs.Vocabulary.{TableRows, Window, WindowHead, [], added_to, and_parts, ap, append_assoc, are_hub_rows, are_link_rows, effect_order, entries_with, entry_before, eqb-true, false, filter, first_one, is_of_kind, is_window, last_sealed, late_after, map, map-append, multi_order}
use Rattle.dv_restore.proofs.Vocabulary.{opened_in, refl, rest_in, row_count, rows_at, rows_before, rows_then, rows_there, rows_weight, sat_order, sealed_entry, sealed_vault, status_order, subst, sum_by, sym, tables_there, tables_weight, tables_whole, there_whole, true, vault_of, weight_grows}
use Rattle.dv_restore.proofs.Vocabulary.{weight_with, whole_in, ℕ, ◌++◌, ◌+◌, ◌==◌, ◌∙◌, ◌∷◌, ◌≡◌}
use Rattle.dv_restore.proofs.{Completing.added_kind, Completing.loaded_kind, RowLoads.are_of_kinds}
use Rattle.dv_catalog.specs.declared.tables.TableId.TheVariants as ids
use Rattle.dv_records.specs.declared.stores.Rows.TheVariants as of

-- where no window is open, all rows are those of sealed ones
pub all_sealed : (entries : List TableRows) → map (sealed_entry None) entries ≡ entries
all_sealed [] = refl
all_sealed (entry ∷ entries) = ap (λ l. entry ∷ l) (all_sealed entries)

-- ---- rows

-- what may stand behind two lists may stand with the second one behind the first
follow_through : (id : TableId) (a b c : Rows) → is_of_kind id a ≡ true → is_of_kind id b ≡ true → Follow (rows_then a b) c → Follow a (rows_then b c)
follow_through (ids.Hub n) (of.Hubs a) (of.Hubs b) (of.Hubs c) k l follow = subst (λ rows. are_hub_rows rows ≡ true) (append_assoc a b c) follow
follow_through (ids.Link n) (of.Links a) (of.Links b) (of.Links c) k l follow = subst (λ rows. are_link_rows rows ≡ true) (append_assoc a b c) follow
follow_through (ids.Sat n) (of.Sats a) (of.Sats b) (of.Sats c) k l follow = subst (IsStrictlySortedBy sat_order) (append_assoc a b c) follow
follow_through (ids.Multi n) (of.Multis a) (of.Multis b) (of.Multis c) k l follow = subst (IsStrictlySortedBy multi_order) (append_assoc a b c) follow
follow_through (ids.Status n) (of.Statuses a) (of.Statuses b) (of.Statuses c) k l follow = subst (IsStrictlySortedBy status_order) (append_assoc a b c) follow
follow_through (ids.Effect n) (of.Effects a) (of.Effects b) (of.Effects c) k l follow = subst (IsStrictlySortedBy effect_order) (append_assoc a b c) follow
follow_through (ids.Hub n) (of.Hubs a) (of.Hubs b) c k l follow = absurd follow
follow_through (ids.Link n) (of.Links a) (of.Links b) c k l follow = absurd follow
follow_through (ids.Sat n) (of.Sats a) (of.Sats b) c k l follow = absurd follow
follow_through (ids.Multi n) (of.Multis a) (of.Multis b) c k l follow = absurd follow
follow_through (ids.Status n) (of.Statuses a) (of.Statuses b) c k l follow = absurd follow
follow_through (ids.Effect n) (of.Effects a) (of.Effects b) c k l follow = absurd follow
follow_through id a b c k l follow = cc

-- rows of a load date have it
module _ {R : Type 0} (load_of : R → ℕ) (date : ℕ) where
  at_date : (rows : List R) → All (λ load. load ≡ date) (map load_of (filter (λ row. load_of row == date) rows))
  at_date [] = All-nil (λ load. load ≡ date)
  at_date (row ∷ rows) = by (load_of row == date) refl (at_date rows)
    where
      by : (b : Bool) → (load_of row == date) ≡ b → All (λ load. load ≡ date) (map load_of (filter (λ row. load_of row == date) rows)) → All (λ load. load ≡ date) (map load_of (filter (λ row. load_of row == date) (row ∷ rows)))
      by true e behind = rw e (All-cons (λ load. load ≡ date) (load_of row) (map load_of (filter (λ row. load_of row == date) rows)) (eqb-true (load_of row) date e) behind)
      by false e behind = rw e behind

  both_dated : (a b : List R) → All (λ load. load ≡ date) (map load_of a) → All (λ load. load ≡ date) (map load_of b) → All (λ load. load ≡ date) (map load_of (a ++ b))
  both_dated a b first second = subst (All (λ load. load ≡ date)) (sym (map-append load_of a b)) (All-append (λ load. load ≡ date) (map load_of a) (map load_of b) first second)

-- so have they with more
stamped_with : (date : ℕ) (id : TableId) (rows more : Rows) → is_of_kind id rows ≡ true → is_of_kind id more ≡ true → AreOfLoad date more → AreOfLoad date (rows_then (rows_at date rows) more)
stamped_with date (ids.Hub n) (of.Hubs a) (of.Hubs b) k l is = both_dated (λ row. row.load) date (filter (λ row. row.load == date) a) b (at_date (λ row. row.load) date a) is
stamped_with date (ids.Link n) (of.Links a) (of.Links b) k l is = both_dated (λ row. row.load) date (filter (λ row. row.load == date) a) b (at_date (λ row. row.load) date a) is
stamped_with date (ids.Sat n) (of.Sats a) (of.Sats b) k l is = both_dated (λ row. row.load) date (filter (λ row. row.load == date) a) b (at_date (λ row. row.load) date a) is
stamped_with date (ids.Multi n) (of.Multis a) (of.Multis b) k l is = both_dated (λ row. row.load) date (filter (λ row. row.load == date) a) b (at_date (λ row. row.load) date a) is
stamped_with date (ids.Status n) (of.Statuses a) (of.Statuses b) k l is = both_dated (λ row. row.load) date (filter (λ row. row.load == date) a) b (at_date (λ row. row.load) date a) is
stamped_with date (ids.Effect n) (of.Effects a) (of.Effects b) k l is = both_dated (λ row. row.load) date (filter (λ row. row.load == date) a) b (at_date (λ row. row.load) date a) is
stamped_with date id rows more k l is = cc

-- ---- tables in two, and the parts of the open window

module _ (hashes : Hashes) (mapping : Mapping) (window : Window) where
  abbrev date : ℕ
  date = window.load

  abbrev AreWhole : List TableRows → Type 0
  AreWhole entries = All (λ entry. EndsAt date entry.rows) entries

  -- tables are the two
  whole_again : (entries : List TableRows) → AreWhole entries → entries_with (map (entry_before date) entries) (map (λ entry. rows_at date entry.rows) entries) ≡ entries
  whole_again [] whole = refl
  whole_again (entry ∷ entries) whole =
      λ i. record { table = entry.table; rows = sym (All-head (λ (entry : TableRows). EndsAt date entry.rows) entry entries whole) i }
      ∷ whole_again entries (All-tail (λ (entry : TableRows). EndsAt date entry.rows) entry entries whole) i

  parts_kinds : (entries : List TableRows) (parts : List Part) → are_of_kinds entries ≡ true → opened_in parts ≡ map (λ entry. rows_at date entry.rows) entries → rest_in parts ≡ map (added_to mapping hashes window) entries
      → ArePartsOf (map (entry_before date) entries) parts
  parts_kinds [] [] kinds opened rest = tt
  parts_kinds [] (part ∷ parts) kinds opened rest = cc
  parts_kinds (entry ∷ entries) [] kinds opened rest = cc
  parts_kinds (entry ∷ entries) (part ∷ parts) kinds opened rest =
      let (kind, others) = and_parts (is_of_kind entry.table entry.rows) (are_of_kinds entries) kinds in
      let (first, more) = first_one part.opened (rows_at date entry.rows) (opened_in parts) (map (λ entry. rows_at date entry.rows) entries) opened in
      let (lacking, less) = first_one part.rest (added_to mapping hashes window entry) (rest_in parts) (map (added_to mapping hashes window) entries) rest in (
        record {
          rows = loaded_kind entry.table _ entry.rows ∙ kind;
          opened = ap (is_of_kind entry.table) first ∙ loaded_kind entry.table _ entry.rows ∙ kind;
          rest = ap (is_of_kind entry.table) lacking ∙ added_kind mapping hashes window entry.table entry.rows kind;
        },
        parts_kinds entries parts others more less,
      )

  parts_follow : (entries : List TableRows) (parts : List Part) → are_of_kinds entries ≡ true → AreWhole entries → opened_in parts ≡ map (λ entry. rows_at date entry.rows) entries
      → AllZip Follow (map (λ entry. entry.rows) entries) (rest_in parts) → AllZip Follow (map (λ entry. entry.rows) (map (entry_before date) entries)) (whole_in parts)
  parts_follow [] [] kinds whole opened follow = tt
  parts_follow [] (part ∷ parts) kinds whole opened follow = absurd follow
  parts_follow (entry ∷ entries) [] kinds whole opened follow = absurd follow
  parts_follow (entry ∷ entries) (part ∷ parts) kinds whole opened (here, behind) =
      let (kind, others) = and_parts (is_of_kind entry.table entry.rows) (are_of_kinds entries) kinds in
      let (first, more) = first_one part.opened (rows_at date entry.rows) (opened_in parts) (map (λ entry. rows_at date entry.rows) entries) opened in
      let rows : entry.rows ≡ rows_then (rows_before date entry.rows) part.opened = All-head (λ (entry : TableRows). EndsAt date entry.rows) entry entries whole ∙ ap (rows_then (rows_before date entry.rows)) (sym first) in (
        follow_through entry.table (rows_before date entry.rows) part.opened part.rest (loaded_kind entry.table _ entry.rows ∙ kind) (ap (is_of_kind entry.table) first ∙ loaded_kind entry.table _ entry.rows ∙ kind)
            (subst (λ rows. Follow rows part.rest) rows here),
        parts_follow entries parts others (All-tail (λ (entry : TableRows). EndsAt date entry.rows) entry entries whole) more behind,
      )

  parts_stamped : (entries : List TableRows) (parts : List Part) → are_of_kinds entries ≡ true → opened_in parts ≡ map (λ entry. rows_at date entry.rows) entries → rest_in parts ≡ map (added_to mapping hashes window) entries
      → All (λ rows. AreOfLoad date rows) (rest_in parts) → All (λ rows. AreOfLoad date rows) (whole_in parts)
  parts_stamped [] [] kinds opened rest stamped = stamped
  parts_stamped [] (part ∷ parts) kinds opened rest stamped = cc
  parts_stamped (entry ∷ entries) [] kinds opened rest stamped = cc
  parts_stamped (entry ∷ entries) (part ∷ parts) kinds opened rest stamped =
      let (kind, others) = and_parts (is_of_kind entry.table entry.rows) (are_of_kinds entries) kinds in
      let (first, more) = first_one part.opened (rows_at date entry.rows) (opened_in parts) (map (λ entry. rows_at date entry.rows) entries) opened in
      let (lacking, less) = first_one part.rest (added_to mapping hashes window entry) (rest_in parts) (map (added_to mapping hashes window) entries) rest in
      let of_kind : is_of_kind entry.table part.rest ≡ true = ap (is_of_kind entry.table) lacking ∙ added_kind mapping hashes window entry.table entry.rows kind in
      All-cons (λ rows. AreOfLoad date rows) (rows_then part.opened part.rest) (whole_in parts)
      (subst (λ there. AreOfLoad date (rows_then there part.rest)) (sym first) (stamped_with date entry.table entry.rows part.rest kind of_kind (All-head (λ rows. AreOfLoad date rows) part.rest (rest_in parts) stamped)))
      (parts_stamped entries parts others more less (All-tail (λ rows. AreOfLoad date rows) part.rest (rest_in parts) stamped))

module _ (hashes : Hashes) (mapping : Mapping) (heads : List WindowHead) (window : Window) (entries sealed : List TableRows) (opened : List Rows) (parted : AreParted window.load entries sealed opened) (kinds : are_of_kinds entries ≡ true) where
  abbrev raw : RawVault
  raw = sealed_vault mapping heads (Some window) entries

  pub vault_is : (vault : RawVault) → vault.mapping ≡ mapping → vault.tables ≡ sealed → vault.heads ≡ heads → vault ≡ raw
  vault_is vault mapping_is tables_are heads_are =
      let rows : vault.tables ≡ map (entry_before window.load) entries = tables_are ∙ parted.sealed_are in
      λ i. record { mapping = mapping_is i; tables = rows i; heads = heads_are i }

  -- what is begun of the window
  module _ (begun : Begun) (window_is : begun.window ≡ window) (opened_is : opened_in begun.parts.items ≡ opened) (rest_is : rest_in begun.parts.items ≡ map (added_to mapping hashes window) entries) where
    abbrev parts : List Part
    parts = begun.parts.items

    dated : opened_in parts ≡ map (λ entry. rows_at window.load entry.rows) entries
    dated = opened_is ∙ parted.opened_are

    pub entries_there : tables_there raw.tables parts ≡ entries
    entries_there = ap (entries_with raw.tables) dated ∙ whole_again hashes mapping window entries parted.whole

    pub rows_are_there : (vault : RawVault) → vault ≡ raw → entries ≡ rows_there vault (Some begun)
    rows_are_there vault is = sym (ap (λ (v : RawVault). tables_there v.tables parts) is ∙ entries_there)

    module _ (follow : FollowAll window.load entries (rest_in parts)) (weight_is : begun.weight ≡ weight_with hashes (vault_of mapping heads entries) window) where
      own_kinds : ArePartsOf raw.tables parts
      own_kinds = parts_kinds hashes mapping window entries parts kinds dated rest_is

      weighs : begun.weight ≡ tables_weight (tables_whole raw.tables parts)
      weighs =
          weight_is
          ∙ ap (λ (rest : List Rows). tables_weight entries + sum_by rows_weight rest) (sym rest_is)
          ∙ sym (weight_grows entries (rest_in parts) follow.follow)
          ∙ ap (λ (tables : List TableRows). tables_weight (entries_with tables (rest_in parts))) (sym entries_there)
          ∙ ap tables_weight (there_whole raw.tables parts own_kinds)

      pub fits : (vault : RawVault) → vault ≡ raw → is_window mapping window ≡ true → late_after (last_sealed heads) window.load ≡ None → Fits vault begun
      fits vault is whole late = subst (λ (v : RawVault). Fits v begun) (sym is) (record {
        window = ap (is_window mapping) window_is ∙ whole;
        parts = own_kinds;
        follow = subst (λ (w : Window). FollowAll w.load raw.tables (whole_in parts)) (sym window_is) (record {
          follow = parts_follow hashes mapping window entries parts kinds parted.whole dated follow.follow;
          stamped = parts_stamped hashes mapping window entries parts kinds dated rest_is follow.stamped;
        });
        later = ap (λ (w : Window). late_after (last_sealed heads) w.load) window_is ∙ late;
        weight = weighs;
      })

      pub begun_of : (vault : RawVault) → vault ≡ raw → HasPlace hashes (vault_of mapping heads entries) window → begun.rows ≡ sum_by row_count (opened_in parts) + sum_by row_count (rest_in parts) → IsBegunOf hashes vault window begun
      begun_of vault is place rows = subst (λ (v : RawVault). IsBegunOf hashes v window begun) (sym is) (record {
        window_is = window_is;
        place = subst (λ tables. HasPlace hashes (vault_of mapping heads tables) window) (sym entries_there) place;
        rest_is = rest_is ∙ ap (map (added_to mapping hashes window)) (sym entries_there);
        rows_are = rows;
        weight_is = weight_is ∙ ap (λ tables. weight_with hashes (vault_of mapping heads tables) window) (sym entries_there);
      })
