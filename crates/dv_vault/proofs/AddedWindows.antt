-- What a vault is with what a window adds: the vault of the sealed windows and the new one.
use Rattle.dv_vault.proofs.Vocabulary.{AreApart, Backwards, Begun, HasSealed, Hashes, IsAddition, IsBegunBehind, IsLeftOf, List, Mapping, None, Option, Part, RawVault, Rows, Rule, TableId, TableRows, Window, WindowHead, [], all_added, ap, are_windows_valid, arith, backwards, entries_with}
use Rattle.dv_vault.proofs.Vocabulary.{full_at, head_of, is_valid, is_window, last_got, last_load, last_or, last_sealed, late_after, length, length-map, map, map-append, map-map, no_rows, none_like, opened_in, option_map, partial, parts_at, raw_with, refl, rest_in, row_count, rows_weight}
use Rattle.dv_vault.proofs.Vocabulary.{slice_get, slice_get-map, suc, sum_by, sym, table_batch, table_entry, tables, tables_there, tables_weight, tables_whole, taken_first, true, vault, vault_weight, weight_with, whole_in, window_batches, ℕ, ◌++◌, ◌+◌, ◌-◌, ◌∙◌, ◌∷◌, ◌≡◌, ◌≤◌}
use Rattle.dv_vault.proofs.{AddedBatches.added_is_batch, Afterwards.loaded_batches, Afterwards.vault_reached, Afterwards.vault_with, Afterwards.weight_with_batches, Afterwards.windows_still_valid, BegunParts.at_long, BegunParts.at_taken, BegunParts.at_there, BegunParts.at_whole}
use Rattle.dv_vault.proofs.{BegunParts.lacking_opened, BegunParts.lacking_rest, BegunParts.same_parts, VaultCollisions.apart_is_free}
use Rattle.dv_catalog.specs.declared.tables.TableId.TheVariants as ids

-- the last load date of windows is that of their heads
pub last_same : (windows : List Window) → last_load windows ≡ last_sealed (map head_of windows)
last_same windows = sym (ap (last_or None) (map-map (λ (head : WindowHead). head.load) head_of windows))

-- the last load date is that of the last head
pub last_got_head : (heads : List WindowHead) → last_sealed heads ≡ option_map (λ (head : WindowHead). head.load) (slice_get heads (length heads - 1))
last_got_head [] = refl
last_got_head (head ∷ heads) =
    last_got None head.load (map (λ (head : WindowHead). head.load) heads)
    ∙ ap (slice_get (map (λ (head : WindowHead). head.load) (head ∷ heads))) (length-map heads (λ (head : WindowHead). head.load) ∙ one_less (length heads))
    ∙ slice_get-map (λ (head : WindowHead). head.load) (head ∷ heads) (length (head ∷ heads) - 1)
  where
    one_less : (n : ℕ) → n ≡ suc n - 1
    one_less n = omega arith

-- no rows of each table are none of the kind of its batch
no_batches : (mapping : Mapping) (hashes : Hashes) (older : Backwards) (window : Window) (some : List TableId)
    → map (λ (entry : TableRows). no_rows entry.table) (map (table_entry mapping hashes older) some) ≡ map none_like (map (λ table. table_batch mapping hashes table older window) some)
no_batches mapping hashes older window [] = refl
no_batches mapping hashes older window (id ∷ some) = λ i. one id i ∷ no_batches mapping hashes older window some i
  where
    one : (id : TableId) → no_rows id ≡ none_like (table_batch mapping hashes id older window)
    one (ids.Hub n) = refl
    one (ids.Link n) = refl
    one (ids.Sat n) = refl
    one (ids.Multi n) = refl
    one (ids.Status n) = refl
    one (ids.Effect n) = refl

module _ (hashes : Hashes) (sealed : List Window) (raw : RawVault) (has : HasSealed hashes sealed raw) (mapped : is_valid raw.mapping ≡ true) (window : Window) (whole : is_window raw.mapping window ≡ true)
    (late : late_after (last_sealed raw.heads) window.load ≡ None) (apart : AreApart hashes raw window) where
  abbrev batches : List Rows
  batches = map (λ table. table_batch raw.mapping hashes table (backwards sealed) window) (tables raw.mapping)

  -- what the limits are asked of
  abbrev fullness : Option Rule
  fullness = full_at (vault_weight raw.mapping hashes (sealed ++ window ∷ [])) (length sealed)

  later : late_after (last_load sealed) window.load ≡ None
  later = ap (λ last. late_after last window.load) (last_same sealed ∙ ap last_sealed (sym has.heads_are)) ∙ late

  batches_added : all_added hashes raw window ≡ batches
  batches_added = added_is_batch hashes sealed raw has mapped window whole later apart

  pub full_with : full_at (weight_with hashes raw window) (length raw.heads) ≡ fullness
  full_with =
      ap (λ weight. full_at weight (length raw.heads))
      (ap (λ (added : List Rows). tables_weight raw.tables + sum_by rows_weight added) batches_added
      ∙ ap (λ (tables : List TableRows). tables_weight tables + sum_by rows_weight batches) has.tables_are
      ∙ weight_with_batches raw.mapping hashes sealed window)
      ∙ ap (full_at (vault_weight raw.mapping hashes (sealed ++ window ∷ []))) (ap length has.heads_are ∙ length-map sealed head_of)

  -- what is to be opened is the window behind the sealed ones, of which no table has its batch
  module _ (begun : Begun) (adds : IsAddition hashes raw window begun) where
    rest_are : rest_in begun.parts.items ≡ batches
    rest_are = adds.rest_is ∙ batches_added

    opened_are : opened_in begun.parts.items ≡ map none_like batches
    opened_are =
        adds.none_there
        ∙ ap (map (λ (entry : TableRows). no_rows entry.table)) has.tables_are
        ∙ no_batches raw.mapping hashes (backwards sealed) window (tables raw.mapping)

    pub added_behind : IsBegunBehind raw.mapping hashes sealed window begun
    added_behind = record {
      window_is = adds.window_is;
      there = 0;
      within = omega arith;
      parts_are = same_parts begun.parts.items (parts_at 0 batches) (opened_are ∙ sym (lacking_opened batches)) (rest_are ∙ sym (lacking_rest batches));
      rows_are = adds.rows_are ∙ ap (sum_by row_count) rest_are ∙ loaded_batches raw.mapping hashes sealed window;
      weight_is = adds.weight_is
          ∙ ap (λ (added : List Rows). tables_weight raw.tables + sum_by rows_weight added) batches_added
          ∙ ap (λ (tables : List TableRows). tables_weight tables + sum_by rows_weight batches) has.tables_are
          ∙ weight_with_batches raw.mapping hashes sealed window;
    }

    pub not_full : full_at begun.weight (length raw.heads) ≡ None → fullness ≡ None
    not_full room = sym full_with ∙ ap (λ weight. full_at weight (length raw.heads)) (sym adds.weight_is) ∙ room

    -- and with it the windows are valid
    pub valid_with : full_at begun.weight (length raw.heads) ≡ None → are_windows_valid raw.mapping hashes (sealed ++ window ∷ []) ≡ true
    valid_with room = windows_still_valid raw.mapping hashes sealed window has.valid whole later (apart_is_free hashes sealed raw has mapped window apart) (not_full room)

-- ---- a window behind the sealed ones, of which some first tables have their batches

module _ (hashes : Hashes) (sealed : List Window) (raw : RawVault) (has : HasSealed hashes sealed raw) (window : Window) (begun : Begun) (behind : IsBegunBehind raw.mapping hashes sealed window begun) where
  abbrev own_batches : List Rows
  own_batches = window_batches raw.mapping hashes sealed window

  parts_long : length begun.parts.items ≡ length (tables raw.mapping)
  parts_long = ap length behind.parts_are ∙ at_long behind.there own_batches ∙ length-map (tables raw.mapping) (λ table. table_batch raw.mapping hashes table (backwards sealed) window)

  partly : (parts : List Part) (far : ℕ) → parts ≡ parts_at far own_batches → tables_there raw.tables parts ≡ partial raw.mapping hashes sealed window far
  partly parts far are =
      (λ i. entries_with (has.tables_are i) (opened_in (are i)))
      ∙ at_there far (vault raw.mapping hashes sealed) own_batches
      ∙ vault_reached raw.mapping hashes sealed window far

  -- after some first tables got what they lacked
  pub taken_parts : (k : ℕ) → k ≤ length begun.parts.items → (far : ℕ) × (far ≤ length (tables raw.mapping)) × (taken_first k begun.parts.items ≡ parts_at far own_batches)
  taken_parts k within =
      let (far, less, is) = at_taken k behind.there own_batches in
      (far, less (length (tables raw.mapping)) behind.within (omega (arith, within, parts_long)), ap (taken_first k) behind.parts_are ∙ is)

  pub taken_partly : (k : ℕ) → k ≤ length begun.parts.items
      → (far : ℕ) × (far ≤ length (tables raw.mapping)) × (tables_there raw.tables (taken_first k begun.parts.items) ≡ partial raw.mapping hashes sealed window far)
  taken_partly k within =
      let (far, less, is) = taken_parts k within in
      (far, less, partly (taken_first k begun.parts.items) far is)

  pub left_behind : (left : Begun) → IsLeftOf begun left → IsBegunBehind raw.mapping hashes sealed window left
  left_behind left of =
      let (far, less, is) = taken_parts of.taken of.within in
      record {
        window_is = of.window_is ∙ behind.window_is;
        there = far;
        within = less;
        parts_are = of.parts_are ∙ is;
        rows_are = of.rows_are ∙ behind.rows_are;
        weight_is = of.weight_is ∙ behind.weight_is;
      }

  -- with all of it the window is sealed
  pub whole_vault : tables_whole raw.tables begun.parts.items ≡ vault raw.mapping hashes (sealed ++ window ∷ [])
  whole_vault =
      (λ i. entries_with (has.tables_are i) ((ap whole_in behind.parts_are ∙ at_whole behind.there own_batches) i))
      ∙ vault_with raw.mapping hashes sealed window

  pub sealed_after : are_windows_valid raw.mapping hashes (sealed ++ window ∷ []) ≡ true → HasSealed hashes (sealed ++ window ∷ []) (raw_with begun raw)
  sealed_after valid = record {
    valid = valid;
    tables_are = whole_vault;
    heads_are = ap (λ (heads : List WindowHead). heads ++ head_of begun.window ∷ []) has.heads_are
        ∙ ap (λ (w : Window). map head_of sealed ++ head_of w ∷ []) behind.window_is
        ∙ sym (map-append head_of sealed (window ∷ []));
  }
