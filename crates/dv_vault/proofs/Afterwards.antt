-- A vault with the batches of one more window, and the windows with it.
use Rattle.dv_vault.proofs.Vocabulary.{Backwards, Bool, Contains-append_right, Contains-cons_here, Hashes, List, Mapping, None, Rows, Rule, Some, TableId, TableRows, Window, [], all_pass_both, and_from, and_parts, ap, are_windows_valid, arith, ascends, backwards, collision, drop, entries_with}
use Rattle.dv_vault.proofs.Vocabulary.{false, fold-map, full_at, if◌then◌else◌, is_none, is_window, last_load, last_or, late_after, length, length-append, list_all, loaded, map, map-append, nat_le, nat_lt, nat_tests, partial, passes_at, refl, row_count, rows_then, rows_weight, suc, sum_by, sym}
use Rattle.dv_vault.proofs.Vocabulary.{table_after, table_after-newest, table_batch, table_entry, tables, tables_weight, take, true, vault, vault-push, vault_weight, weight-push, with_newest, zero, ℕ, ◌++◌, ◌+◌, ◌||◌, ◌∙◌, ◌∷◌, ◌≡◌}
use Rattle.dv_vault.proofs.VaultCollisions.{sealed_parts}

-- ---- the tables

grown : (mapping : Mapping) (hashes : Hashes) (sealed : List Window) (window : Window) (ids : List TableId)
    → entries_with (map (table_entry mapping hashes (backwards sealed)) ids) (map (λ table. table_batch mapping hashes table (backwards sealed) window) ids)
    ≡ map (λ table. record { table = table; rows = rows_then (table_after mapping hashes (backwards sealed) table) (table_batch mapping hashes table (backwards sealed) window) }) ids
grown mapping hashes sealed window [] = refl
grown mapping hashes sealed window (id ∷ ids) =
    ap (λ (rest : List TableRows). record { table = id; rows = rows_then (table_after mapping hashes (backwards sealed) id) (table_batch mapping hashes id (backwards sealed) window) } ∷ rest)
    (grown mapping hashes sealed window ids)

-- the vault with the batches of a window behind its rows
pub vault_with : (mapping : Mapping) (hashes : Hashes) (sealed : List Window) (window : Window)
    → entries_with (vault mapping hashes sealed) (map (λ table. table_batch mapping hashes table (backwards sealed) window) (tables mapping)) ≡ vault mapping hashes (sealed ++ window ∷ [])
vault_with mapping hashes sealed window = grown mapping hashes sealed window (tables mapping) ∙ sym (vault-push mapping hashes sealed window)

-- the vault with the first k of these batches behind its rows
reached_tables : (mapping : Mapping) (hashes : Hashes) (older : Backwards) (window : Window) (ids : List TableId) (k : ℕ)
    → entries_with (map (table_entry mapping hashes older) ids) (take k (map (λ table. table_batch mapping hashes table older window) ids))
    ≡ map (table_entry mapping hashes (with_newest window older)) (take k ids) ++ map (table_entry mapping hashes older) (drop k ids)
reached_tables mapping hashes older window [] zero = refl
reached_tables mapping hashes older window [] (suc k) = refl
reached_tables mapping hashes older window (id ∷ ids) zero = refl
reached_tables mapping hashes older window (id ∷ ids) (suc k) =
    ap (λ (rows : Rows). record { table = id; rows = rows } ∷ entries_with (map (table_entry mapping hashes older) ids) (take k (map (λ table. table_batch mapping hashes table older window) ids)))
    (sym (table_after-newest mapping hashes older window id))
    ∙ ap (λ (rest : List TableRows). table_entry mapping hashes (with_newest window older) id ∷ rest) (reached_tables mapping hashes older window ids k)

pub vault_reached : (mapping : Mapping) (hashes : Hashes) (sealed : List Window) (window : Window) (k : ℕ)
    → entries_with (vault mapping hashes sealed) (take k (map (λ table. table_batch mapping hashes table (backwards sealed) window) (tables mapping)))
    ≡ partial mapping hashes sealed window k
vault_reached mapping hashes sealed window k = reached_tables mapping hashes (backwards sealed) window (tables mapping) k

sum_seen : {X Y : Type 0} (f : X → Y) (weight : Y → ℕ) (xs : List X) → sum_by weight (map f xs) ≡ sum_by (λ x. weight (f x)) xs
sum_seen f weight xs = fold-map (λ a y. a + weight y) f 0 xs

-- what it weighs, and how many rows the batches have
pub weight_with_batches : (mapping : Mapping) (hashes : Hashes) (sealed : List Window) (window : Window)
    → tables_weight (vault mapping hashes sealed) + sum_by rows_weight (map (λ table. table_batch mapping hashes table (backwards sealed) window) (tables mapping)) ≡ vault_weight mapping hashes (sealed ++ window ∷ [])
weight_with_batches mapping hashes sealed window =
    ap (λ n. tables_weight (vault mapping hashes sealed) + n) (sum_seen (λ table. table_batch mapping hashes table (backwards sealed) window) rows_weight (tables mapping))
    ∙ sym (weight-push mapping hashes sealed window)

pub loaded_batches : (mapping : Mapping) (hashes : Hashes) (sealed : List Window) (window : Window)
    → sum_by row_count (map (λ table. table_batch mapping hashes table (backwards sealed) window) (tables mapping)) ≡ loaded mapping hashes sealed window
loaded_batches mapping hashes sealed window = sum_seen (λ table. table_batch mapping hashes table (backwards sealed) window) row_count (tables mapping)

-- ---- load dates

less_through : (a b c : ℕ) → nat_lt a b ≡ true → nat_lt b c ≡ true → nat_lt a c ≡ true
less_through a b c p q = grind (arith, nat_tests)

pub later_than_last : (last load : ℕ) → late_after (Some last) load ≡ None → nat_lt last load ≡ true
later_than_last last load e = by (nat_le load last) refl e
  where
    by : (b : Bool) → nat_le load last ≡ b → (if b then Some (Rule.Late last) else None) ≡ None → nat_lt last load ≡ true
    by true t h = cc
    by false t h = grind (arith, nat_tests)

-- dates that ascend do so with one that is later than the last
pub loads_ascend : (loads : List ℕ) (load : ℕ) → ascends loads ≡ true → late_after (last_or None loads) load ≡ None → ascends (loads ++ load ∷ []) ≡ true
loads_ascend [] load up late = refl
loads_ascend (x ∷ []) load up late = and_from _ _ (and_from _ _ (later_than_last x load late) refl) refl
loads_ascend (x ∷ y ∷ loads) load up late =
    let (first, rest) = and_parts (list_all (nat_lt x) (y ∷ loads)) (ascends (y ∷ loads)) up in
    let behind = loads_ascend (y ∷ loads) load rest late in
    let (near, far) = and_parts (nat_lt x y) (list_all (nat_lt x) loads) first in
    let (all, later) = and_parts (list_all (nat_lt y) (loads ++ load ∷ [])) (ascends (loads ++ load ∷ [])) behind in
    let beyond = passes_at (nat_lt y) (loads ++ load ∷ []) load all (Contains-append_right loads (load ∷ []) load (Contains-cons_here load [])) in
    and_from _ _ (all_pass_both (nat_lt x) (y ∷ loads) (load ∷ []) first (and_from _ _ (less_through x y load near beyond) refl)) behind

-- ---- the windows

-- a vault that is not full has room for a window
record HasRoom (weight windows : ℕ) : Type 0 where
  light : nat_le weight 1073741824 ≡ true
  few : nat_le (windows + 1) 10000 ≡ true

room_in : (weight windows : ℕ) → full_at weight windows ≡ None → HasRoom weight windows
room_in weight windows e = by (nat_lt 1073741824 weight) (nat_le 10000 windows) refl refl e
  where
    by : (heavy many : Bool) → nat_lt 1073741824 weight ≡ heavy → nat_le 10000 windows ≡ many → (if heavy || many then Some (Rule.VaultFull weight windows) else None) ≡ None → HasRoom weight windows
    by true many t u h = cc
    by false true t u h = cc
    by false false t u h = record { light = grind (arith, nat_tests); few = grind (arith, nat_tests) }

module _ (mapping : Mapping) (hashes : Hashes) (sealed : List Window) (window : Window) where
  pub windows_still_valid : are_windows_valid mapping hashes sealed ≡ true → is_window mapping window ≡ true → late_after (last_load sealed) window.load ≡ None
      → collision mapping hashes (sealed ++ window ∷ []) ≡ None → full_at (vault_weight mapping hashes (sealed ++ window ∷ [])) (length sealed) ≡ None
      → are_windows_valid mapping hashes (sealed ++ window ∷ []) ≡ true
  windows_still_valid valid whole late apart not_full =
      let parts = sealed_parts mapping hashes sealed valid in
      let room = room_in (vault_weight mapping hashes (sealed ++ window ∷ [])) (length sealed) not_full in
      and_from _ _ (and_from _ _ (and_from _ _ (and_from _ _
      (ap ascends (map-append (λ w. w.load) sealed (window ∷ [])) ∙ loads_ascend (map (λ w. w.load) sealed) window.load parts.ordered late)
      (all_pass_both (is_window mapping) sealed (window ∷ []) parts.whole (and_from _ _ whole refl)))
      (ap is_none apart)) room.light)
      (ap (λ n. nat_le n 10000) (length-append sealed (window ∷ [])) ∙ room.few)
