-- The tables of a snapshot, the path that is too large for one, and that no two of its tables are one.
use Rattle.dv_window.proofs.Vocabulary.{Bool, Bridge, Bridges, Err, IsErrOf, List, Mapping, None, Pit, Pits, SnapId, SnapTable, Some, Window, [], ap, append_assoc, are_snap_tables_apart, arith, bridge_ids, eqb-true, false, first_large, ids_of, is_path_too_large, is_too_large, length, list_any}
use Rattle.dv_window.proofs.Vocabulary.{list_any-map, map, map-append, map-range_with_len_more, nat_tests, not, option_map_or, pit_ids, position, position-cons, range_with_len, refl, slice_get, snap_id_eq, suc, sym, tables_apart, true, zero, ℕ, ◌&&◌, ◌++◌, ◌+◌, ◌<◌, ◌==◌, ◌∙◌, ◌∷◌, ◌≡◌}

-- ---- the tables are apart

-- no table stands twice
abbrev are_ids_apart : List SnapId → Bool
are_ids_apart [] = true
are_ids_apart (id ∷ ids) = not (list_any (λ other. snap_id_eq other id) ids) && are_ids_apart ids

apart_by_ids : (tables : List SnapTable) → are_snap_tables_apart tables ≡ are_ids_apart (ids_of tables)
apart_by_ids [] = refl
apart_by_ids (table ∷ tables) =
    λ i. not (sym (list_any-map (λ other. snap_id_eq other table.id) (λ (t : SnapTable). t.id) tables) i) && apart_by_ids tables i

-- tables without rows
abbrev bare_pit : ℕ → SnapTable
bare_pit hub = record { id = Pit hub; rows = Pits [] }

abbrev bare_bridge : ℕ → SnapTable
bare_bridge path = record { id = Bridge path; rows = Bridges [] }

bare_bridges : (paths : List ℕ) → ids_of (map bare_bridge paths) ≡ map (λ path. Bridge path) paths
bare_bridges [] = refl
bare_bridges (path ∷ paths) = ap (λ ids. Bridge path ∷ ids) (bare_bridges paths)

bare_ids : (hubs paths : List ℕ) → ids_of (map bare_pit hubs ++ map bare_bridge paths) ≡ map (λ hub. Pit hub) hubs ++ map (λ path. Bridge path) paths
bare_ids [] paths = bare_bridges paths
bare_ids (hub ∷ hubs) paths = ap (λ ids. Pit hub ∷ ids) (bare_ids hubs paths)

-- those of so many hubs and so many paths
pub apart : (hubs paths : ℕ) (tables : List SnapTable) → ids_of tables ≡ pit_ids hubs ++ bridge_ids paths → are_snap_tables_apart tables ≡ true
apart hubs paths tables are =
    let bare : List SnapTable = map bare_pit (range_with_len 0 hubs) ++ map bare_bridge (range_with_len 0 paths) in
    apart_by_ids tables
    ∙ ap are_ids_apart (are ∙ sym (bare_ids (range_with_len 0 hubs) (range_with_len 0 paths)))
    ∙ sym (apart_by_ids bare)
    ∙ tables_apart bare_pit bare_bridge (λ n. refl) (λ n. refl) 0 hubs paths

-- a fault is one, whatever was to be made
pub same_fault : {T U E : Type 0} (a b : E) → IsErrOf {T = T} (Err a) b → IsErrOf {T = U} (Err a) b
same_fault a b is = let same : a ≡ b = cc in ap Err same

-- ---- one table more

-- what is made of one number more
numbered_more : {X : Type 0} (made : ℕ → X) (n : ℕ) (first xs pushed : List X) → xs ≡ first ++ map made (range_with_len 0 n) → pushed ≡ xs ++ made n ∷ [] → pushed ≡ first ++ map made (range_with_len 0 (n + 1))
numbered_more made n first xs pushed so_far push =
    push ∙ ap (λ xs. xs ++ made n ∷ []) so_far ∙ append_assoc first (map made (range_with_len 0 n)) (made n ∷ [])
    ∙ ap (λ rest. first ++ rest) (sym (map-range_with_len_more made 0 n n (omega arith)))

pub one_more : (made : ℕ → SnapTable) (n : ℕ) (first tables pushed : List SnapTable) (table : SnapTable) → tables ≡ first ++ map made (range_with_len 0 n) → table ≡ made n → pushed ≡ tables ++ table ∷ []
    → pushed ≡ first ++ map made (range_with_len 0 (n + 1))
one_more made n first tables pushed table so_far is push = numbered_more made n first tables pushed so_far (push ∙ ap (λ (t : SnapTable). tables ++ t ∷ []) is)

pub one_id_more : (id : ℕ → SnapId) (n : ℕ) (first : List SnapId) (tables pushed : List SnapTable) (table : SnapTable) → ids_of tables ≡ first ++ map id (range_with_len 0 n) → table.id ≡ id n → pushed ≡ tables ++ table ∷ []
    → ids_of pushed ≡ first ++ map id (range_with_len 0 (n + 1))
one_id_more id n first tables pushed table so_far is push =
    numbered_more id n first (ids_of tables) (ids_of pushed) so_far
    (ap ids_of push ∙ map-append (λ (t : SnapTable). t.id) tables (table ∷ []) ∙ ap (λ i. ids_of tables ++ i ∷ []) is)

-- ---- the first path that is too large

-- a test of the item at a place
abbrev passes_from : {X : Type 0} → (X → Bool) → List X → ℕ → Bool
passes_from test xs n = option_map_or test (slice_get xs n) false

-- an item that passes, behind others that fail
placed_first : {X : Type 0} (test : X → Bool) (xs : List X) (n : ℕ) → ((k : ℕ) → k < n → passes_from test xs k ≡ false) → passes_from test xs n ≡ true → position test xs ≡ Some n
placed_first test [] n fails passes = let no : false ≡ true = passes in cc
placed_first test (x ∷ xs) zero fails passes = let here : test x ≡ true = passes in position-cons test x xs ∙ rw here refl
placed_first test (x ∷ xs) (suc n) fails passes =
    let first : test x ≡ false = fails 0 (omega arith) in
    let rest = placed_first test xs n (λ k under. fails (suc k) (omega (arith, under))) passes in
    position-cons test x xs ∙ rw (first, rest) refl

-- all of them fail
none_first : {X : Type 0} (test : X → Bool) (xs : List X) → ((k : ℕ) → k < length xs → passes_from test xs k ≡ false) → position test xs ≡ None
none_first test [] fails = refl
none_first test (x ∷ xs) fails =
    let first : test x ≡ false = fails 0 (omega arith) in
    let rest = none_first test xs (λ k under. fails (suc k) (omega (arith, under))) in
    position-cons test x xs ∙ rw (first, rest) refl

-- one more fails
pub more_fail : (test : ℕ → Bool) (n : ℕ) → ((k : ℕ) → k < n → test k ≡ false) → test n ≡ false → (k : ℕ) → k < n + 1 → test k ≡ false
more_fail test n fails here k under = by (k == n) refl
  where
    by : (b : Bool) → (k == n) ≡ b → test k ≡ false
    by true e = ap test (eqb-true k n e) ∙ here
    by false e = fails k (grind (arith, nat_tests, e, under))

module _ (mapping : Mapping) (sealed : List Window) (date : ℕ) where
  pub large_at : (path n : ℕ) → path ≡ n → ((k : ℕ) → k < n → is_path_too_large mapping sealed k date ≡ false) → is_path_too_large mapping sealed n date ≡ true → first_large mapping sealed date ≡ Some path
  large_at path n same fails large = placed_first (is_too_large mapping sealed date) mapping.paths n fails large ∙ ap Some (sym same)

  pub none_large : ((k : ℕ) → k < length mapping.paths → is_path_too_large mapping sealed k date ≡ false) → first_large mapping sealed date ≡ None
  none_large fails = none_first (is_too_large mapping sealed date) mapping.paths fails
