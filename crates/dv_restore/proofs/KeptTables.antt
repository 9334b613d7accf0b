-- The tables of the sealed windows are those of a vault: no row of them is later than the last head.
use Rattle.dv_restore.proofs.Vocabulary.{Bool, Bridges, Effect, Effects, Hubs, IsVaultOf, Links, List, Mapping, Multi, Multis, None, Option, Pits, Rows, Sat, Sats, Some, Status, Statuses, TableId, TableRows, Window, WindowHead, [], all_pass_weaker, and_from, and_parts, are_empty, are_loaded}
use Rattle.dv_restore.proofs.Vocabulary.{are_rows_kept, are_up_to, arith, entry_before, eq-eqb, eqb-true, false, false≢true, filter, head_of, inl, inr, is_later, is_loaded, is_of_kind, is_up_to, last_pushed, last_sealed, late_after, le-leb, leb-true, list_all, list_any-append, loads_of, ltb-true}
use Rattle.dv_restore.proofs.Vocabulary.{map, map-map, nat_le, nat_lt, not, option_map_or, refl, row_count, rows_before, sym, true, ℕ, ◌++◌, ◌<◌, ◌==◌, ◌∙◌, ◌∷◌, ◌≡◌}
use Rattle.dv_catalog.specs.declared.tables.TableId.TheVariants.{Hub, Link}
use Rattle.dv_restore.proofs.{HeadsHeld.EndLast, HeadsHeld.one_more, HeadsHeld.some_of, RowLoads.are_of_kinds}

-- ---- no row is later than the last head

loaded_up_to : (heads : List WindowHead) (last : ℕ) → EndLast heads → last_sealed heads ≡ Some last → (load : ℕ) → is_loaded heads load ≡ true → nat_le load last ≡ true
loaded_up_to heads last ends is load e =
    let up = ends load e in
    let same : up.last ≡ last = cc in
    le-leb load last (omega (arith, up.le, same))

pub all_up_to : (heads : List WindowHead) (last : ℕ) → EndLast heads → last_sealed heads ≡ Some last → (entries : List TableRows) → are_loaded heads entries ≡ true → are_up_to last entries ≡ true
all_up_to heads last ends is =
    all_pass_weaker (λ (entry : TableRows). list_all (is_loaded heads) (loads_of entry.rows)) (λ (entry : TableRows). is_up_to last entry.rows)
    (λ entry. all_pass_weaker (is_loaded heads) (λ load. nat_le load last) (loaded_up_to heads last ends is) (loads_of entry.rows))

-- rows without load dates are none
no_rows_left : (id : TableId) (rows : Rows) → is_of_kind id rows ≡ true → loads_of rows ≡ [] → (row_count rows == 0) ≡ true
no_rows_left (Hub n) (Hubs []) kind none = refl
no_rows_left (Link n) (Links []) kind none = refl
no_rows_left (Sat n) (Sats []) kind none = refl
no_rows_left (Multi n) (Multis []) kind none = refl
no_rows_left (Status n) (Statuses []) kind none = refl
no_rows_left (Effect n) (Effects []) kind none = refl
no_rows_left id rows kind none = cc

none_passes_all : {X : Type 0} (p : X → Bool) (xs : List X) → ((x : X) → p x ≡ true → ⊥) → list_all p xs ≡ true → xs ≡ []
none_passes_all p [] never all = refl
none_passes_all p (x ∷ xs) never all = absurd (never x (and_parts (p x) (list_all p xs) all).0)

all_empty : (heads : List WindowHead) → ((load : ℕ) → is_loaded heads load ≡ true → ⊥) → (entries : List TableRows) → are_of_kinds entries ≡ true → are_loaded heads entries ≡ true → are_empty entries ≡ true
all_empty heads never [] kinds loaded = refl
all_empty heads never (entry ∷ entries) kinds loaded =
    let (kind, other_kinds) = and_parts (is_of_kind entry.table entry.rows) (are_of_kinds entries) kinds in
    let (here, rest) = and_parts (list_all (is_loaded heads) (loads_of entry.rows)) (are_loaded heads entries) loaded in
    and_from _ _ (no_rows_left entry.table entry.rows kind (none_passes_all (is_loaded heads) (loads_of entry.rows) never here)) (all_empty heads never entries other_kinds rest)

pub rows_kept : (heads : List WindowHead) (entries : List TableRows) → EndLast heads → are_of_kinds entries ≡ true → are_loaded heads entries ≡ true → are_rows_kept heads entries ≡ true
rows_kept heads entries ends kinds loaded = by (last_sealed heads) refl
  where
    by : (o : Option ℕ) → last_sealed heads ≡ o → option_map_or (λ last. are_up_to last entries) o (are_empty entries) ≡ true
    by None none = all_empty heads (λ load e. let up = ends load e in let no : None ≡ Some up.last = sym none ∙ up.is in cc) entries kinds loaded
    by (Some last) is = all_up_to heads last ends is entries loaded

-- ---- the open window is later

pub not_late : (heads : List WindowHead) (load : ℕ) → is_later heads load ≡ true → late_after (last_sealed heads) load ≡ None
not_late heads load later = by (last_sealed heads) later
  where
    by : (o : Option ℕ) → option_map_or (λ last. nat_lt last load) o true ≡ true → late_after o load ≡ None
    by None e = refl
    by (Some last) e = on (nat_le load last) refl (ltb-true last load e)
      where
        on : (b : Bool) → nat_le load last ≡ b → last < load → late_after (Some last) load ≡ None
        on true is under = absurd (omega (arith, under, leb-true load last is))
        on false is under = rw is refl

module _ (heads : List WindowHead) (window : Window) (ends : EndLast heads) (later : is_later heads window.load ≡ true) where
  abbrev all_heads : List WindowHead
  all_heads = heads ++ head_of window ∷ []

  pub dated : (entries : List TableRows) → are_loaded all_heads entries ≡ true → are_up_to window.load entries ≡ true
  dated entries loaded = all_up_to all_heads window.load (one_more heads (head_of window) ends later) (last_pushed heads (head_of window)) entries loaded

  earlier_sealed : (load : ℕ) → is_loaded all_heads load ≡ true → (load == window.load) ≡ false → is_loaded heads load ≡ true
  earlier_sealed load e other =
      elim (some_of (is_loaded heads load) (is_loaded (head_of window ∷ []) load) (sym (list_any-append (λ (head : WindowHead). head.load == load) heads (head_of window ∷ [])) ∙ e)) [
        | inl early ↦ early
        | inr late ↦
            elim (some_of (window.load == load) false late) [
              | inl same ↦ absurd (false≢true (sym other ∙ eq-eqb load window.load (sym (eqb-true window.load load same))))
              | inr never ↦ absurd (false≢true never)
            ]
      ]

  module _ {R : Type 0} (load_of : R → ℕ) where
    sealed_known : (rows : List R) → list_all (is_loaded all_heads) (map load_of rows) ≡ true → list_all (is_loaded heads) (map load_of (filter (λ row. not (load_of row == window.load)) rows)) ≡ true
    sealed_known [] all = refl
    sealed_known (row ∷ rows) all =
        let (here, rest) = and_parts (is_loaded all_heads (load_of row)) (list_all (is_loaded all_heads) (map load_of rows)) all in
        by (load_of row == window.load) refl here (sealed_known rows rest)
      where
        by : (b : Bool) → (load_of row == window.load) ≡ b → is_loaded all_heads (load_of row) ≡ true → list_all (is_loaded heads) (map load_of (filter (λ row. not (load_of row == window.load)) rows)) ≡ true
            → list_all (is_loaded heads) (map load_of (filter (λ row. not (load_of row == window.load)) (row ∷ rows))) ≡ true
        by true is here rest = rw is rest
        by false is here rest = rw is (and_from _ _ (earlier_sealed (load_of row) here is) rest)

  sealed_rows_known : (rows : Rows) → list_all (is_loaded all_heads) (loads_of rows) ≡ true → list_all (is_loaded heads) (loads_of (rows_before window.load rows)) ≡ true
  sealed_rows_known (Hubs rows) all = sealed_known _ rows all
  sealed_rows_known (Links rows) all = sealed_known _ rows all
  sealed_rows_known (Sats rows) all = sealed_known _ rows all
  sealed_rows_known (Multis rows) all = sealed_known _ rows all
  sealed_rows_known (Statuses rows) all = sealed_known _ rows all
  sealed_rows_known (Effects rows) all = sealed_known _ rows all
  sealed_rows_known (Pits rows) all = refl
  sealed_rows_known (Bridges rows) all = refl

  pub sealed_loaded : (entries : List TableRows) → are_loaded all_heads entries ≡ true → are_loaded heads (map (entry_before window.load) entries) ≡ true
  sealed_loaded [] all = refl
  sealed_loaded (entry ∷ entries) all =
      let (here, rest) = and_parts (list_all (is_loaded all_heads) (loads_of entry.rows)) (are_loaded all_heads entries) all in
      and_from _ _ (sealed_rows_known entry.rows here) (sealed_loaded entries rest)

-- tables without some of their rows are those of the mapping
pub same_tables : (mapping : Mapping) (date : ℕ) (entries : List TableRows) → IsVaultOf mapping entries → IsVaultOf mapping (map (entry_before date) entries)
same_tables mapping date entries is = map-map (λ (entry : TableRows). entry.table) (entry_before date) entries ∙ is
