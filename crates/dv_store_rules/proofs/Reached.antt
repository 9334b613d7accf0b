-- What each table of a store that stands for a state holds: it is the table after some first windows of all that are
-- sealed or open, and a table that stands before it in table order is as far on at least.
use Rattle.dv_store_rules.proofs.Vocabulary.{Bool, Contains, Contains-append_cases, Contains-append_left, HasTables, Hashes, List, Mapping, Store, TableId, TableRows, Window, [], ap, append_assoc, are_windows_valid, arith, backwards, batch_adds, cond, drop, false, false≢true, inl, inr, list_any}
use Rattle.dv_store_rules.proofs.Vocabulary.{map, partial, refl, reverse, reverse-append, rows_in, rows_in-entries, rows_weight, same_table, some_passes, some_passes_at, subst, sym, table_after, table_after-newest, table_entry, table_eq, table_eq-itself, tables, take, take-append-drop, true}
use Rattle.dv_store_rules.proofs.Vocabulary.{vault, with_newest, ℕ, ◌++◌, ◌∙◌, ◌∷◌, ◌≡◌, ◌≤◌}
use Rattle.dv_store_rules.proofs.{FewerWindows.fewer_valid, Splits.parted_at, Splits.stands_before}

-- ---- earlier tables

-- all tables of some first ones, of which one is `other`, stand before `id`
pub record IsEarlier (mapping : Mapping) (other id : TableId) : Type 0 where
  pub some : List TableId
  pub later : List TableId
  pub tables_are : tables mapping ≡ some ++ later
  pub without : Contains some id → ⊥
  pub has_other : Contains some other

-- such a table is among those before the place of the other one
pub earlier_in : (mapping : Mapping) (other id : TableId) → IsEarlier mapping other id → (before after : List TableId) → tables mapping ≡ before ++ id ∷ after → Contains before other
earlier_in mapping other id is before after e = stands_before is.some is.later before id after (sym is.tables_are ∙ e) is.without other is.has_other

-- and among as many first ones as the other one is
first_earlier : (mapping : Mapping) (other id : TableId) → IsEarlier mapping other id → (k : ℕ) → Contains (take k (tables mapping)) id → Contains (take k (tables mapping)) other
first_earlier mapping other id is k has =
    let all = tables mapping in
    let (before, after, e) = parted_at (take k all) id has in
    let whole : all ≡ before ++ id ∷ (after ++ drop k all) = sym (take-append-drop k all) ∙ ap (λ l. l ++ drop k all) e ∙ append_assoc before (id ∷ after) (drop k all) in
    subst (λ l. Contains l other) (sym e) (Contains-append_left before (id ∷ after) other (earlier_in mapping other id is before (after ++ drop k all) whole))

-- ---- what tables hold

-- for each table the windows that it is the table after: valid ones, among those given
pub record Holds (mapping : Mapping) (hashes : Hashes) (store : Store) (windows : List Window) : Type 0 where
  pub reach : TableId → List Window
  pub rows : (id : TableId) → Contains (tables mapping) id → rows_in id store.tables ≡ table_after mapping hashes (backwards (reach id)) id
  pub valid : (id : TableId) → are_windows_valid mapping hashes (reach id) ≡ true
  pub within : (id : TableId) (window : Window) → Contains (reach id) window → Contains windows window
  pub earlier : (id other : TableId) → IsEarlier mapping other id → (window : Window) → Contains (reach id) window → Contains (reach other) window
  pub lighter : (id : TableId) → rows_weight (table_after mapping hashes (backwards (reach id)) id) ≤ rows_weight (table_after mapping hashes (backwards windows) id)

itself_le : (n : ℕ) → n ≤ n
itself_le n = omega arith

module _ (mapping : Mapping) (hashes : Hashes) (store : Store) (sealed : List Window) where
  -- where none is open, each table is that after all sealed windows
  pub vault_holds_all : are_windows_valid mapping hashes sealed ≡ true → HasTables store (vault mapping hashes sealed) → Holds mapping hashes store sealed
  vault_holds_all valid stand = record {
    reach = λ id. sealed;
    rows = λ id has. stand id ∙ rows_in-entries mapping hashes (backwards sealed) (tables mapping) id has;
    valid = λ id. valid;
    within = λ id window has. has;
    earlier = λ id other is window has. has;
    lighter = λ id. itself_le (rows_weight (table_after mapping hashes (backwards sealed) id));
  }

  -- ---- an open window

  module _ (window : Window) (k : ℕ) where
    -- the first k tables have the window's batch
    abbrev is_done : TableId → Bool
    is_done id = list_any (λ other. table_eq other id) (take k (tables mapping))

    abbrev so_far : Bool → List Window
    so_far true = sealed ++ window ∷ []
    so_far false = sealed

    abbrev done_entries : List TableId → List TableRows
    done_entries ids = map (table_entry mapping hashes (with_newest window (backwards sealed))) ids

    abbrev other_entries : List TableId → List TableRows
    other_entries ids = map (table_entry mapping hashes (backwards sealed)) ids

    -- a table's rows are those of its entry among the first ones, and else among the others
    among_both : (done others : List TableId) (id : TableId) → rows_in id (done_entries done ++ other_entries others)
        ≡ cond (list_any (λ other. table_eq other id) done) (table_after mapping hashes (with_newest window (backwards sealed)) id) (rows_in id (other_entries others))
    among_both [] others id = refl
    among_both (first ∷ done) others id = by (table_eq first id) refl (among_both done others id)
      where
        by : (b : Bool) → table_eq first id ≡ b
            → rows_in id (done_entries done ++ other_entries others) ≡ cond (list_any (λ other. table_eq other id) done) (table_after mapping hashes (with_newest window (backwards sealed)) id) (rows_in id (other_entries others))
            → rows_in id (done_entries (first ∷ done) ++ other_entries others)
            ≡ cond (list_any (λ other. table_eq other id) (first ∷ done)) (table_after mapping hashes (with_newest window (backwards sealed)) id) (rows_in id (other_entries others))
        by true e later = rw e (ap (table_after mapping hashes (with_newest window (backwards sealed))) (same_table first id e))
        by false e later = rw e later

    is_done_in : (id : TableId) → is_done id ≡ true → Contains (take k (tables mapping)) id
    is_done_in id e =
        let (other, has, same) = some_passes (λ other. table_eq other id) (take k (tables mapping)) e in
        subst (Contains (take k (tables mapping))) (same_table other id same) has

    in_is_done : (id : TableId) → Contains (take k (tables mapping)) id → is_done id ≡ true
    in_is_done id has = some_passes_at (λ other. table_eq other id) (take k (tables mapping)) id has (table_eq-itself id)

    -- a table that isn't among the first ones is among the others
    in_others : (id : TableId) → Contains (tables mapping) id → is_done id ≡ false → Contains (drop k (tables mapping)) id
    in_others id has e =
        elim (Contains-append_cases (take k (tables mapping)) (drop k (tables mapping)) id (subst (λ l. Contains l id) (sym (take-append-drop k (tables mapping))) has)) [
          | inl done ↦ absurd (false≢true (sym e ∙ in_is_done id done))
          | inr rest ↦ rest
        ]

    one_more : (id : TableId) → table_after mapping hashes (with_newest window (backwards sealed)) id ≡ table_after mapping hashes (backwards (sealed ++ window ∷ [])) id
    one_more id = let turned : window ∷ reverse sealed ≡ reverse (sealed ++ window ∷ []) = sym (reverse-append sealed (window ∷ [])) in ap (λ (all : List Window). table_after mapping hashes (record { windows = all }) id) turned

    rows_so_far : (id : TableId) → Contains (tables mapping) id → (b : Bool) → is_done id ≡ b
        → cond b (table_after mapping hashes (with_newest window (backwards sealed)) id) (rows_in id (other_entries (drop k (tables mapping)))) ≡ table_after mapping hashes (backwards (so_far b)) id
    rows_so_far id has true e = one_more id
    rows_so_far id has false e = rows_in-entries mapping hashes (backwards sealed) (drop k (tables mapping)) id (in_others id has e)

    module _ (valid : are_windows_valid mapping hashes (sealed ++ window ∷ []) ≡ true) where
      valid_so_far : (b : Bool) → are_windows_valid mapping hashes (so_far b) ≡ true
      valid_so_far true = valid
      valid_so_far false = fewer_valid mapping hashes sealed window valid

      within_so_far : (b : Bool) (other : Window) → Contains (so_far b) other → Contains (sealed ++ window ∷ []) other
      within_so_far true other has = has
      within_so_far false other has = Contains-append_left sealed (window ∷ []) other has

      earlier_so_far : (a b : Bool) → (a ≡ true → b ≡ true) → (other : Window) → Contains (so_far a) other → Contains (so_far b) other
      earlier_so_far true true implied other has = has
      earlier_so_far true false implied other has = absurd (false≢true (implied refl))
      earlier_so_far false true implied other has = Contains-append_left sealed (window ∷ []) other has
      earlier_so_far false false implied other has = has

      lighter_so_far : (id : TableId) (b : Bool) → rows_weight (table_after mapping hashes (backwards (so_far b)) id) ≤ rows_weight (table_after mapping hashes (backwards (sealed ++ window ∷ [])) id)
      lighter_so_far id true = itself_le (rows_weight (table_after mapping hashes (backwards (sealed ++ window ∷ [])) id))
      lighter_so_far id false =
          let grown = (batch_adds mapping hashes (backwards sealed) window id).weight in
          let made = ap rows_weight (sym (one_more id) ∙ table_after-newest mapping hashes (backwards sealed) window id) in
          omega (arith, grown, made)

      -- the first tables are those after all windows, and the others those after the sealed ones
      pub partial_holds : HasTables store (partial mapping hashes sealed window k) → Holds mapping hashes store (sealed ++ window ∷ [])
      partial_holds stand = record {
        reach = λ id. so_far (is_done id);
        rows = λ id has. stand id ∙ among_both (take k (tables mapping)) (drop k (tables mapping)) id ∙ rows_so_far id has (is_done id) refl;
        valid = λ id. valid_so_far (is_done id);
        within = λ id. within_so_far (is_done id);
        earlier = λ id other is. earlier_so_far (is_done id) (is_done other) (λ done. in_is_done other (first_earlier mapping other id is k (is_done_in id done)));
        lighter = λ id. lighter_so_far id (is_done id);
      }
