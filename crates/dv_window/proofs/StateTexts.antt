-- The text of a stored table of a snapshot, where the store stands for a state that the office is in.
use Rattle.dv_window.proofs.Vocabulary.{Bridge, Damage, HasTable, Hashes, Held, IsIn, IsStoredDamage, IsStoredText, Key, List, Mapping, None, Pit, SnapHead, SnapId, SnapshotQuery, Some, State, Store, ap, asked_of, false, flawed_row, heads_of_state, length, read_rows, refl, rows_text, subst, sym}
use Rattle.dv_window.proofs.Vocabulary.{table_text, ℕ, ◌∙◌, ◌≡◌}
use Rattle.dv_window.specs.StoredRows.{head_at}
use Rattle.dv_window.proofs.{SoundTables.unflawed_rows, StandingRows.head_dated, StandingRows.rows_stand, StandingRows.table_rows}

-- the text of a table's own rows
shown : (mapping : Mapping) (hashes : Hashes) (state : State) (date : ℕ) (id : SnapId) → rows_text mapping id date (table_rows mapping hashes state date id) ≡ table_text mapping hashes state.sealed id date
shown mapping hashes state date (Pit hub) = refl
shown mapping hashes state date (Bridge path) = refl

-- what holds of what is asked for by one mapping and width holds of the same by the same
pub asked_alike : (P : Mapping → ℕ → SnapshotQuery → Type 0) (m m' : Mapping) (w w' : ℕ) (a a' : SnapshotQuery) → m ≡ m' → w ≡ w' → a ≡ a' → P m w a → P m' w' a'
asked_alike P m m' w w' a a' mapping width asked holds = subst (λ a. P m' w' a) asked (subst (λ w. P m' w a) width (subst (λ m. P m w a) mapping holds))

module _ (hashes : Hashes) (state : State) (held : Held) (store : Store) (is : IsIn hashes state held (Some store)) (fresh : held.stale ≡ false) (id : SnapId) (date : ℕ) (has : HasTable held.vault.mapping id) where
  abbrev mapping : Mapping
  mapping = held.vault.mapping

  module _ (head : SnapHead) (found : head_at date held.snapshots ≡ Some head) where
    of_state : head_at date (heads_of_state mapping hashes state) ≡ Some head
    of_state = ap (head_at date) (sym (is.stands fresh).snapshots_are) ∙ found

    rows_are : read_rows (asked_of id head) store.snapshots ≡ table_rows mapping hashes state date id
    rows_are = rows_stand mapping hashes state date id head of_state store (is.store_stands store refl) has

    dated : head.date ≡ date
    dated = head_dated mapping hashes state date id head of_state

    sound : ((refs : List Key) → length (hashes.hash refs) ≡ held.width) → flawed_row mapping held.width id (read_rows (asked_of id head) store.snapshots) ≡ None
    sound wide = ap (flawed_row mapping held.width id) rows_are ∙ unflawed_rows mapping hashes state date held.width wide (is.stands fresh).sealed_are.valid id

  -- it has the state's table
  pub text_stands : (text : List ℕ) → IsStoredText held id date store.snapshots text → text ≡ table_text mapping hashes state.sealed id date
  text_stands text of =
      of.text_is.text_is
      ∙ (λ i. rows_text mapping id (dated of.head of.head_is i) (rows_are of.head of.head_is i))
      ∙ shown mapping hashes state date id

  -- and there is no damage
  pub undamaged : (damage : Damage) → IsStoredDamage held id date store.snapshots damage → ((refs : List Key) → length (hashes.hash refs) ≡ held.width) → ⊥
  undamaged damage of wide = let no : None ≡ Some damage.row = sym (sound of.head of.head_is wide) ∙ of.damage_is.row_is in cc
