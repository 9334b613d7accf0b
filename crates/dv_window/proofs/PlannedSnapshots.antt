-- What is decided of a snapshot is what a state decides whose sealed windows a vault has.
use Rattle.dv_window.proofs.Vocabulary.{Hashes, IsOf, List, None, Option, RawVault, SnapAnswer, SnapHead, SnapTable, Some, State, TooLarge, ap, early_refusal, first_large, heads_of_state, last_load, last_same, last_sealed, late_refusal, snap_head, snap_tables, snapshot, snapshot_refusal, sym, ℕ}
use Rattle.dv_window.proofs.Vocabulary.{◌∙◌, ◌≡◌}
use Rattle.dv_window.proofs.RefusedStates.{refusal_told, refused_first, refused_large}

module _ (hashes : Hashes) (state : State) (raw : RawVault) (heads : List SnapHead) (date : ℕ) (of : IsOf hashes state raw heads) where
  abbrev own_head : SnapHead
  own_head = (snapshot raw.mapping hashes state.sealed date).head

  last_is : last_load state.sealed ≡ last_sealed raw.heads
  last_is = last_same state.sealed ∙ ap last_sealed (sym of.sealed_are.heads_are)

  early_is : early_refusal (last_load state.sealed) (heads_of_state raw.mapping hashes state) date ≡ early_refusal (last_sealed raw.heads) heads date
  early_is i = early_refusal (last_is i) (sym of.heads_are i) date

  -- a refusal that the date alone gives
  pub refused_early : (answer : SnapAnswer) → early_refusal (last_sealed raw.heads) heads date ≡ Some answer → snapshot_refusal raw.mapping hashes state date ≡ Some answer
  refused_early answer early = refused_first raw.mapping hashes state date answer (early_is ∙ early)

  -- one that a path gives
  pub refused_by_path : (path : ℕ) → early_refusal (last_sealed raw.heads) heads date ≡ None → first_large raw.mapping state.sealed date ≡ Some path → snapshot_refusal raw.mapping hashes state date ≡ Some (TooLarge path)
  refused_by_path path early large = refused_large raw.mapping hashes state date path (early_is ∙ early) large

  module _ (head : SnapHead) (tables : List SnapTable) (tables_are : tables ≡ snap_tables raw.mapping hashes state.sealed date) (head_is : head ≡ snap_head date tables) where
    head_told : head ≡ own_head
    head_told = head_is ∙ ap (snap_head date) tables_are

    -- one that its head gives, or none
    pub refused_late : early_refusal (last_sealed raw.heads) heads date ≡ None → first_large raw.mapping state.sealed date ≡ None → (refusal : Option SnapAnswer) → late_refusal heads head ≡ refusal → snapshot_refusal raw.mapping hashes state date ≡ refusal
    refused_late early large refusal late =
        refusal_told raw.mapping hashes state date (early_is ∙ early) large
        ∙ (λ i. late_refusal (sym of.heads_are i) (sym head_told i))
        ∙ late

    -- it is the snapshot of the state
    pub snapshot_is : record { head = head; tables = tables } ≡ snapshot raw.mapping hashes state.sealed date
    snapshot_is i = record { head = head_told i; tables = tables_are i }
