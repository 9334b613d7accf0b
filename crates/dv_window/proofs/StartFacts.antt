-- The office of no windows stands for the beginning, and what is restored of a store for the store's state.
use Rattle.dv_window.proofs.Vocabulary.{Hashes, Held, IsMappedAs, IsOfState, IsOpenBehind, IsReadAs, Mapping, None, Option, Some, StandsFor, State, Store, [], and_from, ap, beginning, map, no_rows, none_sealed, none_valid, refl, subst, sym, tables, ◌∙◌, ◌≡◌}

module _ (mapping : Mapping) (held : Held) (mapping_is : held.vault.mapping ≡ mapping) (tables_are : held.vault.tables ≡ map (λ id. record { table = id; rows = no_rows id }) (tables mapping))
    (no_heads : held.vault.heads ≡ []) (none_open : held.begun ≡ None) (no_snapshots : held.snapshots ≡ []) where
  own_tables : held.vault.tables ≡ map (λ id. record { table = id; rows = no_rows id }) (tables held.vault.mapping)
  own_tables = tables_are ∙ ap (λ (m : Mapping). map (λ id. record { table = id; rows = no_rows id }) (tables m)) (sym mapping_is)

  pub stands_new : (hashes : Hashes) → StandsFor hashes beginning held
  stands_new hashes = record {
    valid = and_from _ _ (none_valid held.vault.mapping hashes) refl;
    sealed_are = none_sealed hashes held.vault own_tables no_heads;
    begun_is = subst (IsOpenBehind held.vault.mapping hashes [] None) (sym none_open) tt;
    snapshots_are = no_snapshots;
  }

-- an office of what is of a state
pub stands_as : (hashes : Hashes) (state : State) (held : Held) → IsOfState hashes state held.vault held.begun held.snapshots → StandsFor hashes state held
stands_as hashes state held is = record { valid = is.valid; sealed_are = is.sealed_are; begun_is = is.begun_is; snapshots_are = is.snapshots_are }

-- what is read of a keeper's mapping, where one is stored and where none is
pub none_of : {A : Type 0} (o : Option A) → ((x : A) → o ≡ Some x → ⊥) → o ≡ None
none_of None not = refl
none_of (Some x) not = absurd (not x refl)

module _ (stored : Option Mapping) (store : Store) (is : IsMappedAs stored store) where
  pub read_as : (mapping : Mapping) → stored ≡ Some mapping → IsReadAs mapping store
  read_as mapping some = subst (λ (o : Option Mapping). IsMappedAs o store) some is

  pub none_stored : ((mapping : Mapping) → stored ≡ Some mapping → ⊥) → store.mapping ≡ None
  none_stored not = subst (λ (o : Option Mapping). IsMappedAs o store) (none_of stored not) is
