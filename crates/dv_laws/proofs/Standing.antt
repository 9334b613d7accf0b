-- What the storing of a mapping, and of a snapshot, makes of what a store stands for.
use Rattle.dv_laws.proofs.Vocabulary.{Hashes, InitAnswer, InitBroke, InitStep, IsFresh, IsStored, List, Mapping, None, Some, Stands, StandsAtFirst, State, Store, and_from, beginning, inl, inr, none_in, none_valid, refl, snapshot, subst, sym, tables, ℕ, ◌∙◌, ◌≡◌, ◌≢◌, ◌⊎◌}
use Rattle.dv_records.specs.declared.answers.InitAnswer.TheVariants as init

-- ---- a mapping

pub stored_stands : (file : List ℕ) (store store' : Store) → IsFresh store → InitStep file store init.Stored store' → StandsAtFirst file store'
stored_stands file store store' fresh stored = record {
  mapping = stored.mapping;
  reads = stored.reads;
  stands = λ hashes. subst (Stands stored.mapping hashes beginning) (sym stored.changed) (record {
    valid = and_from _ _ (none_valid stored.mapping hashes) refl;
    mapped = record { text = file; stored_is = refl; reads = stored.reads };
    windows = fresh.windows;
    stage = fresh.stage;
    tables_stand = λ table. fresh.empty table ∙ sym (none_in stored.mapping hashes (tables stored.mapping) table);
    snapshots = fresh.snapshots;
  });
}

pub broken_stands : (file : List ℕ) (store store' : Store) → IsFresh store → InitBroke file store store' → IsFresh store' ⊎ StandsAtFirst file store'
broken_stands file store store' fresh (inl same) = inl (subst IsFresh (sym same) fresh)
broken_stands file store store' fresh (inr stored) = inr (stored_stands file store store' fresh stored)

module _ (mapping : Mapping) (hashes : Hashes) (state : State) (file : List ℕ) (store store' : Store) (stands : Stands mapping hashes state store) where
  not_stored : IsStored file store store' → ⊥
  not_stored stored = let e : None ≡ Some stands.mapped.text = sym stored.none_before ∙ stands.mapped.stored_is in cc

  same_where_broken : InitBroke file store store' → store' ≡ store
  same_where_broken (inl same) = same
  same_where_broken (inr stored) = absurd (not_stored stored)

  pub init_leaves : (answer : InitAnswer) → InitStep file store answer store' → (answer ≢ init.Stored) × (store' ≡ store)
  init_leaves init.Stored stored = absurd (not_stored stored)
  init_leaves init.Kept (stored, both, same) = (λ e. let no : init.Kept ≡ init.Stored = e in cc, same)
  init_leaves init.Differs (stored, new, both, differs, same) = (λ e. let no : init.Differs ≡ init.Stored = e in cc, same)
  init_leaves init.KeeperFault broke = (λ e. let no : init.KeeperFault ≡ init.Stored = e in cc, same_where_broken broke)
  init_leaves init.Memory broke = (λ e. let no : init.Memory ≡ init.Stored = e in cc, same_where_broken broke)
