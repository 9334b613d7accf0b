-- What an office and its keeper's store are left in where a window was taken, or broken off.
use Rattle.dv_window.proofs.Vocabulary.{Became, Begun, Bool, BrokeAt, BrokeOff, CompletesAs, Err, Failed, HasLeft, Hashes, Held, IsIn, IsLeftIn, KeeperError, MayBeLeft, Memory, None, Ok, Option, Result, Some, Stands, StandsFor, State, Store, TakesWindow, Told, TookOrBroke, Window, false}
use Rattle.dv_window.proofs.Vocabulary.{held_broken, held_with, inl, inr, is_valid, opened, refl, same_Some, sealed_with, subst, sym, tables_whole, true, ℕ, ◌∙◌, ◌≡◌, ◌⊎◌}
use Rattle.dv_window.proofs.Growths.{CanAdd, left_stands, open_stands, opened_stands_for, sealed_stands, sealed_stands_for}

-- the states that a broken window may be left in
abbrev pub LeftState : State → Window → State → Type 0
LeftState state window state' = (state' ≡ state) ⊎ ((state' ≡ opened window state) ⊎ (state' ≡ sealed_with window state))

module _ (hashes : Hashes) (state : State) (held : Held) (stands : StandsFor hashes state held) (valid_mapping : is_valid held.vault.mapping ≡ true) (window : Window) (begun : Begun)
    (can : CanAdd hashes state.sealed held.vault window begun) (before : Option Store) (told : Told before (Stands held.vault.mapping hashes state)) where
  -- a window that was taken
  pub taken : (held' : Held) (after : Option Store) → held' ≡ held_with begun held → TakesWindow begun.window (tables_whole held.vault.tables begun.parts.items) before after
      → IsLeftIn hashes (sealed_with window state) held' after
  taken held' after is takes = record {
    stands = λ fresh. subst (StandsFor hashes (sealed_with window state)) (sym is) (sealed_stands_for hashes state held stands valid_mapping window begun can);
    store_stands = λ now e.
        let (was, at, took) = takes now e in
        subst (λ (held : Held). Stands held.vault.mapping hashes (sealed_with window state) now) (sym is) (sealed_stands hashes state held stands valid_mapping window begun can was (told was at) now took);
  }

  -- the office and the store are left in one of these
  abbrev pub Left : Held → Option Store → Type 0
  Left held' after = (state' : State) × LeftState state window state' × IsLeftIn hashes state' held' after

  -- a store that is told
  store_left : (was now : Store) → Stands held.vault.mapping hashes state was → BrokeOff held.vault.tables begun was now
      → (state' : State) × LeftState state window state' × Stands held.vault.mapping hashes state' now
  store_left was now stood (inl same) = (state, inl refl, subst (Stands held.vault.mapping hashes state) (sym same) stood)
  store_left was now stood (inr (inl (k, within, is_open))) =
      (opened window state, inr (inl refl), open_stands hashes state held stands valid_mapping window begun can was stood now k within is_open)
  store_left was now stood (inr (inr took)) = (sealed_with window state, inr (inr refl), sealed_stands hashes state held stands valid_mapping window begun can was stood now took)

  -- the keeper failed: the office is stale
  failed_left : (left : Option Begun) (after : Option Store) → Became (BrokeOff held.vault.tables begun) before after → Left (held_broken Failed left held) after
  failed_left left None broke = (state, inl refl, record { stands = λ no. cc; store_stands = λ now e. cc })
  failed_left left (Some now) broke =
      let (was, at, how) = broke now refl in
      let (state', which, stood) = store_left was now (told was at) how in
      (state', which, record { stands = λ no. cc; store_stands = λ other e. subst (Stands held.vault.mapping hashes state') (same_Some now other e) stood })

  -- memory ran out: the office has what is left of the window
  memory_left : (is_open : Bool) (left : Option Begun) (after : Option Store) → (is_open ≡ false → held.begun ≡ None) → held.stale ≡ false → MayBeLeft is_open begun left
      → Became (HasLeft held.vault.tables left) before after → Left (held_broken Memory left held) after
  memory_left is_open None after none fresh closed has = (
    state,
    inl refl,
    record {
      stands = λ e. subst (λ begun. StandsFor hashes state (record held { begun = begun; stale = false })) (none closed) (subst (λ stale. StandsFor hashes state (record held { stale = stale })) fresh stands);
      store_stands = λ now e.
          let (was, at, same) = has now e in
          subst (Stands held.vault.mapping hashes state) (sym same) (told was at);
    },
  )
  memory_left is_open (Some left) after none fresh of has = (
    opened window state,
    inr (inl refl),
    record {
      stands = λ e. opened_stands_for hashes state held stands valid_mapping window begun can left of false;
      store_stands = λ now e.
          let (was, at, staged_now) = has now e in
          left_stands hashes state held stands valid_mapping window begun can was (told was at) now left of staged_now;
    },
  )

  -- a window that was broken off
  pub broken : (is_open : Bool) (error : KeeperError) (held' : Held) (after : Option Store) → held.stale ≡ false → (broke : BrokeAt is_open begun error held held' before after) → (is_open ≡ false → held.begun ≡ None)
      → Left held' after
  broken is_open Failed held' after fresh broke none = subst (λ held. Left held after) (sym broke.held_is) (failed_left broke.left after broke.broke.broke)
  broken is_open Memory held' after fresh broke none =
      subst (λ held. Left held after) (sym broke.held_is) (memory_left is_open broke.left after none fresh broke.broke.left (broke.broke.exact refl))

-- ---- whatever is told of the store

-- an office that isn't stale, beside a store that is not told
pub untold_in : (hashes : Hashes) (state : State) (held : Held) → StandsFor hashes state held → held.stale ≡ false → IsIn hashes state held None
untold_in hashes state held stands fresh = record {
  stands = λ same. stands;
  told = λ stale. absurd (no (sym fresh ∙ stale));
  store_stands = λ store e. cc;
}
  where
    no : false ≡ true → ⊥
    no e = cc

-- a window that was taken, or broken off
pub untold : (is_open : Bool) (begun : Begun) (held held' : Held) (before after : Option Store) (result : Result ℕ KeeperError) → TookOrBroke is_open begun held held' before after result
    → TookOrBroke is_open begun held held' None None result
untold is_open begun held held' before after (Ok rows) (rows_are, is, took) = (rows_are, is, λ now e. cc)
untold is_open begun held held' before after (Err error) broke = record {
  left = broke.left;
  held_is = broke.held_is;
  broke = record { broke = λ now e. cc; left = broke.broke.left; exact = λ same now e. cc };
}

-- the open window that was completed, or broken off
pub untold_open : (held held' : Held) (before after : Option Store) (result : Result ℕ KeeperError) → CompletesAs held held' before after result → CompletesAs held held' None None result
untold_open held held' before after result came = record {
  begun = came.begun;
  begun_is = came.begun_is;
  may_be = came.may_be;
  came = untold true came.begun held held' before after result came.came;
}
