-- An office and its keeper's store with a snapshot that was kept, or broken off.
use Rattle.dv_window.proofs.Vocabulary.{Agrees, AgreesUnlessStale, Changes, Err, Failed, Hashes, Held, IsFree, IsIn, IsSnapshotIn, KeeperError, KeepsTo, List, Mapping, MayKeep, Memory, None, Ok, Option, Snap, SnapHead, Some, Stands, StandsFor, State, Store, Told, and_from, ap, changed, dates_are}
use Rattle.dv_window.proofs.Vocabulary.{false, head_cmp, heads_of_state, in_place, inl, inr, insert, insert-map, insert_by, is_failed, is_free, is_new_snapshot, length, list_any, list_any-map, map, nat_cmp, nat_le, not, place_or_len, position, position_or_len, refl, snap_cmp, snapshot}
use Rattle.dv_window.proofs.Vocabulary.{snapshot_refusal, snapshot_stands_for, subst, sym, true, unwrap_or, with_date, with_date_valid, with_snapshot, ℕ, ◌==◌, ◌∙◌, ◌≡◌}

-- the heads of snapshots with one more
abbrev pub heads_with : Snap → List SnapHead → List SnapHead
heads_with snap heads = insert_by head_cmp snap.head heads

-- an office with one snapshot more
abbrev pub held_beside : Snap → Held → Held
held_beside snap held = record held { snapshots = heads_with snap held.snapshots }

-- the heads of snapshots, where one is put among them
same_heads : (snap : Snap) (snaps : List Snap) → heads_with snap (map (λ (s : Snap). s.head) snaps) ≡ map (λ (s : Snap). s.head) (insert_by snap_cmp snap snaps)
same_heads = insert-map (λ (s : Snap). s.head) snap_cmp head_cmp (λ a b. refl)

-- ---- among others

module _ (heads : List SnapHead) (snap : Snap) (may : MayKeep heads snap) where
  pub put_in_place : insert heads (position_or_len (λ (other : SnapHead). nat_le snap.head.date other.date) heads) snap.head ≡ heads_with snap heads
  put_in_place = in_place (λ (head : SnapHead). head.date) snap.head heads may.new

  -- heads with one more before the first that is not earlier
  pub made_with : (given made : List SnapHead) → given ≡ heads → made ≡ insert given (unwrap_or (position (λ (other : SnapHead). nat_le snap.head.date other.date) given) (length given)) snap.head → made ≡ heads_with snap heads
  made_with given made same is =
      is ∙ ap (λ (others : List SnapHead). insert others (unwrap_or (position (λ (other : SnapHead). nat_le snap.head.date other.date) others) (length others)) snap.head) same
      ∙ ap (λ place. insert heads place snap.head) (place_or_len (λ (other : SnapHead). nat_le snap.head.date other.date) heads)
      ∙ put_in_place

  -- it is new in a store that has them
  pub new_there : (store : Store) → heads ≡ map (λ (s : Snap). s.head) store.snapshots → is_new_snapshot snap store.snapshots ≡ true
  new_there store are =
      let absent : list_any (λ (other : Snap). other.head.date == snap.head.date) store.snapshots ≡ false =
      sym (list_any-map (λ (other : SnapHead). other.date == snap.head.date) (λ (s : Snap). s.head) store.snapshots) ∙ ap (list_any (λ (other : SnapHead). other.date == snap.head.date)) (sym are) ∙ may.new in
      and_from _ _ (ap not absent) may.apart

-- ---- what the keeper answers

module _ (held : Held) (snap : Snap) where
  -- its store agrees
  agrees_beside : (before after : Option Store) → Told before (Agrees held) → after ≡ changed (with_snapshot snap) before → Told after (Agrees (held_beside snap held))
  agrees_beside None after agrees is now e = absurd (no (sym is ∙ e))
    where
      no : None ≡ Some now → ⊥
      no e = cc
  agrees_beside (Some was) after agrees is now e =
      let agreed = agrees was refl in
      let same : Some (with_snapshot snap was) ≡ Some now = sym is ∙ e in
      let here : with_snapshot snap was ≡ now = cc in
      subst (Agrees (held_beside snap held)) here (record {
        mapped = agreed.mapped;
        kept = record {
          windows = agreed.kept.windows;
          stage = agreed.kept.stage;
          tables_are = agreed.kept.tables_are;
          snapshots_are = ap (heads_with snap) agreed.kept.snapshots_are ∙ same_heads snap was.snapshots;
        };
      })

  pub agrees_kept : (held' : Held) (before after : Option Store) → Told before (Agrees held) → held' ≡ held_beside snap held → after ≡ changed (with_snapshot snap) before → AgreesUnlessStale held' after
  agrees_kept held' before after agrees is stored = λ fresh. subst (λ (held : Held). Told after (Agrees held)) (sym is) (agrees_beside before after agrees stored)

  pub agrees_broken : (error : KeeperError) (held' : Held) (before after : Option Store) → Told before (Agrees held) → held' ≡ record held { stale = is_failed error } → Changes {T = Unit {0}} (with_snapshot snap) before after (Err error) → AgreesUnlessStale held' after
  agrees_broken Memory held' before after agrees is same = λ fresh.
      subst (λ (h : Held). Told after (Agrees h)) (sym is) (subst (λ store. Told store (Agrees (record held { stale = false }))) (sym same) (λ store at.
      let agreed = agrees store at in record { mapped = agreed.mapped; kept = agreed.kept }))
  agrees_broken Failed held' before after agrees is changes = λ fresh. absurd (no (sym (ap (λ (h : Held). h.stale) is) ∙ fresh))
    where
      no : true ≡ false → ⊥
      no e = cc

module _ (hashes : Hashes) (state : State) (held : Held) (before : Option Store) (fresh : held.stale ≡ false) (is_in : IsIn hashes state held before) (snap : Snap) (of_state : IsSnapshotIn held.vault.mapping hashes state snap) where
  abbrev mapping : Mapping
  mapping = held.vault.mapping

  stands : StandsFor hashes state held
  stands = is_in.stands fresh

  snap_is : snap ≡ snapshot mapping hashes state.sealed snap.head.date
  snap_is = of_state.0

  none : snapshot_refusal mapping hashes state snap.head.date ≡ None
  none = of_state.1

  free : IsFree mapping hashes state snap.head.date
  free = is_free mapping hashes state snap.head.date none

  abbrev head_at : ℕ → SnapHead
  head_at date = (snapshot mapping hashes state.sealed date).head

  -- the heads are those of the state with the date
  heads_are : heads_with snap held.snapshots ≡ heads_of_state mapping hashes (with_date snap.head.date state)
  heads_are =
      (λ i. insert_by head_cmp (snap_is i).head (stands.snapshots_are i))
      ∙ insert-map head_at nat_cmp head_cmp (λ a b. refl) snap.head.date state.dates
      ∙ ap (map head_at) (sym (dates_are mapping hashes state snap.head.date stands.valid free))

  beside_stands : StandsFor hashes (with_date snap.head.date state) (held_beside snap held)
  beside_stands = record {
    valid = with_date_valid mapping hashes state snap.head.date stands.valid free;
    sealed_are = stands.sealed_are;
    begun_is = stands.begun_is;
    snapshots_are = heads_are;
  }

  store_beside : (before after : Option Store) → Told before (Stands mapping hashes state) → after ≡ changed (with_snapshot snap) before → Told after (Stands mapping hashes (with_date snap.head.date state))
  store_beside None after told is now e = absurd (no (sym is ∙ e))
    where
      no : None ≡ Some now → ⊥
      no e = cc
  store_beside (Some was) after told is now e =
      let same : Some (with_snapshot snap was) ≡ Some now = sym is ∙ e in
      let here : with_snapshot snap was ≡ now = cc in
      subst (Stands mapping hashes (with_date snap.head.date state)) (ap (λ s. with_snapshot s was) (sym snap_is) ∙ here)
      (snapshot_stands_for mapping hashes state snap.head.date was (told was refl) none)

  -- it was stored
  pub stored_step : (held' : Held) (after : Option Store) → held' ≡ held_beside snap held → after ≡ changed (with_snapshot snap) before → KeepsTo mapping hashes state snap.head (Ok tt) held' after
  stored_step held' after is stored = (
    with_date snap.head.date state,
    (none, refl, ap (λ (s : Snap). s.head.rows) snap_is),
    record {
      stands = λ same. subst (StandsFor hashes (with_date snap.head.date state)) (sym is) beside_stands;
      store_stands = subst (λ (held : Held). Told after (Stands held.vault.mapping hashes (with_date snap.head.date state))) (sym is) (store_beside before after is_in.store_stands stored);
    },
  )

  -- it was not
  pub broken_step : (error : KeeperError) (held' : Held) (after : Option Store) → held' ≡ record held { stale = is_failed error } → Changes {T = Unit {0}} (with_snapshot snap) before after (Err error) → KeepsTo mapping hashes state snap.head (Err error) held' after
  broken_step Memory held' after is same =
      let as_before : held' ≡ held = is ∙ (λ i. record held { stale = sym fresh i }) in (
        state,
        refl,
        record {
          stands = λ e. subst (StandsFor hashes state) (sym as_before) stands;
          store_stands = subst (λ (held : Held). Told after (Stands held.vault.mapping hashes state)) (sym as_before) (subst (λ store. Told store (Stands mapping hashes state)) (sym same) is_in.store_stands);
        },
      )
  broken_step Failed held' after is (inl same) = (
    state,
    inl refl,
    record {
      stands = λ e. absurd (no (sym (ap (λ (held : Held). held.stale) is) ∙ e));
      store_stands = subst (λ (held : Held). Told after (Stands held.vault.mapping hashes state)) (sym is) (subst (λ store. Told store (Stands mapping hashes state)) (sym same) is_in.store_stands);
    },
  )
    where
      no : true ≡ false → ⊥
      no e = cc
  broken_step Failed held' after is (inr stored) = (
    with_date snap.head.date state,
    inr (none, refl),
    record {
      stands = λ e. absurd (no (sym (ap (λ (held : Held). held.stale) is) ∙ e));
      store_stands = subst (λ (held : Held). Told after (Stands held.vault.mapping hashes (with_date snap.head.date state))) (sym is) (store_beside before after is_in.store_stands stored);
    },
  )
    where
      no : true ≡ false → ⊥
      no e = cc
