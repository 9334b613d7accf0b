-- A keeper's store agrees with an office again after a window, or with what is left of it.
use Rattle.dv_window.proofs.Vocabulary.{Agrees, AgreesUnlessStale, Became, Begun, Bool, Err, Failed, Fits, HasKept, HasLeft, HasRows, Hashes, Held, IfSome, IsMappedBy, IsPlan, KeeperError, List, MayBeLeft, Memory, None, Ok, Option, RawVault, Result, Snap, Some, Store, TakesWindow}
use Rattle.dv_window.proofs.Vocabulary.{Told, TookOrBroke, Window, WindowHead, WindowIn, [], ap, false, fits_left, head_of, held_broken, held_with, map, none_opened, option_map, refl, staged, subst, sym, tables_there, tables_whole, true, ℕ, ◌++◌, ◌∙◌, ◌∷◌, ◌≡◌}

agrees_taken : (held : Held) (begun : Begun) (before after : Option Store) → Told before (Agrees held) → TakesWindow begun.window (tables_whole held.vault.tables begun.parts.items) before after → Told after (Agrees (held_with begun held))
agrees_taken held begun before after told takes now e =
    let (was, at, took) = takes now e in
    let agreed = told was at in
    record {
      mapped = subst (IsMappedBy held.vault.mapping) (ap (λ (s : Store). s.mapping) (sym took.beside)) agreed.mapped;
      kept = record {
        windows = took.windows_are ∙ ap (λ (windows : List WindowHead). windows ++ head_of begun.window ∷ []) agreed.kept.windows;
        stage = took.stage_is;
        tables_are = took.tables_are;
        snapshots_are = agreed.kept.snapshots_are ∙ ap (λ (s : Store). map (λ (snap : Snap). snap.head) s.snapshots) (sym took.beside);
      };
    }

-- where memory ran out
agrees_left : (held : Held) (left : Option Begun) (before after : Option Store) → Told before (Agrees held) → (left ≡ None → held.begun ≡ None) → Became (HasLeft held.vault.tables left) before after
    → Told after (Agrees (held_broken Memory left held))
agrees_left held None before after told none has now e =
    let (was, at, same) = has now e in
    subst (Agrees (held_broken Memory None held)) (sym same)
    (subst (λ begun. Agrees (record held { begun = begun; stale = false }) was) (none refl) (record { mapped = (told was at).mapped; kept = (told was at).kept }))
agrees_left held (Some left) before after told none has now e =
    let (was, at, is_open) = has now e in
    let agreed = told was at in
    record {
      mapped = subst (IsMappedBy held.vault.mapping) (ap (λ (s : Store). s.mapping) (sym is_open.beside)) agreed.mapped;
      kept = record {
        windows = is_open.windows_are ∙ agreed.kept.windows;
        stage = is_open.stage_is;
        tables_are = is_open.tables_are;
        snapshots_are = agreed.kept.snapshots_are ∙ ap (λ (s : Store). map (λ (snap : Snap). snap.head) s.snapshots) (sym is_open.beside);
      };
    }

-- nothing is left only of a window that was not opened
closed_none : (is_open : Bool) (begun : Begun) (left : Option Begun) → MayBeLeft is_open begun left → left ≡ None → is_open ≡ false
closed_none is_open begun None may e = may
closed_none is_open begun (Some left) may e = cc

pub agrees_then : (held : Held) (is_open : Bool) (begun : Begun) (held' : Held) (before after : Option Store) → Told before (Agrees held) → (is_open ≡ false → held.begun ≡ None) → (result : Result ℕ KeeperError)
    → TookOrBroke is_open begun held held' before after result → AgreesUnlessStale held' after
agrees_then held is_open begun held' before after told none (Ok rows) (rows_are, is, took) = λ fresh. subst (λ (held : Held). Told after (Agrees held)) (sym is) (agrees_taken held begun before after told took)
agrees_then held is_open begun held' before after told none (Err Failed) broke = λ fresh. absurd (by (sym (ap (λ (held : Held). held.stale) broke.held_is) ∙ fresh))
  where
    by : true ≡ false → ⊥
    by e = cc
agrees_then held is_open begun held' before after told none (Err Memory) broke =
    λ fresh. subst (λ (held : Held). Told after (Agrees held)) (sym broke.held_is) (agrees_left held broke.left before after told (λ e. none (closed_none is_open begun broke.left broke.broke.left e)) (broke.broke.exact refl))

-- ---- no window is open

pub none_staged : (held : Held) → staged held ≡ None → held.begun ≡ None
none_staged held e = by held.begun e
  where
    by : (begun : Option Begun) → option_map (λ (b : Begun). b.window) begun ≡ None → begun ≡ None
    by None none = refl
    by (Some begun) none = cc

pub agrees_closed : (held : Held) (store : Store) → Agrees held store → held.begun ≡ None → (store.stage ≡ None) × HasRows store held.vault.tables
agrees_closed held store agrees none =
    let kept = subst (λ (begun : Option Begun). HasKept held.vault begun held.snapshots store) none agrees.kept in
    (kept.stage, kept.tables_are)

-- a store that has the rows of the vault has those that are there of a window that is to be opened
pub new_tables : (hashes : Hashes) (raw : RawVault) (staged_now : Option Window) (given : WindowIn) (begun : Begun) → IsPlan hashes raw staged_now given begun → (store : Store) → HasRows store raw.tables
    → HasRows store (tables_there raw.tables begun.parts.items)
new_tables hashes raw staged_now given begun plan store has = subst (HasRows store) (sym (none_opened raw.tables begun.parts.items plan.fits.parts plan.adds.none_there)) has

-- what is left of a window may be taken, as it might
pub left_fits : (is_open : Bool) (raw : RawVault) (begun : Begun) (left : Option Begun) → Fits raw begun → MayBeLeft is_open begun left → IfSome left (Fits raw)
left_fits is_open raw begun None fits may = tt
left_fits is_open raw begun (Some left) fits may = fits_left raw begun left fits may

-- what was begun before is not looked at
pub came_with : (is_open : Bool) (begun : Begun) (held held' : Held) (other : Option Begun) (before after : Option Store) (result : Result ℕ KeeperError) → TookOrBroke is_open begun (record held { begun = other }) held' before after result
    → TookOrBroke is_open begun held held' before after result
came_with is_open begun held held' other before after (Ok rows) came = came
came_with is_open begun held held' other before after (Err error) broke = record { left = broke.left; held_is = broke.held_is; broke = broke.broke }
