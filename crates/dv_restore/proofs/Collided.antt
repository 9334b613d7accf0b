-- A window that makes a collision in a vault has no place there.
use Rattle.dv_restore.proofs.Vocabulary.{All-contains, AreAllApart, Bool, ClashesAt, Contains, Contains-cons_there, HasNoClash, Hashes, Key, List, None, Option, RawVault, Some, TableId, TableRows, Window, compared_in, false, false≢true, hashed_by, hashed_in, hub_names, item_in, missing_in, refl}
use Rattle.dv_restore.proofs.Vocabulary.{subst, sym, true, ◌↔◌, ◌∙◌, ◌≡◌}
use Rattle.dv_vault.specs.declared.additions.AdditionFault.TheVariants as fault

pub no_place : (hashes : Hashes) (raw : RawVault) (window : Window) (table : TableId) (first second : List Key) → ClashesAt raw.mapping hashes (hub_names raw.mapping raw.tables) window raw.tables (fault.Collision table first second) → AreAllApart hashes raw window → ⊥
no_place hashes raw window table first second clash apart =
    let member = subst (λ (tables : List TableRows). Contains tables clash.entry) (sym clash.split) (item_in clash.before clash.entry clash.behind) in
    let more = Contains-cons_there (hashed_by hashes (missing_in raw.mapping clash.entry.table)) (hashed_in raw.mapping hashes (hub_names raw.mapping raw.tables) window clash.entry) in
    All-contains (λ (entry : TableRows). HasNoClash (compared_in raw.mapping hashes (hub_names raw.mapping raw.tables) window entry)) raw.tables clash.entry apart member (record { first = first; second = second })
    (record { digest = clash.is.is.digest; has_first = more _ clash.is.is.has_first; has_second = more _ clash.is.is.has_second; ordered = clash.is.is.ordered })

-- what has room passes the test for it
pub room_left : {R : Type 0} (o : Option R) (full : Bool) → (full ≡ true) ↔ (o ≡ None → ⊥) → full ≡ false → o ≡ None
room_left None full is not_full = refl
room_left (Some rule) full is not_full = absurd (false≢true (sym not_full ∙ is.1 (λ e. cc)))
