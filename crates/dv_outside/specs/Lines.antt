-- The connections of doors: those that are to come, how many were given, and those that were taken back.
use Rattle.std.specs.Prelude.{◌≡◌, ℕ, ◌+◌, ◌<◌, List, [], ◌∷◌, ◌++◌, length, Option, Some, None}

pub record Lines (L : Type 0) : Type 0 where
  pub coming : List L
  pub given : ℕ
  pub served : List L

-- the first that was to come is given, or there is none
abbrev pub GivesFirst : {L : Type 0} → Lines L → Option (Lines L) → Option L → Type 0
GivesFirst old new None = (old.coming ≡ []) × (new ≡ Some old)
GivesFirst {L} old new (Some line) =
    (rest : List L) × (old.coming ≡ line ∷ rest)
    × (new ≡ Some (record { coming = rest; given = old.given + 1; served = old.served }))

abbrev pub GivesNext : {L : Type 0} → Option (Lines L) → Option (Lines L) → Option L → Type 0
GivesNext None new line = new ≡ None
GivesNext (Some old) new line = GivesFirst old new line

-- fewer were taken back than given, where that is told
abbrev pub MayTakeBack : {L : Type 0} → Option (Lines L) → Type 0
MayTakeBack None = Unit {0}
MayTakeBack (Some lines) = length lines.served < lines.given

-- this one is the last that was taken back
abbrev pub with_back : {L : Type 0} → Option (Lines L) → L → Option (Lines L)
with_back None line = None
with_back (Some lines) line = Some (record { coming = lines.coming; given = lines.given; served = lines.served ++ line ∷ [] })
