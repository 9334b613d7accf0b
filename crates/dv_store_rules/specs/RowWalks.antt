-- The rules of a row that stand the same for all kinds of rows, and what a walk over rows finds of them.
use Rattle.std.specs.Option.{option_or}
use Rattle.std.specs.Prelude.{◌≡◌, ◌<◌, ℕ, ◌+◌, nat_le, Bool, true, List, [], ◌∷◌, ◌++◌, Option, Some, None, length, slice_get, sum_by, take}
use Rattle.std.specs.declared.cmp.Ordering.{Ordering}
use Rattle.std.specs.Str.{bytes_eq}
use Rattle.dv_text.specs.Keys.{Hashes}
use Rattle.dv_digest.specs.Fits.{attrs_fit, refs_fit}
use Rattle.dv_index.specs.Places.{Place, last_of}
use Rattle.dv_records.specs.Limits.{most_weight}
use Rattle.dv_store_rules.specs.declared.flaws.Fault.{Fault}
use Rattle.dv_store_rules.specs.declared.flaws.Fault.TheVariants.{Flawed, Memory}
use Rattle.dv_store_rules.specs.declared.flaws.Flaw.{Flaw}
use Rattle.dv_store_rules.specs.declared.hashed.Hashed.{Hashed}
use Rattle.dv_store_rules.specs.declared.hashed.Hashed.TheVariants.{Diff, Key, Nothing}
use Rattle.dv_store_rules.specs.declared.row_walks.Walked.{Walked}
use Rattle.dv_store_rules.specs.declared.row_walks.Walked.TheVariants.{Broken, Heavy, Whole}
use Rattle.dv_store_rules.specs.Flaws.{if_broken}
use Rattle.dv_store_rules.specs.FormRules.{follows}

-- ---- where no row breaks a rule

-- none of so many first rows breaks a rule
abbrev pub AreClear : {R : Type 0} → (List R → R → Option ℕ) → List R → ℕ → Type 0
AreClear {R} rule_of rows count = (place : ℕ) (row : R) → place < count → slice_get rows place ≡ Some row → rule_of (take place rows) row ≡ None

-- the row at a place breaks this rule
abbrev pub Breaks : {R : Type 0} → (List R → R → Option ℕ) → List R → ℕ → ℕ → Type 0
Breaks {R} rule_of rows place rule = (row : R) × (slice_get rows place ≡ Some row) × (rule_of (take place rows) row ≡ Some rule)

-- a flaw is the first one: it is that of the row at a place, and no row before it breaks a rule
pub record IsFirst {R : Type 0} (rule_of : List R → R → Option ℕ) (rows : List R) (flaw : Flaw) : Type 0 where
  pub place : ℕ
  pub numbered : flaw.row ≡ place + 1
  pub clear : AreClear rule_of rows place
  pub breaks : Breaks rule_of rows place flaw.rule

-- what a fault tells of the first flaw
abbrev pub TellsFlaw : Fault → Option Flaw → Type 0
TellsFlaw (Flawed flaw) first = first ≡ Some flaw
TellsFlaw Memory first = Unit

-- ---- the rules of rows of any kind

-- what is asked of a hash that stands in a row: nothing, that it is the hash key of a key, or the hash difference of
-- attributes
abbrev pub is_hashed : Hashes → Hashed → Bool
is_hashed hashes Nothing = true
is_hashed hashes (Key digest key) = bytes_eq digest (hashes.hash (key.now ∷ []))
is_hashed hashes (Diff digest attrs) = bytes_eq digest (hashes.diff attrs.now)

-- what is hashed fits a room
abbrev pub hashed_fits : Hashed → Bool
hashed_fits Nothing = true
hashed_fits (Key digest key) = refs_fit (key.now ∷ [])
hashed_fits (Diff digest attrs) = attrs_fit attrs.now

-- the rules of a row by itself: those before that of the hash, that, and those behind it
abbrev pub own_of : {R : Type 0} → (ℕ → R → Bool → Option ℕ) → (Hashes → R → Bool) → (ℕ → R → Option ℕ) → Hashes → ℕ → R → Bool → Option ℕ
own_of early hashed late hashes width row behind = option_or (early width row behind) (option_or (if_broken 7 (hashed hashes row)) (late width row))

-- those of a row by itself, and whether it stands behind the one before it
abbrev pub own_rule : {R : Type 0} → (R → Place) → (R → R → Ordering) → (R → Bool → Option ℕ) → List R → R → Option ℕ
own_rule place order own before row = own row (follows (λ other. (place other).load) order before row)

-- that of a row beside the last row of its parent before it
abbrev pub turn_rule : {R : Type 0} → (R → Place) → (Option R → R → Bool) → ℕ → List R → R → Option ℕ
turn_rule place fits rule before row = if_broken rule (fits (last_of place before (place row).parent) row)

-- that of the weight, where what was read before weighs so much
abbrev pub weight_rule : {R : Type 0} → (R → ℕ) → ℕ → List R → R → Option ℕ
weight_rule weight_of weight before row = if_broken 13 (nat_le (weight + sum_by weight_of (before ++ row ∷ [])) most_weight)

-- the first of these by number, without and with a rule of turns
abbrev pub plain_rule : {R : Type 0} → (R → Place) → (R → R → Ordering) → (R → Bool → Option ℕ) → (R → ℕ) → ℕ → List R → R → Option ℕ
plain_rule place order own weight_of weight before row = option_or (own_rule place order own before row) (weight_rule weight_of weight before row)

abbrev pub turning_rule : {R : Type 0} → (R → Place) → (R → R → Ordering) → (R → Bool → Option ℕ) → (Option R → R → Bool) → ℕ → (R → ℕ) → ℕ → List R → R → Option ℕ
turning_rule place order own fits rule weight_of weight before row =
    option_or (own_rule place order own before row) (option_or (turn_rule place fits rule before row) (weight_rule weight_of weight before row))

-- ---- a walk over rows

-- how far a walk comes: over all rows; up to one that breaks a rule by itself; or up to one with which they weigh too much
abbrev pub IsWalked : {R : Type 0} → (R → Place) → (R → R → Ordering) → (R → Bool → Option ℕ) → (R → ℕ) → ℕ → List R → Walked → Type 0
IsWalked place order own weight_of weight rows (Whole sum) =
    (sum ≡ weight + sum_by weight_of rows) × AreClear (own_rule place order own) rows (length rows) × AreClear (weight_rule weight_of weight) rows (length rows)
IsWalked place order own weight_of weight rows (Broken at rule) =
    (at < length rows) × AreClear (own_rule place order own) rows at × AreClear (weight_rule weight_of weight) rows at × Breaks (own_rule place order own) rows at rule
IsWalked place order own weight_of weight rows (Heavy at) =
    (at < length rows) × AreClear (own_rule place order own) rows (at + 1) × AreClear (weight_rule weight_of weight) rows at × Breaks (weight_rule weight_of weight) rows at 13
