-- A batch: the rows that a window adds to a table, made of some things and put in order. A table: its batches, one after
-- another.
use Rattle.std.specs.Prelude.{◌≡◌, ℕ, List, [], ◌∷◌, ◌++◌, Option, Some, Contains}
use Rattle.std.specs.List.{filter_map}
use Rattle.std.specs.List.Sorted.{IsStrictlySortedBy}
use Rattle.std.specs.declared.cmp.Ordering.{Ordering}
use Rattle.std.specs.Ordering.{nat_cmp}
use Rattle.std.specs.Cmp.Lexicographic.{slice_cmp}
use Rattle.dv_text.specs.Sorting.{sorted_by}

-- digests by their bytes
abbrev pub digest_cmp : List ℕ → List ℕ → Ordering
digest_cmp = slice_cmp nat_cmp

-- a batch: the rows of the things that have one, in order
abbrev pub batch_of : {T R : Type 0} → (R → R → Ordering) → (T → Option R) → List T → List R
batch_of cmp row_of things = sorted_by cmp (filter_map row_of things)

-- the same said of a list: it ascends strictly, has only rows of the things, and has each of them
pub record IsBatchOf {T R : Type 0} (cmp : R → R → Ordering) (row_of : T → Option R) (things : List T) (rows : List R) : Type 0 where
  pub ascending : IsStrictlySortedBy cmp rows
  pub only : (row : R) → Contains rows row → (thing : T) × Contains things thing × (row_of thing ≡ Some row)
  pub each : (thing : T) (row : R) → Contains things thing → row_of thing ≡ Some row → Contains rows row

-- the same where no other thing has a row, so that the things need no mention
pub record IsWholeBatch {T R : Type 0} (cmp : R → R → Ordering) (row_of : T → Option R) (rows : List R) : Type 0 where
  pub ascending : IsStrictlySortedBy cmp rows
  pub only : (row : R) → Contains rows row → (thing : T) × (row_of thing ≡ Some row)
  pub each : (thing : T) (row : R) → row_of thing ≡ Some row → Contains rows row

-- a table: the batches of events, which stand the newest first, each made of the events before it and the event itself;
-- the oldest batch comes first
abbrev pub appended : {E R : Type 0} → (List E → E → List R) → List E → List R
appended batch [] = []
appended batch (newest ∷ older) = appended batch older ++ batch older newest
