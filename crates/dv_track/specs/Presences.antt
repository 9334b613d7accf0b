-- The list of parents that are there after the last row of a table, and how rows and extracts change it.
use Rattle.std.specs.Prelude.{◌≡◌, ℕ, Bool, true, false, not, List, [], ◌∷◌, ◌++◌, Option, Some, None, filter}
use Rattle.std.specs.List.{filter_map}
use Rattle.std.specs.Option.{option_map}
use Rattle.std.specs.Ordering.{is_lt}
use Rattle.std.specs.declared.cmp.Ordering.{Ordering}
use Rattle.std.specs.declared.cmp.Ordering.TheVariants.{Equal, Greater, Less}
use Rattle.dv_text.specs.Sorting.{sorted_by}
use Rattle.dv_index.specs.Numbers.{parents_of}
use Rattle.dv_index.specs.Places.{Place, latest_at, none_later}
use Rattle.dv_records.specs.declared.raw_rows.StatusRow.{StatusRow}
use Rattle.dv_records.specs.Batches.{digest_cmp}
use Rattle.dv_records.specs.Statuses.{code_between}
use Rattle.dv_track.specs.declared.heads.Head.{Head}
use Rattle.dv_track.specs.Tracks.{is_among}

-- whether a parent is there at a date: what its last row that is not later says
abbrev pub there_at : {X : Type 0} → (X → Place) → (Option X → Bool) → List X → List ℕ → ℕ → Bool
there_at place says rows parent date = says (latest_at place rows parent date)

-- the parents that are there at a date, in order
abbrev pub parents_there : {X : Type 0} → (X → Place) → (Option X → Bool) → List X → ℕ → List (List ℕ)
parents_there place says rows date = filter (λ parent. there_at place says rows parent date) (sorted_by digest_cmp (parents_of place rows))

-- parents are those that are there after the last row: at each date that no row is later than
abbrev pub AreThere : {X : Type 0} → (X → Place) → (Option X → Bool) → List X → List (List ℕ) → Type 0
AreThere place says rows parents = (date : ℕ) → none_later place rows date ≡ true → parents ≡ parents_there place says rows date

-- the row of a digest that was in a list or not, and is in another or not
abbrev pub change_between : List ℕ → ℕ → List (List ℕ) → List (List ℕ) → List ℕ → Option StatusRow
change_between source load was now digest =
    option_map (λ code. record { parent = digest; load = load; source = source; code = code })
    (code_between (is_among was digest) (is_among now digest))

-- the rows of the digests of two lists, in order
abbrev pub changes_between : List ℕ → ℕ → List (List ℕ) → List (List ℕ) → List StatusRow
changes_between source load was now = filter_map (change_between source load was now) (sorted_by digest_cmp (was ++ now))

-- the lesser of two digests that two lists begin with, and which of the lists begin with it
abbrev pub lesser : List ℕ → List ℕ → Ordering → Head
lesser was now Less = record { parent = was; was = true; now = false }
lesser was now Equal = record { parent = was; was = true; now = true }
lesser was now Greater = record { parent = now; was = false; now = true }

-- the lesser digest that two lists begin with, and which of them begin with it
abbrev pub least : List (List ℕ) → List (List ℕ) → Option Head
least [] [] = None
least (digest ∷ was) [] = Some (record { parent = digest; was = true; now = false })
least [] (digest ∷ now) = Some (record { parent = digest; was = false; now = true })
least (a ∷ was) (b ∷ now) = Some (lesser a b (digest_cmp a b))

-- those of some digests that are not among others
abbrev pub missing_in : List (List ℕ) → List (List ℕ) → List (List ℕ)
missing_in others digests = filter (λ digest. not (is_among others digest)) digests

-- the parents that are there at a date, where `present` are those before the rows of the touched ones
abbrev pub updated : {X : Type 0} → (X → Place) → (Option X → Bool) → List X → ℕ → List (List ℕ) → List (List ℕ) → List (List ℕ)
updated place says rows date present touched = sorted_by digest_cmp (missing_in touched present ++ filter (λ parent. there_at place says rows parent date) touched)

-- those of some digests that are before another one in order, and those that are behind it
abbrev pub before : List ℕ → List (List ℕ) → List (List ℕ)
before digest digests = filter (λ other. is_lt (digest_cmp other digest)) digests

abbrev pub behind : List ℕ → List (List ℕ) → List (List ℕ)
behind digest digests = filter (λ other. is_lt (digest_cmp digest other)) digests
