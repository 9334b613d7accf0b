-- What the tables say of a date is what the windows delivered.
use Rattle.std.specs.List.Sorted.{IsStrictlySortedBy}
use Rattle.std.specs.Prelude.{◌≡◌, ℕ, ◌==◌, nat_le, Bool, true, false, ◌&&◌, List, [], ◌∷◌, Option, Some, None, Contains, find, filter, map, reverse}
use Rattle.std.specs.Str.{bytes_eq}
use Rattle.dv_text.specs.declared.rows.Key.{Key}
use Rattle.dv_text.specs.declared.rows.NRow.{NRow}
use Rattle.dv_text.specs.declared.rows.Window.{Window}
use Rattle.dv_text.specs.Keys.{is_missing}
use Rattle.dv_text.specs.Orders.{row_cmp}
use Rattle.dv_text.specs.Sorting.{sorted_by}
use Rattle.dv_records.specs.declared.raw_rows.Code.{Code}
use Rattle.dv_records.specs.declared.raw_rows.Code.TheVariants.{I, D}
use Rattle.dv_records.specs.declared.raw_rows.HubRow.{HubRow}
use Rattle.dv_records.specs.declared.raw_rows.MultiRow.{MultiRow}
use Rattle.dv_records.specs.declared.raw_rows.SatRow.{SatRow}
use Rattle.dv_records.specs.declared.raw_rows.StatusRow.{StatusRow}
use Rattle.dv_records.specs.History.{Extract, history}
use Rattle.dv_records.specs.Satellites.{IsOnePerList, IsOnePerSub}

-- ---- status

-- whether a code says that its parent is present from then on
abbrev pub is_appearance : Code → Bool
is_appearance I = true
is_appearance D = false

-- what a status row says; where there is none, the parent isn't present
abbrev pub says_present : Option StatusRow → Bool
says_present None = false
says_present (Some row) = is_appearance row.code

-- whether status rows say that a parent is present at a date: the last of its rows that is not later has the code I.
-- Status rows stand in the order of their load dates, so the last one is the newest.
abbrev pub present_at : List StatusRow → List ℕ → ℕ → Bool
present_at rows parent date = says_present (find (λ row. bytes_eq row.parent parent && nat_le row.load date) (reverse rows))

-- ---- satellites

-- the row of a satellite that is valid for a parent at a date: the last of its rows that is not later. Satellite rows,
-- too, stand in the order of their load dates.
abbrev pub valid_at : List SatRow → List ℕ → ℕ → Option SatRow
valid_at rows parent date = find (λ row. bytes_eq row.parent parent && nat_le row.load date) (reverse rows)

-- the attributes of the first of some rows, if there is one
abbrev pub first_attrs : List NRow → Option (List (List ℕ))
first_attrs [] = None
first_attrs (row ∷ rows) = Some row.attrs

-- a feed's windows have one row for each reference list
abbrev pub HasOneRowEach : ℕ → List Window → Type 0
HasOneRowEach feed windows = (extract : Extract) → Contains (history feed windows) extract → IsOnePerList extract.rows

-- ---- multi-active satellites

-- the rows of a parent with the load date of one of them
abbrev pub loaded_with : List MultiRow → List ℕ → Option MultiRow → List MultiRow
loaded_with rows parent None = []
loaded_with rows parent (Some last) = filter (λ row. bytes_eq row.parent parent && row.load == last.load) rows

-- the rows of a multi-active satellite that are valid for a parent at a date: those with the load date of the last of its
-- rows that is not later
abbrev pub all_valid_at : List MultiRow → List ℕ → ℕ → List MultiRow
all_valid_at rows parent date = loaded_with rows parent (find (λ row. bytes_eq row.parent parent && nat_le row.load date) (reverse rows))

-- the row of a reference list with a satellite row's sub and attributes
abbrev pub described_row : List Key → MultiRow → NRow
described_row refs row = record { refs = refs; sub = row.sub; attrs = row.attrs }

-- a feed's windows have one row for each reference list and sub
abbrev pub HasOneRowPerSub : ℕ → List Window → Type 0
HasOneRowPerSub feed windows = (extract : Extract) → Contains (history feed windows) extract → IsOnePerSub extract.rows

-- ---- a feed of keys alone

-- the row of a key alone
abbrev pub key_row : Key → NRow
key_row key = record { refs = key ∷ []; sub = []; attrs = [] }

-- the extracts of a feed have keys alone, none of them missing, in order and each once, as staging leaves them where a
-- hub's feed has no sub and no attributes
pub record HasKeysAlone (feed : ℕ) (windows : List Window) : Type 0 where
  pub alone : (extract : Extract) → Contains (history feed windows) extract → (row : NRow) → Contains extract.rows row → (key : Key) × (row ≡ key_row key) × (is_missing key ≡ false)
  pub ascending : (extract : Extract) → Contains (history feed windows) extract → IsStrictlySortedBy row_cmp extract.rows

-- the rows of the keys of a hub table that a status table says are present at a date, in order
abbrev pub present_keys : List HubRow → List StatusRow → ℕ → List NRow
present_keys hubs statuses date = sorted_by row_cmp (map (λ row. key_row row.key) (filter (λ row. present_at statuses row.digest date) hubs))
