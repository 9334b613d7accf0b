-- Words for writing mappings, windows and rows of examples.
use Rattle.std.specs.Prelude.{ℕ, ◌+◌, ◌-◌, ◌*◌, ◌==◌, nat_lt, List, [], ◌∷◌, ◌++◌, map, replicate, reverse, if◌then◌else◌}
use Rattle.std.specs.List.{list_any}
use Rattle.dv_text.specs.declared.rows.Key.{Key}
use Rattle.dv_text.specs.declared.rows.NRow.{NRow}
use Rattle.dv_text.specs.declared.rows.Staged.{Staged}
use Rattle.dv_text.specs.declared.rows.Window.{Window}
use Rattle.dv_text.specs.Keys.{Hashes, hashes_by}
use Rattle.dv_records.specs.declared.raw_rows.Code.{Code}
use Rattle.dv_records.specs.declared.raw_rows.EffectRow.{EffectRow}
use Rattle.dv_records.specs.declared.raw_rows.HubRow.{HubRow}
use Rattle.dv_records.specs.declared.raw_rows.LinkRow.{LinkRow}
use Rattle.dv_records.specs.declared.raw_rows.MultiRow.{MultiRow}
use Rattle.dv_records.specs.declared.raw_rows.SatRow.{SatRow}
use Rattle.dv_records.specs.declared.raw_rows.StatusRow.{StatusRow}
use Rattle.dv_records.specs.declared.stores.Rows.{Rows}
use Rattle.dv_catalog.specs.declared.tables.TableId.{TableId}
use Rattle.dv_catalog.specs.Entries.{Mapping}
use Rattle.dv_records.specs.Vault.{table_after}
use Rattle.dv_records.specs.Backwards.{backwards}

-- ---- dates

-- 2024-03-01T02:00:00 for 1, and the same time on the days after it
abbrev pub day : ℕ → ℕ
day n = 3918160800 + 86400 * n

-- 2024-02-29T00:00:00, and 2030-01-01T00:00:00
abbrev pub leap_day : ℕ
leap_day = 3918153600

abbrev pub year_2030 : ℕ
year_2030 = 4102444800

-- ---- what is delivered

-- a key of one part
abbrev pub key : List ℕ → Key
key part = record { parts = part ∷ [] }

-- a key of two parts
abbrev pub place : List ℕ → List ℕ → Key
place region site = record { parts = region ∷ site ∷ [] }

-- a row whose keys have one part each
abbrev pub row : List (List ℕ) → List (List ℕ) → List (List ℕ) → NRow
row keys sub attrs = record { refs = map key keys; sub = sub; attrs = attrs }

-- a row of one key alone, and one of a key and one attribute
abbrev pub bare_row : List ℕ → NRow
bare_row part = row (part ∷ []) [] []

abbrev pub named_row : List ℕ → List ℕ → NRow
named_row part attr = row (part ∷ []) [] (attr ∷ [])

-- a row of two keys alone, and one of two keys and one attribute
abbrev pub pair_row : List ℕ → List ℕ → NRow
pair_row left right = row (left ∷ right ∷ []) [] []

abbrev pub described_row : List ℕ → List ℕ → List ℕ → NRow
described_row left right attr = row (left ∷ right ∷ []) [] (attr ∷ [])

-- the rows of one feed, and a window of the n-th day
abbrev pub staged : ℕ → List NRow → Staged
staged feed rows = record { feed = feed; rows = rows }

abbrev pub window : ℕ → List Staged → Window
window n extracts = record { load = day n; extracts = extracts }

-- ---- digests

-- the text in place of its digest, with a zero key of one byte
abbrev pub plain : Hashes
plain = hashes_by (λ text. text) 1

-- the text's first byte and fifteen bytes 1, or sixteen bytes 1
abbrev pub first_byte : List ℕ → List ℕ
first_byte [] = replicate 16 1
first_byte (b ∷ text) = b ∷ replicate 15 1

abbrev pub tiny : Hashes
tiny = hashes_by first_byte 16

-- the text backwards, so that hash keys have another order than keys
abbrev pub mirrored : Hashes
mirrored = hashes_by (λ text. reverse text) 1

-- the zero key for each text with a semicolon, and the text in place of its digest for any other
abbrev pub zero_if_joined : List ℕ → List ℕ
zero_if_joined text = if list_any (λ b. b == 59) text then 0 ∷ [] else text

abbrev pub joined_alike : Hashes
joined_alike = hashes_by zero_if_joined 1

-- the value of a hexadecimal digit, and the bytes that two digits each stand for
abbrev pub hex_value : ℕ → ℕ
hex_value digit = if nat_lt digit 58 then digit - 48 else digit - 87

abbrev pub unhex : List ℕ → List ℕ
unhex [] = []
unhex (a ∷ []) = []
unhex (a ∷ b ∷ text) = (16 * hex_value a + hex_value b) ∷ unhex text

-- ---- rows of tables under plain digests, loaded on the n-th day

abbrev pub in_hub : List ℕ → ℕ → List ℕ → HubRow
in_hub part n source = record { digest = part; load = day n; source = source; key = key part }

abbrev pub in_link : List ℕ → List ℕ → ℕ → List ℕ → LinkRow
in_link left right n source = record { digest = left ++ 59 ∷ right; load = day n; source = source; hubs = left ∷ right ∷ [] }

abbrev pub in_sat : List ℕ → ℕ → List ℕ → List ℕ → SatRow
in_sat parent n source attr = record { parent = parent; load = day n; source = source; diff = attr; attrs = attr ∷ [] }

abbrev pub in_multi : List ℕ → ℕ → List ℕ → List ℕ → List ℕ → MultiRow
in_multi parent n source sub attr = record { parent = parent; load = day n; source = source; diff = attr; sub = sub ∷ []; attrs = attr ∷ [] }

abbrev pub in_status : List ℕ → ℕ → List ℕ → Code → StatusRow
in_status parent n source code = record { parent = parent; load = day n; source = source; code = code }

abbrev pub in_effect : List ℕ → ℕ → List ℕ → ℕ → ℕ → EffectRow
in_effect parent n source begin end = record { parent = parent; load = day n; source = source; begin = begin; end = end }

-- ---- one table

-- a raw table under plain digests, after windows in their order
abbrev pub after : Mapping → List Window → TableId → Rows
after mapping windows table = table_after mapping plain (backwards windows) table
