-- The rules of each kind of rows for a row by itself, up to that of the turns, where it is known whether the row stands
-- behind the one before it. What they look up is worked out before: how many texts there have to be, load dates, record
-- sources.
use Rattle.std.specs.List.{list_all, list_any, zip}
use Rattle.std.specs.Option.{option_map, option_or}
use Rattle.std.specs.Prelude.{◌≡◌, ℕ, Bool, true, false, ◌&&◌, List, [], ◌∷◌, Option, None, refl, ◌==◌, ◌||◌, not, length}
use Rattle.std.specs.Str.{bytes_eq}
use Rattle.dv_text.specs.Keys.{Hashes}
use Rattle.dv_catalog.specs.FirstOf.{first_of}
use Rattle.dv_catalog.specs.Mappings.{has_number}
use Rattle.dv_index.specs.Places.{Indexed}
use Rattle.dv_records.specs.declared.raw_rows.EffectRow.{EffectRow}
use Rattle.dv_records.specs.declared.raw_rows.HubRow.{HubRow}
use Rattle.dv_records.specs.declared.raw_rows.LinkRow.{LinkRow}
use Rattle.dv_records.specs.declared.raw_rows.MultiRow.{MultiRow}
use Rattle.dv_records.specs.declared.raw_rows.SatRow.{SatRow}
use Rattle.dv_records.specs.declared.raw_rows.StatusRow.{StatusRow}
use Rattle.dv_store_rules.specs.Flaws.{if_broken}
use Rattle.dv_store_rules.specs.FormRules.{are_texts, is_diff_of, is_digest, is_span, takes_turn, zero_key}
use Rattle.dv_store_rules.specs.KnownTables.{rows_at}

-- a record source is among sources
abbrev pub is_among : List (List ℕ) → List ℕ → Bool
is_among sources source = list_any (bytes_eq source) sources

-- a rule that isn't broken holds
pub unbroken : (rule : ℕ) (holds : Bool) (rest : Option ℕ) → option_or (if_broken rule holds) rest ≡ None → (holds ≡ true) × (rest ≡ None)
unbroken rule true rest e = (refl, e)
unbroken rule false rest e = cc

-- the first rules of a row of any kind: of its form, of its load date, and that it stands behind the row before it
abbrev pub first_rules : List ℕ → Bool → ℕ → Bool → Option ℕ
first_rules loads form load behind = first_of (if_broken 4 form ∷ if_broken 5 (has_number loads load) ∷ if_broken 6 behind ∷ [])

pub first_stands : (loads : List ℕ) (form : Bool) (load : ℕ) (behind : Bool) → first_rules loads form load behind ≡ None → behind ≡ true
first_stands loads form load behind e = (unbroken 6 behind _ (unbroken 5 _ _ (unbroken 4 _ _ e).1).1).0

-- no hash is asked of a row
abbrev pub none_asked : {R : Type 0} → Hashes → R → Bool
none_asked hashes row = true

-- ---- hubs

abbrev pub hub_early : ℕ → List ℕ → ℕ → HubRow → Bool → Option ℕ
hub_early parts loads width row behind = first_rules loads (is_digest width row.digest && are_texts parts row.key.parts) row.load behind

abbrev pub hub_late : List (List ℕ) → ℕ → HubRow → Option ℕ
hub_late sources width row = first_of (if_broken 8 (is_among sources row.source) ∷ [])

-- ---- the tables of feeds

-- the rules of the record source and of the parent
abbrev pub feed_late : List (List ℕ) → Bool → List ℕ → Option ℕ
feed_late sources under source = first_of (if_broken 8 (is_among sources source) ∷ if_broken 9 under ∷ [])

abbrev pub status_early : List ℕ → ℕ → StatusRow → Bool → Option ℕ
status_early loads width row behind = first_rules loads (is_digest width row.parent) row.load behind

abbrev pub status_late : List (List ℕ) → (List ℕ → Bool) → ℕ → StatusRow → Option ℕ
status_late sources under width row = feed_late sources (under row.parent) row.source

-- a row of a status table fits the last row of its parent before it
abbrev pub turns : Option StatusRow → StatusRow → Bool
turns last row = takes_turn (option_map (λ other. other.code) last) row.code

abbrev pub effect_early : List ℕ → ℕ → EffectRow → Bool → Option ℕ
effect_early loads width row behind = first_rules loads (is_digest width row.parent) row.load behind

abbrev pub effect_late : List (List ℕ) → (List ℕ → Bool) → ℕ → EffectRow → Option ℕ
effect_late sources under width row =
    first_of (if_broken 8 (is_among sources row.source) ∷ if_broken 9 (under row.parent) ∷ if_broken 12 (is_span row) ∷ [])

-- the form of a row of a satellite, plain or multi-active, by how many texts there have to be
abbrev pub sat_form : ℕ → ℕ → SatRow → Bool
sat_form attrs width row = is_digest width row.parent && is_digest width row.diff && are_texts attrs row.attrs

abbrev pub multi_form : ℕ → ℕ → ℕ → MultiRow → Bool
multi_form sub attrs width row = is_digest width row.parent && is_digest width row.diff && are_texts sub row.sub && are_texts attrs row.attrs

abbrev pub sat_early : ℕ → List ℕ → ℕ → SatRow → Bool → Option ℕ
sat_early attrs loads width row behind = first_rules loads (sat_form attrs width row) row.load behind

abbrev pub multi_early : ℕ → ℕ → List ℕ → ℕ → MultiRow → Bool → Option ℕ
multi_early sub attrs loads width row behind = first_rules loads (multi_form sub attrs width row) row.load behind

-- the hash difference of a row is asked for
abbrev pub sat_hashed : Hashes → SatRow → Bool
sat_hashed hashes row = is_diff_of hashes row.diff row.attrs

abbrev pub multi_hashed : Hashes → MultiRow → Bool
multi_hashed hashes row = is_diff_of hashes row.diff row.attrs

abbrev pub sat_late : List (List ℕ) → (List ℕ → Bool) → ℕ → SatRow → Option ℕ
sat_late sources under width row = feed_late sources (under row.parent) row.source

abbrev pub multi_late : List (List ℕ) → (List ℕ → Bool) → ℕ → MultiRow → Option ℕ
multi_late sources under width row = feed_late sources (under row.parent) row.source

-- ---- links

-- the form of a link's row, by the hubs of the link
abbrev pub link_form : List ℕ → ℕ → LinkRow → Bool
link_form hubs width row = is_digest width row.digest && (length row.hubs == length hubs) && list_all (is_digest width) row.hubs

abbrev pub link_early : List ℕ → List ℕ → ℕ → LinkRow → Bool → Option ℕ
link_early hubs loads width row behind = first_rules loads (link_form hubs width row) row.load behind

-- a reference is the zero key or in the hub's table
abbrev pub is_named : List (Indexed HubRow) → ℕ → ℕ × List ℕ → Bool
is_named tables width (hub, digest) = bytes_eq digest (zero_key width) || list_any (λ row. bytes_eq row.digest digest) (rows_at tables hub)

-- and each is, of the hubs of a link
abbrev pub are_named : List (Indexed HubRow) → List ℕ → ℕ → List (List ℕ) → Bool
are_named tables hubs width digests = list_all (is_named tables width) (zip hubs digests)

abbrev pub link_late : List (List ℕ) → List (Indexed HubRow) → List ℕ → ℕ → LinkRow → Option ℕ
link_late sources tables hubs width row =
    first_of (
    if_broken 7 (not (bytes_eq row.digest (zero_key width))) ∷ if_broken 8 (is_among sources row.source)
    ∷ if_broken 9 (are_named tables hubs width row.hubs) ∷ [])
