-- Effectivity tables row by row: what an extract adds to one, by the hash keys alone.
use Rattle.std.specs.Prelude.{◌≡◌, ℕ, Bool, true, false, List, [], ◌∷◌, ◌++◌, Option, None, is_some, map, option_and_then, if◌then◌else◌}
use Rattle.std.specs.List.{filter_map}
use Rattle.std.specs.Option.{option_map}
use Rattle.std.specs.Ordering.{nat_cmp, ordering_then}
use Rattle.std.specs.declared.cmp.Ordering.{Ordering}
use Rattle.dv_text.specs.declared.rows.Key.{Key}
use Rattle.dv_text.specs.Keys.{Hashes}
use Rattle.dv_text.specs.Sorting.{sorted_by}
use Rattle.dv_index.specs.Places.{has_load}
use Rattle.dv_records.specs.declared.raw_rows.EffectRow.{EffectRow}
use Rattle.dv_records.specs.Batches.{appended, digest_cmp}
use Rattle.dv_records.specs.Collisions.{IsApart}
use Rattle.dv_records.specs.EffectPeriods.{in_effect_since, opened_by}
use Rattle.dv_records.specs.EffectPlaces.{effect_place}
use Rattle.dv_records.specs.Effects.{effect_batch, effect_cmp, span_between}
use Rattle.dv_records.specs.History.{Extract, lists_of, AreNewestFirst}
use Rattle.dv_track.specs.Tracks.{hashes_in, is_among}

-- the order of an effectivity table: by load date, then by parent
abbrev pub effect_order : EffectRow → EffectRow → Ordering
effect_order a b = ordering_then (nat_cmp a.load b.load) (effect_cmp a b)

-- the parents of rows, in their order
abbrev pub parents_of : List EffectRow → List (List ℕ)
parents_of rows = map (λ row. row.parent) rows

-- what an effectivity row says; where there is none, the parent isn't in effect
abbrev pub says_in_effect : Option EffectRow → Bool
says_in_effect row = is_some (option_and_then opened_by row)

-- the row of a digest that was in effect since a date, or wasn't, and is in the extract, or isn't: none where that goes on
abbrev pub effect_between : List ℕ → ℕ → List ℕ → Option ℕ → Bool → Option EffectRow
effect_between source load digest since now =
    option_map (λ span. record { parent = digest; load = load; source = source; begin = span.begin; end = span.end }) (span_between load since now)

-- the row of a digest by whether it was in effect and whether it is in the extract; since when it was in effect counts only
-- where a run ends
abbrev pub effect_turn : List ℕ → ℕ → List ℕ → Option ℕ → Bool → Bool → Option EffectRow
effect_turn source load digest since true false = effect_between source load digest since false
effect_turn source load digest since false true = effect_between source load digest None true
effect_turn source load digest since true true = None
effect_turn source load digest since false false = None

-- the rows of the digests of two lists, those that were in effect and those of the extract, in order
abbrev pub effect_turns : List ℕ → List EffectRow → ℕ → List (List ℕ) → List (List ℕ) → List EffectRow
effect_turns source rows load was now =
    filter_map (λ digest. effect_turn source load digest (in_effect_since rows digest load) (is_among was digest) (is_among now digest)) (sorted_by digest_cmp (was ++ now))

-- the row of a digest, where `now` are the digests of a load date
abbrev pub effect_change : List ℕ → List EffectRow → ℕ → List (List ℕ) → List ℕ → Option EffectRow
effect_change source rows load now digest = effect_between source load digest (in_effect_since rows digest load) (is_among now digest)

-- those of the digests in the table and of these, in their order
abbrev pub effect_changes : List ℕ → List EffectRow → ℕ → List (List ℕ) → List EffectRow
effect_changes source rows load now = filter_map (effect_change source rows load now) (sorted_by digest_cmp (parents_of rows ++ now))

-- what an extract with these hash keys adds to a table: a row for each digest of the table or of the keys with which a run
-- begins or ends; nothing where the table has a row of this load date
abbrev pub keys_delta : List ℕ → List EffectRow → ℕ → List (List ℕ) → List EffectRow
keys_delta source rows load keys = if has_load effect_place rows load then [] else effect_changes source rows load keys

-- what the reference lists of an extract add, by hash key
abbrev pub effect_delta : Hashes → List ℕ → List EffectRow → ℕ → List (List Key) → List EffectRow
effect_delta hashes source rows load refs = keys_delta source rows load (hashes_in hashes refs)

-- rows are the batch of an extract, wherever a table is that of extracts before it
abbrev pub IsEffectBatchAfter : Hashes → List ℕ → List EffectRow → Extract → List EffectRow → Type 0
IsEffectBatchAfter hashes source rows newest delta =
    (older : List Extract) → AreNewestFirst (newest ∷ older) → IsApart hashes (lists_of (newest ∷ older))
    → rows ≡ appended (effect_batch hashes source) older → delta ≡ effect_batch hashes source older newest
