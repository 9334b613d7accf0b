-- What is asked of a path's mart, by the ways along its feeds.
use Rattle.dv_mart.proofs.Vocabulary.{AreFirstWays, Bool, Err, HasSealed, HasTooManyWays, HasZeroKeys, Hashes, KeyedRow, List, Mapping, None, Ok, Option, PathDef, PathRow, QueryRule, RawVault, Result, Some, TooLarge, Window, all_parts, ap, csv_text, false, flat_map-map, if_not_too_large}
use Rattle.dv_mart.proofs.Vocabulary.{if◌then◌else◌, is_path_too_large, is_too_large, is_valid, keyed_links, length, map, map-map, map_same, mart_text, name_of_path, option_map_or, path_header, path_mart, path_name, path_record, path_row, path_text, path_text_by, slice_get, steps_along, sym}
use Rattle.dv_mart.proofs.Vocabulary.{true, way_record, ℕ, ◌+◌, ◌∙◌, ◌∷◌, ◌≡◌}
use Rattle.dv_mart.proofs.PathMarts.{mart_along, mart_fits, mart_too_many}
use Rattle.dv_mart.specs.declared.whats.What.TheVariants as what

-- the records along ways are those of their rows
records_along : (ways : List (List KeyedRow)) → map way_record ways ≡ map path_record (map (λ way. path_row (steps_along way)) ways)
records_along ways =
    map_same way_record (λ way. path_record (path_row (steps_along way))) ways (λ way. sym (flat_map-map all_parts (λ (link : KeyedRow). link.keys) way))
    ∙ sym (map-map path_record (λ way. path_row (steps_along way)) ways)

-- where a path at a place is too large, its rule is what is asked of it
by_path : (mapping : Mapping) (sealed : List Window) (date : ℕ) (text : List ℕ) (path : Option PathDef) → option_map_or (is_too_large mapping sealed date) path false ≡ true
    → if_not_too_large mapping sealed date path text ≡ Err (TooLarge (name_of_path path))
by_path mapping sealed date text None large = let no : false ≡ true = large in cc
by_path mapping sealed date text (Some path) large = ap (λ large. if large then Err (TooLarge path.name) else Ok text) large

-- so it is of a bridge
pub bridge_too_large : (raw : RawVault) (place date : ℕ) (hashes : Hashes) (sealed : List Window) → is_path_too_large raw.mapping sealed place date ≡ true
    → mart_text raw.mapping hashes sealed raw.tables (what.Bridge place) date ≡ Err (TooLarge (path_name raw.mapping (what.Bridge place)))
bridge_too_large raw place date hashes sealed large = by_path raw.mapping sealed date _ (slice_get raw.mapping.paths place) large

module _ (raw : RawVault) (date : ℕ) (path : PathDef) (hashes : Hashes) (sealed : List Window) (zeros : HasZeroKeys hashes) (has : HasSealed hashes sealed raw) (valid : is_valid raw.mapping ≡ true) (place : ℕ)
    (at : slice_get raw.mapping.paths place ≡ Some path) (links : List (List KeyedRow)) (links_are : links ≡ map (keyed_links raw.mapping raw.tables date) path.feeds) where
  abbrev answer : Bool → Result (List ℕ) QueryRule
  answer large = if large then Err (TooLarge path.name) else Ok (path_text raw.mapping path.feeds (path_mart raw.mapping sealed place date))

  -- what is asked, by whether it is too large
  asked : (large : Bool) → is_path_too_large raw.mapping sealed place date ≡ large → mart_text raw.mapping hashes sealed raw.tables (what.Path place) date ≡ answer large
  asked large is =
      ap (λ o. if_not_too_large raw.mapping sealed date o (path_text_by raw.mapping sealed place date o)) at
      ∙ ap answer (sym (ap (λ o. option_map_or (is_too_large raw.mapping sealed date) o false) at) ∙ is)

  pub text_along : (ways : List (List KeyedRow)) → AreFirstWays raw.mapping links path (length path.via + 1) ways
      → mart_text raw.mapping hashes sealed raw.tables (what.Path place) date ≡ Ok (csv_text (path_header raw.mapping path.feeds ∷ map way_record ways))
  text_along ways are =
      asked false (mart_fits raw date path hashes sealed zeros has valid place at links links_are ways are)
      ∙ ap (λ (rows : List PathRow). Ok (path_text raw.mapping path.feeds rows)) (sym (mart_along raw date path hashes sealed zeros has valid place at links links_are ways are))
      ∙ ap (λ records. Ok (csv_text (path_header raw.mapping path.feeds ∷ records))) (sym (records_along ways))

  pub text_too_large : HasTooManyWays raw.mapping links path → mart_text raw.mapping hashes sealed raw.tables (what.Path place) date ≡ Err (TooLarge (path_name raw.mapping (what.Path place)))
  text_too_large many =
      asked true (mart_too_many raw date path hashes sealed zeros has valid place at links links_are many)
      ∙ ap (λ o. Err (TooLarge (name_of_path o))) (sym at)
