-- What the ways along the feeds of a path are in its mart over sealed windows.
use Rattle.dv_mart.proofs.Vocabulary.{AreFirstWays, BridgeFault, Err, HasSealed, HasTooManyWays, HasZeroKeys, Hashes, KeyedRow, List, MartFault, PathDef, RawVault, Result, Some, TableRows, Window, ap, are_linked, choices, contents, false, fault_of, filter, first_path, first_ways}
use Rattle.dv_mart.proofs.Vocabulary.{is_path_too_large, is_valid, keyed_links, length, length-map, map, path_mart, path_row, path_rows_by, prefix_rows, refl, slice_get, steps_along, sym, take, take-map, true, valid_path, vault, ways_fit, ways_too_many, whole_ways, ℕ, ◌+◌, ◌-◌, ◌∙◌, ◌≡◌, ◌≤◌}
use Rattle.dv_mart.proofs.PathsBack.{ways_tell}
use Rattle.dv_bridge.specs.declared.fault.BridgeFault.TheVariants as of_ways
use Rattle.dv_mart.specs.declared.mart_faults.MartFault.TheVariants as mart

-- a path's mart is too large where its ways are
pub fault_told : {X : Type 0} (r : Result X MartFault) (fault : BridgeFault) (told : MartFault) → r ≡ Err told → told ≡ fault_of fault → r ≡ Err mart.TooLarge → fault ≡ of_ways.TooLarge
fault_told r fault told is told_is large =
    let same : told ≡ mart.TooLarge = cc in
    back fault (sym told_is ∙ same)
  where
    back : (fault : BridgeFault) → fault_of fault ≡ mart.TooLarge → fault ≡ of_ways.TooLarge
    back of_ways.TooLarge e = refl
    back of_ways.Memory e = let no : mart.Memory ≡ mart.TooLarge = e in cc

module _ (raw : RawVault) (date : ℕ) (path : PathDef) (hashes : Hashes) (sealed : List Window) (zeros : HasZeroKeys hashes) (has : HasSealed hashes sealed raw) (valid : is_valid raw.mapping ≡ true) (place : ℕ)
    (at : slice_get raw.mapping.paths place ≡ Some path) where
  module _ (links : List (List KeyedRow)) (links_are : links ≡ map (keyed_links raw.mapping raw.tables date) path.feeds) where
    told_are : links ≡ map (keyed_links raw.mapping (vault raw.mapping hashes sealed) date) path.feeds
    told_are = links_are ∙ ap (λ (tables : List TableRows). map (keyed_links raw.mapping tables date) path.feeds) has.tables_are

    keyed_as_many : (n : ℕ) → 1 ≤ n → n ≤ length path.feeds → length (first_ways raw.mapping links path n) ≡ length (prefix_rows raw.mapping (contents sealed date) path n)
    keyed_as_many n some within =
        let (of_links, less, together) = first_path raw.mapping hashes sealed zeros valid has.valid date place path at n some within in
        sym (length-map (first_ways raw.mapping links path n) (λ way. path_row (steps_along way)))
        ∙ ap (λ links. length (map (λ way. path_row (steps_along way)) (filter (λ way. are_linked raw.mapping (take n path.feeds) (take (n - 1) path.via) (map (λ (link : KeyedRow). link.row) way)) (choices links))))
        (ap (take n) told_are ∙ take-map (keyed_links raw.mapping (vault raw.mapping hashes sealed) date) n path.feeds)
        ∙ ap length (ways_tell raw.mapping hashes sealed zeros valid has.valid date (take n path.feeds) (take (n - 1) path.via) of_links less together)

    pub mart_along : (ways : List (List KeyedRow)) → AreFirstWays raw.mapping links path (length path.via + 1) ways → map (λ way. path_row (steps_along way)) ways ≡ path_mart raw.mapping sealed place date
    mart_along ways are =
        ap (map (λ way. path_row (steps_along way)))
        (whole_ways raw.mapping links path (ap length links_are ∙ length-map path.feeds (keyed_links raw.mapping raw.tables date)) (valid_path raw.mapping valid place path at).one_less ways are
        ∙ ap (λ links. filter (λ way. are_linked raw.mapping path.feeds path.via (map (λ (link : KeyedRow). link.row) way)) (choices links)) told_are)
        ∙ ways_tell raw.mapping hashes sealed zeros valid has.valid date path.feeds path.via (valid_path raw.mapping valid place path at).of_links (valid_path raw.mapping valid place path at).one_less (valid_path raw.mapping valid place path at).joined
        ∙ sym (ap (path_rows_by raw.mapping (contents sealed date)) at)

    pub mart_fits : (ways : List (List KeyedRow)) → AreFirstWays raw.mapping links path (length path.via + 1) ways → is_path_too_large raw.mapping sealed place date ≡ false
    mart_fits = ways_fit raw date path hashes sealed zeros has valid place at links keyed_as_many

    pub mart_too_many : HasTooManyWays raw.mapping links path → is_path_too_large raw.mapping sealed place date ≡ true
    mart_too_many = ways_too_many raw date path hashes sealed zeros has valid place at links keyed_as_many
