-- The names of hubs stand once each, where the rows of each hub have hash keys of their own.
use Rattle.std.proofs.Common.{◌≡◌, ℕ, ◌+◌, ◌<◌, ◌==◌, Bool, true, false, not, ◌||◌, List, [], ◌∷◌, ◌++◌, refl, ◌∙◌, ap, arith, eq-eqb, eqb-true}
use Rattle.std.specs.List.{enumerate_from, flat_map, list_all, list_any}
use Rattle.std.specs.Str.{bytes_eq}
use Rattle.std.proofs.lemmas.Bool.{and_from, and_parts}
use Rattle.dv_records.specs.declared.raw_rows.HubRow.{HubRow}
use Rattle.dv_records.specs.HubNames.{HubName, are_names_apart, is_named}
use Rattle.dv_records.specs.HubPlaces.{hub_place}
use Rattle.dv_index.specs.Places.{are_in_load_order}
use Rattle.dv_hub_link.specs.HubRows.{are_digests_apart, are_hub_rows, has_digest}
use Rattle.dv_vault.specs.Vaults.{names_of_hub, names_of_rows}

not_before : (hub other : ℕ) → hub < other → (other == hub) ≡ false
not_before hub other less = by (other == hub) refl
  where
    by : (b : Bool) → (other == hub) ≡ b → (other == hub) ≡ false
    by false e = e
    by true e = let same : other ≡ hub = eqb-true other hub e in absurd (omega (arith, same, less))

-- another hub's names are not among them
none_of_other : (hub other : ℕ) (digest : List ℕ) (rows : List HubRow) (rest : List HubName) → (other == hub) ≡ false
    → list_any (is_named hub digest) rest ≡ false → list_any (is_named hub digest) (names_of_hub (other, rows) ++ rest) ≡ false
none_of_other hub other digest [] rest e none = none
none_of_other hub other digest (row ∷ rows) rest e none = rw e (none_of_other hub other digest rows rest e none)

none_of_later : (hub start : ℕ) (digest : List ℕ) (hubs : List (List HubRow)) → hub < start
    → list_any (is_named hub digest) (flat_map names_of_hub (enumerate_from start hubs)) ≡ false
none_of_later hub start digest [] before = refl
none_of_later hub start digest (rows ∷ hubs) before =
    none_of_other hub start digest rows (flat_map names_of_hub (enumerate_from (start + 1) hubs)) (not_before hub start before)
    (none_of_later hub (start + 1) digest hubs (omega (arith, before)))

-- a hub's own names are told by its rows
any_of_own : (hub : ℕ) (digest : List ℕ) (rows : List HubRow) (rest : List HubName) → list_any (is_named hub digest) rest ≡ false
    → list_any (is_named hub digest) (names_of_hub (hub, rows) ++ rest) ≡ has_digest digest rows
any_of_own hub digest [] rest none = none
any_of_own hub digest (row ∷ rows) rest none = rw (eq-eqb hub hub refl) (ap (λ b. bytes_eq row.digest digest || b) (any_of_own hub digest rows rest none))

apart_first : (hub : ℕ) (rows : List HubRow) (rest : List HubName) → are_digests_apart rows ≡ true
    → ((digest : List ℕ) → list_any (is_named hub digest) rest ≡ false) → are_names_apart rest ≡ true → are_names_apart (names_of_hub (hub, rows) ++ rest) ≡ true
apart_first hub [] rest apart none later = later
apart_first hub (row ∷ rows) rest apart none later =
    let (here, behind) = and_parts (not (has_digest row.digest rows)) (are_digests_apart rows) apart in
    and_from _ _ (ap not (any_of_own hub row.digest rows rest (none row.digest)) ∙ here) (apart_first hub rows rest behind none later)

apart_from : (start : ℕ) (hubs : List (List HubRow)) → list_all are_hub_rows hubs ≡ true → are_names_apart (flat_map names_of_hub (enumerate_from start hubs)) ≡ true
apart_from start [] all = refl
apart_from start (rows ∷ hubs) all =
    let (here, behind) = and_parts (are_hub_rows rows) (list_all are_hub_rows hubs) all in
    let (apart, order) = and_parts (are_digests_apart rows) (are_in_load_order hub_place rows) here in
    apart_first start rows (flat_map names_of_hub (enumerate_from (start + 1) hubs)) apart
    (λ digest. none_of_later start (start + 1) digest hubs (omega arith)) (apart_from (start + 1) hubs behind)

pub names_apart : (hubs : List (List HubRow)) → list_all are_hub_rows hubs ≡ true → are_names_apart (names_of_rows hubs) ≡ true
names_apart hubs all = apart_from 0 hubs all
