-- The names of the hubs of a vault tell the keys of the hubs' rows.
use Rattle.dv_vault.proofs.Vocabulary.{Bool, Bor, Hashes, HubName, HubRow, Indexed, IsItemAt, Key, List, Mapping, None, Option, Some, TableRows, Window, [], ap, appended, arith, bytes_eq, cond, enumerate_from, eq-eqb, false, find, find-append, flat_map, get_or-map-range_with_len, hub_batch}
use Rattle.dv_vault.proofs.Vocabulary.{hub_names, hub_rows_in, hubs_in, is_named, key_named, key_with, length, length-map, length-range_with_len, map, names_of_hub, names_of_rows, nat_tests, option_map, option_or, option_or-none, range_with_len, refl, reverse, slice_get, slice_get-get_or}
use Rattle.dv_vault.proofs.Vocabulary.{slice_get-map, slice_get_past, suc, sym, true, vault, vault_hub, zero, ℕ, ◌++◌, ◌+◌, ◌<◌, ◌==◌, ◌∙◌, ◌∷◌, ◌≡◌}

-- the names of one hub are those of its rows
own_names : (hub : ℕ) (digest : List ℕ) (rows : List HubRow) → key_named hub digest (names_of_hub (hub, rows)) ≡ key_with digest rows
own_names hub digest [] = refl
own_names hub digest (row ∷ rows) = rw (eq-eqb hub hub refl) (by (bytes_eq row.digest digest) (own_names hub digest rows))
  where
    by : (b : Bool) → key_named hub digest (names_of_hub (hub, rows)) ≡ key_with digest rows
        → option_map (λ (name : HubName). name.key) (cond b (Some (record { hub = hub; digest = row.digest; key = row.key })) (find (is_named hub digest) (names_of_hub (hub, rows))))
        ≡ option_map (λ (row : HubRow). row.key) (cond b (Some row) (find (λ row. bytes_eq row.digest digest) rows))
    by true later = refl
    by false later = later

-- and no other hub's
other_names : (hub other : ℕ) (digest : List ℕ) (rows : List HubRow) → (other == hub) ≡ false → find (is_named hub digest) (names_of_hub (other, rows)) ≡ None
other_names hub other digest [] e = refl
other_names hub other digest (row ∷ rows) e = rw e (other_names hub other digest rows e)

not_same : (hub other : ℕ) → hub < other → (other == hub) ≡ false
not_same hub other less = grind (arith, nat_tests, less)

-- a look among two lists of which only one can have the name
named_first : (hub : ℕ) (digest : List ℕ) (a b : List HubName) → find (is_named hub digest) b ≡ None → key_named hub digest (a ++ b) ≡ key_named hub digest a
named_first hub digest a b none =
    ap (option_map (λ (name : HubName). name.key)) (find-append (is_named hub digest) a b ∙ ap (option_or (find (is_named hub digest) a)) none ∙ option_or-none (find (is_named hub digest) a))

named_behind : (hub : ℕ) (digest : List ℕ) (a b : List HubName) → find (is_named hub digest) a ≡ None → find (is_named hub digest) (a ++ b) ≡ find (is_named hub digest) b
named_behind hub digest a b none = find-append (is_named hub digest) a b ∙ ap (λ (o : Option HubName). option_or o (find (is_named hub digest) b)) none

-- ---- among the rows of hubs, which stand in declared order

-- the key under a digest in rows, if there are any
abbrev pub key_in : List ℕ → Option (List HubRow) → Option Key
key_in digest None = None
key_in digest (Some rows) = key_with digest rows

none_behind : (hub : ℕ) (digest : List ℕ) (start : ℕ) (hubs : List (List HubRow)) → hub < start
    → find (is_named hub digest) (flat_map names_of_hub (enumerate_from start hubs)) ≡ None
none_behind hub digest start [] before = refl
none_behind hub digest start (rows ∷ hubs) before =
    named_behind hub digest (names_of_hub (start, rows)) (flat_map names_of_hub (enumerate_from (start + 1) hubs)) (other_names hub start digest rows (not_same hub start before))
    ∙ none_behind hub digest (start + 1) hubs (omega (arith, before))

not_before : (hub other : ℕ) → other < hub → (other == hub) ≡ false
not_before hub other less = grind (arith, nat_tests, less)

named_at : (digest : List ℕ) (hubs : List (List HubRow)) (start hub i : ℕ) → hub ≡ start + i
    → key_named hub digest (flat_map names_of_hub (enumerate_from start hubs)) ≡ key_in digest (slice_get hubs i)
named_at digest [] start hub i e = refl
named_at digest (rows ∷ hubs) start hub zero e =
    let same : start ≡ hub = omega (arith, e) in
    named_first hub digest (names_of_hub (start, rows)) (flat_map names_of_hub (enumerate_from (start + 1) hubs)) (none_behind hub digest (start + 1) hubs (omega (arith, same)))
    ∙ ap (λ n. key_named hub digest (names_of_hub (n, rows))) same ∙ own_names hub digest rows
named_at digest (rows ∷ hubs) start hub (suc i) e =
    ap (option_map (λ (name : HubName). name.key)) (named_behind hub digest (names_of_hub (start, rows)) (flat_map names_of_hub (enumerate_from (start + 1) hubs))
    (other_names hub start digest rows (not_before hub start (omega (arith, e)))))
    ∙ named_at digest hubs (start + 1) hub i (omega (arith, e))

-- a name is told by the rows of its hub
pub named_in : (hub : ℕ) (digest : List ℕ) (hubs : List (List HubRow)) → key_named hub digest (names_of_rows hubs) ≡ key_in digest (slice_get hubs hub)
named_in hub digest hubs = named_at digest hubs 0 hub hub (omega arith)

-- what a look at a place finds
got : {X : Type 0} (xs : List X) (i : ℕ) (found : Option (Bor X)) → IsItemAt xs i found → option_map (λ x. x.now) found ≡ slice_get xs i
got xs i None is = sym (slice_get_past xs i is.3)
got xs i (Some x) is = sym (slice_get-get_or xs i x.now is.3.0 ∙ ap Some (sym is.1))

rows_at : (hubs : List (Bor (Indexed HubRow))) (hub : ℕ) (found : Option (Bor (Bor (Indexed HubRow)))) → IsItemAt hubs hub found
    → slice_get (map (λ hub. hub.now.rows) hubs) hub ≡ option_map (λ hub. hub.now.rows) (option_map (λ hub. hub.now) found)
rows_at hubs hub found is = slice_get-map (λ (hub : Bor (Indexed HubRow)). hub.now.rows) hubs hub ∙ ap (option_map (λ (hub : Bor (Indexed HubRow)). hub.now.rows)) (sym (got hubs hub found is))

pub no_name : (hubs : List (Bor (Indexed HubRow))) (hub : ℕ) (digest : List ℕ) (found : Option (Bor (Bor (Indexed HubRow)))) → IsItemAt hubs hub found → found ≡ None
    → key_named hub digest (names_of_rows (map (λ hub. hub.now.rows) hubs)) ≡ None
no_name hubs hub digest None is e = named_in hub digest (map (λ hub. hub.now.rows) hubs) ∙ ap (key_in digest) (rows_at hubs hub None is)
no_name hubs hub digest (Some there) is e = cc

pub name_there : (hubs : List (Bor (Indexed HubRow))) (hub : ℕ) (digest : List ℕ) (found : Option (Bor (Bor (Indexed HubRow)))) (there : Bor (Bor (Indexed HubRow))) → IsItemAt hubs hub found
    → found ≡ Some there → key_named hub digest (names_of_rows (map (λ hub. hub.now.rows) hubs)) ≡ key_with digest there.now.now.rows
name_there hubs hub digest found there is e =
    named_in hub digest (map (λ hub. hub.now.rows) hubs) ∙ ap (key_in digest) (rows_at hubs hub found is)
    ∙ ap (λ (found : Option (Bor (Bor (Indexed HubRow)))). key_in digest (option_map (λ hub. hub.now.rows) (option_map (λ hub. hub.now) found))) e

-- the names of the hubs of tables are those of their rows
pub names_told : (mapping : Mapping) (tables : List TableRows) (hub : ℕ) (digest : List ℕ) → hub < length mapping.hubs → key_named hub digest (hub_names mapping tables) ≡ key_with digest (hub_rows_in hub tables)
names_told mapping tables hub digest under =
    let rows_of = λ (hub : ℕ). hub_rows_in hub tables in
    let within : hub < length (hubs_in mapping tables) = omega (arith, under, length-map (range_with_len 0 (length mapping.hubs)) rows_of, length-range_with_len 0 (length mapping.hubs)) in
    named_in hub digest (hubs_in mapping tables)
    ∙ ap (key_in digest) (slice_get-get_or (hubs_in mapping tables) hub (rows_of hub) within ∙ ap Some (get_or-map-range_with_len rows_of 0 (length mapping.hubs) hub hub (rows_of hub) under (omega arith)))

-- so those of a vault are
pub hubs_named : (mapping : Mapping) (hashes : Hashes) (sealed : List Window) (hub : ℕ) (digest : List ℕ) → hub < length mapping.hubs
    → key_named hub digest (hub_names mapping (vault mapping hashes sealed)) ≡ key_with digest (appended (hub_batch mapping hashes hub) (reverse sealed))
hubs_named mapping hashes sealed hub digest under =
    names_told mapping (vault mapping hashes sealed) hub digest under ∙ ap (key_with digest) (vault_hub mapping hashes sealed hub under)
