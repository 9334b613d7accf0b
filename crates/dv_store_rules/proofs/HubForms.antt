-- The rules of a hub's row are those of a row by itself, of hash keys that stand once, and of the weight.
use Rattle.dv_store_rules.proofs.Vocabulary.{AreClear, Bool, Hashes, HubDef, HubRow, IsKnown, Key, Known, KnownTables, List, Mapping, None, Option, Some, [], and_from, and_parts, are_hub_rows, are_texts, arith, bytes_eq, eqb-true, first_stands, has_key_hash, has_number, hub_cmp, hub_early}
use Rattle.dv_store_rules.proofs.Vocabulary.{hub_late, hub_place, hub_rule, is_digest, is_loaded, is_none, is_valid, le-leb, length, map, or_none, own_of, parts_of, refl, refs_fit, rules, slice_get, source_by, sym, text_weight, texts_weight, true, turning_rule, unbroken, valid_hub, ℕ, ◌+◌, ◌==◌}
use Rattle.dv_store_rules.proofs.Vocabulary.{◌∷◌, ◌≡◌, ◌≤◌}
use Rattle.dv_store_rules.proofs.{RuleParts.none_found, RuleParts.owns_clear, RuleParts.source_told, RuleParts.turns_clear, Apart.once_placed, Chains.all_in_order}

-- the text of a key in form fits a room
pub key_fits : (parts : ℕ) (key : Key) → parts ≤ 4 → are_texts parts key.parts ≡ true → refs_fit (key ∷ []) ≡ true
key_fits parts key few form =
    let (count, short) = and_parts (length key.parts == parts) _ form in
    let counted : length key.parts ≡ parts = eqb-true (length key.parts) parts count in
    and_from _ _ (and_from _ _ (le-leb (length key.parts) 4 (omega arith)) short) refl

-- that of a row that breaks none of the first rules
pub row_fits : (parts : ℕ) (loads : List ℕ) (width : ℕ) (row : HubRow) (behind : Bool) → parts ≤ 4 → hub_early parts loads width row behind ≡ None → refs_fit (row.key ∷ []) ≡ true
row_fits parts loads width row behind few none =
    key_fits parts row.key few (and_parts (is_digest width row.digest) (are_texts parts row.key.parts) (unbroken 4 _ _ none).0).1

pub ruleset key_fit = (row_fits)

-- a hub's keys have at most four parts
pub few_parts : (mapping : Mapping) (hub : ℕ) → is_valid mapping ≡ true → parts_of (slice_get mapping.hubs hub) ≤ 4
few_parts mapping hub valid = by (slice_get mapping.hubs hub) refl
  where
    by : (o : Option HubDef) → slice_get mapping.hubs hub ≡ o → parts_of (slice_get mapping.hubs hub) ≤ 4
    by None e = rw e (omega arith)
    by (Some def) e = rw e (valid_hub mapping valid hub def e).few_parts

pub ruleset hub_parts = (few_parts)

-- what a row weighs
abbrev pub hub_weight : HubRow → ℕ
hub_weight row = 128 + text_weight row.source + texts_weight row.key.parts

-- the rules of a row by itself
abbrev pub hub_own : Hashes → ℕ → ℕ → List ℕ → List (List ℕ) → HubRow → Bool → Option ℕ
hub_own hashes width parts loads sources = own_of (hub_early parts loads) has_key_hash (hub_late sources) hashes width

-- all its rules, in their parts
abbrev pub hub_told : Hashes → ℕ → ℕ → ℕ → List ℕ → List (List ℕ) → List HubRow → HubRow → Option ℕ
hub_told hashes width weight parts loads sources = turning_rule hub_place hub_cmp (hub_own hashes width parts loads sources) (λ last row. is_none last) 10 hub_weight weight

module _ (hashes : Hashes) (width : ℕ) (known : KnownTables) (read : Known) (is : IsKnown hashes width known read) (hub parts : ℕ) (loads : List ℕ) (sources : List (List ℕ))
    (counted : parts ≡ parts_of (slice_get known.catalog.now.hubs hub)) (told : (load : ℕ) → has_number loads load ≡ is_loaded known.heads.now load) (from : sources ≡ map (λ feed. source_by (Some feed)) known.catalog.now.feeds) where
  pub hub_same : (before : List HubRow) (row : HubRow) → hub_told hashes width known.weight parts loads sources before row ≡ hub_rule read hub before row
  hub_same before row =
      let once = sym (none_found (λ (other : HubRow). bytes_eq other.digest row.digest) before) in
      rw (is.width, is.mapping, is.heads, is.hashes, is.weight, counted, sym (told row.load), source_told known.catalog.now sources row.source from, once) (search rules)

-- where no row breaks a rule, the rows are such as a table has
pub hub_placed : (hashes : Hashes) (width weight parts : ℕ) (loads : List ℕ) (sources : List (List ℕ)) (rows : List HubRow)
    → AreClear (hub_told hashes width weight parts loads sources) rows (length rows) → are_hub_rows rows ≡ true
hub_placed hashes width weight parts loads sources rows clear =
    let own = hub_own hashes width parts loads sources in
    once_placed hub_place 10 rows (turns_clear hub_place hub_cmp own (λ last row. is_none last) 10 hub_weight weight rows (length rows) clear)
    (all_in_order hub_place hub_cmp own (λ row behind none. first_stands loads _ row.load behind (or_none _ _ none).0) rows
    (owns_clear hub_place hub_cmp own (λ last row. is_none last) 10 hub_weight weight rows (length rows) clear))
