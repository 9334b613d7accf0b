-- The rules of a row of a satellite are those of a row by itself, and of the weight.
use Rattle.dv_store_rules.proofs.Vocabulary.{AreClear, Bool, Hashes, IsKnown, IsStrictlySortedBy, Known, KnownTables, List, None, Option, SatRow, and_parts, are_texts, attr_count, attrs_fit, first_stands, length, nat_list_cmp_total, on_total, or_none, own_of, plain_rule, rules, sat_cmp}
use Rattle.dv_store_rules.proofs.Vocabulary.{sat_early, sat_form, sat_hashed, sat_late, sat_order, sat_place, sat_rule, text_weight, texts_weight, true, unbroken, ℕ, ◌+◌, ◌≡◌, ◌≤◌}
use Rattle.dv_store_rules.proofs.{Chains.all_ascend, FeedForms.LooksUp, FeedForms.texts_fit, RuleParts.plain_owns_clear}

-- the attributes of a row that breaks none of the first rules fit a room
pub row_fits : (attrs : ℕ) (loads : List ℕ) (width : ℕ) (row : SatRow) (behind : Bool) → attrs ≤ 32 → sat_early attrs loads width row behind ≡ None → attrs_fit row.attrs ≡ true
row_fits attrs loads width row behind few none =
    let (others, texts) = and_parts _ (are_texts attrs row.attrs) (unbroken 4 _ _ none).0 in
    texts_fit attrs row.attrs few texts

pub ruleset sat_fit = (row_fits)

-- what a row weighs
abbrev pub sat_weight : SatRow → ℕ
sat_weight row = 128 + text_weight row.source + 32 + texts_weight row.attrs

-- the rules of a row by itself
abbrev pub sat_own : Hashes → ℕ → ℕ → List ℕ → List (List ℕ) → (List ℕ → Bool) → SatRow → Bool → Option ℕ
sat_own hashes width attrs loads sources under = own_of (sat_early attrs loads) sat_hashed (sat_late sources under) hashes width

-- all its rules, in their parts
abbrev pub sat_told : Hashes → ℕ → ℕ → ℕ → List ℕ → List (List ℕ) → (List ℕ → Bool) → List SatRow → SatRow → Option ℕ
sat_told hashes width weight attrs loads sources under = plain_rule sat_place sat_cmp (sat_own hashes width attrs loads sources under) sat_weight weight

module _ (hashes : Hashes) (width : ℕ) (known : KnownTables) (read : Known) (is : IsKnown hashes width known read) (feed : ℕ) (attrs : ℕ) (counted : attrs ≡ attr_count known.catalog.now feed)
    (loads : List ℕ) (sources : List (List ℕ)) (under : List ℕ → Bool) (of : LooksUp read feed loads sources under) where
  pub sat_same : (before : List SatRow) (row : SatRow) → sat_told hashes width known.weight attrs loads sources under before row ≡ sat_rule read feed before row
  sat_same before row = rw (of.parent row.parent, of.loaded row.load, of.source row.source, is.width, is.mapping, is.hashes, is.weight, counted) (search rules)

-- where no row breaks a rule, the rows are such as a table has
pub sat_ascends : (hashes : Hashes) (width weight attrs : ℕ) (loads : List ℕ) (sources : List (List ℕ)) (under : List ℕ → Bool) (rows : List SatRow)
    → AreClear (sat_told hashes width weight attrs loads sources under) rows (length rows) → IsStrictlySortedBy sat_order rows
sat_ascends hashes width weight attrs loads sources under rows clear =
    let own = sat_own hashes width attrs loads sources under in
    all_ascend sat_place sat_cmp own (λ row behind none. first_stands loads (sat_form attrs width row) row.load behind (or_none _ _ none).0) rows
    (plain_owns_clear sat_place sat_cmp own sat_weight weight rows (length rows) clear) (on_total (λ (row : SatRow). row.parent) nat_list_cmp_total)
