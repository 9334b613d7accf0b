-- The rules of a row of a multi-active satellite are those of a row by itself, and of the weight.
use Rattle.dv_store_rules.proofs.Vocabulary.{AreClear, Bool, Hashes, IsKnown, IsStrictlySortedBy, Known, KnownTables, List, MultiRow, None, Option, [], and_parts, are_texts, attr_count, attrs_fit, first_of, first_stands, if_broken, length, multi_cmp, multi_early, multi_form, multi_hashed}
use Rattle.dv_store_rules.proofs.Vocabulary.{multi_late, multi_order, multi_place, multi_rule, nat_list_cmp_total, on_total, option_or, or_none, own_of, plain_rule, rules, sub_count, text_weight, texts_total, texts_weight, then_total, true, unbroken, ℕ, ◌+◌, ◌∷◌, ◌≡◌, ◌≤◌}
use Rattle.dv_store_rules.proofs.{Chains.all_ascend, FeedForms.LooksUp, FeedForms.texts_fit, RuleParts.plain_owns_clear}

-- the attributes of a row that breaks none of the first rules fit a room
pub row_fits : (sub attrs : ℕ) (loads : List ℕ) (width : ℕ) (row : MultiRow) (behind : Bool) → attrs ≤ 32 → multi_early sub attrs loads width row behind ≡ None → attrs_fit row.attrs ≡ true
row_fits sub attrs loads width row behind few none =
    let (others, texts) = and_parts _ (are_texts attrs row.attrs) (unbroken 4 _ _ none).0 in
    texts_fit attrs row.attrs few texts

pub ruleset multi_fit = (row_fits)

-- what a row weighs
abbrev pub multi_weight : MultiRow → ℕ
multi_weight row = 128 + text_weight row.source + 32 + texts_weight row.sub + texts_weight row.attrs

-- the rules of a row by itself
abbrev pub multi_own : Hashes → ℕ → ℕ → ℕ → List ℕ → List (List ℕ) → (List ℕ → Bool) → MultiRow → Bool → Option ℕ
multi_own hashes width sub attrs loads sources under = own_of (multi_early sub attrs loads) multi_hashed (multi_late sources under) hashes width

-- all its rules, in their parts
abbrev pub multi_told : Hashes → ℕ → ℕ → ℕ → ℕ → List ℕ → List (List ℕ) → (List ℕ → Bool) → List MultiRow → MultiRow → Option ℕ
multi_told hashes width weight sub attrs loads sources under = plain_rule multi_place multi_cmp (multi_own hashes width sub attrs loads sources under) multi_weight weight

-- the tests of a row, in their parts
test_parts : (a b c d e f x : Bool) → option_or (option_or (first_of (if_broken 4 a ∷ if_broken 5 b ∷ if_broken 6 c ∷ [])) (option_or (if_broken 7 d) (first_of (if_broken 8 e ∷ if_broken 9 f ∷ [])))) (if_broken 13 x)
    ≡ first_of (if_broken 4 a ∷ if_broken 5 b ∷ if_broken 6 c ∷ if_broken 7 d ∷ if_broken 8 e ∷ if_broken 9 f ∷ if_broken 13 x ∷ [])
test_parts a b c d e f x = search rules

module _ (hashes : Hashes) (width : ℕ) (known : KnownTables) (read : Known) (is : IsKnown hashes width known read) (feed : ℕ) (sub attrs : ℕ) (subs : sub ≡ sub_count known.catalog.now feed) (counted : attrs ≡ attr_count known.catalog.now feed)
    (loads : List ℕ) (sources : List (List ℕ)) (under : List ℕ → Bool) (of : LooksUp read feed loads sources under) where
  pub multi_same : (before : List MultiRow) (row : MultiRow) → multi_told hashes width known.weight sub attrs loads sources under before row ≡ multi_rule read feed before row
  multi_same before row = rw (of.parent row.parent, of.loaded row.load, of.source row.source, is.width, is.mapping, is.hashes, is.weight, subs, counted) (test_parts _ _ _ _ _ _ _)

-- where no row breaks a rule, the rows are such as a table has
pub multi_ascends : (hashes : Hashes) (width weight sub attrs : ℕ) (loads : List ℕ) (sources : List (List ℕ)) (under : List ℕ → Bool) (rows : List MultiRow)
    → AreClear (multi_told hashes width weight sub attrs loads sources under) rows (length rows) → IsStrictlySortedBy multi_order rows
multi_ascends hashes width weight sub attrs loads sources under rows clear =
    let own = multi_own hashes width sub attrs loads sources under in
    all_ascend multi_place multi_cmp own (λ row behind none. first_stands loads (multi_form sub attrs width row) row.load behind (or_none _ _ none).0) rows
    (plain_owns_clear multi_place multi_cmp own multi_weight weight rows (length rows) clear) (then_total (on_total (λ (row : MultiRow). row.parent) nat_list_cmp_total) (on_total (λ (row : MultiRow). row.sub) texts_total))
