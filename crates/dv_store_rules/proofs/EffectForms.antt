-- The rules of a row of an effectivity table are those of a row by itself, and of the weight.
use Rattle.dv_store_rules.proofs.Vocabulary.{AreClear, Bool, EffectRow, Hashes, IsKnown, IsStrictlySortedBy, Known, KnownTables, List, Option, effect_cmp, effect_early, effect_late, effect_order, effect_place, effect_rule, first_stands, is_digest, length, nat_list_cmp_total, none_asked, on_total}
use Rattle.dv_store_rules.proofs.Vocabulary.{or_none, own_of, plain_rule, rules, text_weight, ℕ, ◌+◌, ◌≡◌}
use Rattle.dv_store_rules.proofs.{Chains.all_ascend, FeedForms.LooksUp, RuleParts.plain_owns_clear}

-- what a row weighs
abbrev pub effect_weight : EffectRow → ℕ
effect_weight row = 128 + text_weight row.source

-- the rules of a row by itself
abbrev pub effect_own : Hashes → ℕ → List ℕ → List (List ℕ) → (List ℕ → Bool) → EffectRow → Bool → Option ℕ
effect_own hashes width loads sources under = own_of (effect_early loads) none_asked (effect_late sources under) hashes width

-- all its rules, in their parts
abbrev pub effect_told : Hashes → ℕ → ℕ → List ℕ → List (List ℕ) → (List ℕ → Bool) → List EffectRow → EffectRow → Option ℕ
effect_told hashes width weight loads sources under = plain_rule effect_place effect_cmp (effect_own hashes width loads sources under) effect_weight weight

module _ (hashes : Hashes) (width : ℕ) (known : KnownTables) (read : Known) (is : IsKnown hashes width known read) (feed : ℕ) (loads : List ℕ) (sources : List (List ℕ)) (under : List ℕ → Bool) (of : LooksUp read feed loads sources under) where
  pub effect_same : (before : List EffectRow) (row : EffectRow) → effect_told hashes width known.weight loads sources under before row ≡ effect_rule read feed before row
  effect_same before row = rw (of.parent row.parent, of.loaded row.load, of.source row.source, is.width, is.weight) (search rules)

-- where no row breaks a rule, the rows are such as a table has
pub effect_ascends : (hashes : Hashes) (width weight : ℕ) (loads : List ℕ) (sources : List (List ℕ)) (under : List ℕ → Bool) (rows : List EffectRow)
    → AreClear (effect_told hashes width weight loads sources under) rows (length rows) → IsStrictlySortedBy effect_order rows
effect_ascends hashes width weight loads sources under rows clear =
    let own = effect_own hashes width loads sources under in
    all_ascend effect_place effect_cmp own (λ row behind none. first_stands loads (is_digest width row.parent) row.load behind (or_none _ _ none).0) rows
    (plain_owns_clear effect_place effect_cmp own effect_weight weight rows (length rows) clear) (on_total (λ (row : EffectRow). row.parent) nat_list_cmp_total)
