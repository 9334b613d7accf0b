-- The rules of a row of a status table are those of a row by itself, of codes by turns, and of the weight.
use Rattle.dv_store_rules.proofs.Vocabulary.{AreClear, Bool, Hashes, IsKnown, IsStrictlySortedBy, Known, KnownTables, List, Option, StatusRow, first_stands, is_digest, length, nat_list_cmp_total, none_asked, on_total, or_none, own_of, rules, status_cmp, status_early, status_late, status_order}
use Rattle.dv_store_rules.proofs.Vocabulary.{status_place, status_rule, text_weight, turning_rule, turns, ℕ, ◌+◌, ◌≡◌}
use Rattle.dv_store_rules.proofs.{Chains.all_ascend, FeedForms.LooksUp, RuleParts.owns_clear}

-- what a row weighs
abbrev pub status_weight : StatusRow → ℕ
status_weight row = 128 + text_weight row.source

-- the rules of a row by itself
abbrev pub status_own : Hashes → ℕ → List ℕ → List (List ℕ) → (List ℕ → Bool) → StatusRow → Bool → Option ℕ
status_own hashes width loads sources under = own_of (status_early loads) none_asked (status_late sources under) hashes width

-- all its rules, in their parts
abbrev pub status_told : Hashes → ℕ → ℕ → List ℕ → List (List ℕ) → (List ℕ → Bool) → List StatusRow → StatusRow → Option ℕ
status_told hashes width weight loads sources under = turning_rule status_place status_cmp (status_own hashes width loads sources under) turns 11 status_weight weight

module _ (hashes : Hashes) (width : ℕ) (known : KnownTables) (read : Known) (is : IsKnown hashes width known read) (feed : ℕ) (loads : List ℕ) (sources : List (List ℕ)) (under : List ℕ → Bool) (of : LooksUp read feed loads sources under) where
  pub status_same : (before : List StatusRow) (row : StatusRow) → status_told hashes width known.weight loads sources under before row ≡ status_rule read feed before row
  status_same before row = rw (of.parent row.parent, of.loaded row.load, of.source row.source, is.width, is.weight) (search rules)

-- where no row breaks a rule, the rows are such as a table has
pub status_ascends : (hashes : Hashes) (width weight : ℕ) (loads : List ℕ) (sources : List (List ℕ)) (under : List ℕ → Bool) (rows : List StatusRow)
    → AreClear (status_told hashes width weight loads sources under) rows (length rows) → IsStrictlySortedBy status_order rows
status_ascends hashes width weight loads sources under rows clear =
    let own = status_own hashes width loads sources under in
    all_ascend status_place status_cmp own (λ row behind none. first_stands loads (is_digest width row.parent) row.load behind (or_none _ _ none).0) rows
    (owns_clear status_place status_cmp own turns 11 status_weight weight rows (length rows) clear) (on_total (λ (row : StatusRow). row.parent) nat_list_cmp_total)
