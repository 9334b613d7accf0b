-- The rules of a row in their parts: those for a row by itself, that of the turns, and that of the weight.
use Rattle.dv_store_rules.proofs.Vocabulary.{AreClear, Bool, FeedDef, List, Mapping, None, Option, Ordering, Place, Some, bytes_eq, false, false≢true, find, found_member, if_broken, is_among, is_none, is_source, list_any, list_any-map, map, none_found_at, none_passes, not, or_none, own_rule}
use Rattle.dv_store_rules.proofs.Vocabulary.{plain_rule, refl, reverse, reverse_member, some_passes, source_by, sym, true, turn_rule, turning_rule, ℕ, ◌∙◌, ◌≡◌}

-- ---- record sources

pub source_told : (mapping : Mapping) (sources : List (List ℕ)) (source : List ℕ) → sources ≡ map (λ feed. source_by (Some feed)) mapping.feeds → is_source mapping source ≡ is_among sources source
source_told mapping sources source e = rw e (sym (list_any-map (bytes_eq source) (λ (feed : FeedDef). source_by (Some feed)) mapping.feeds))

-- ---- hash keys that stand once

pub none_found : {X : Type 0} (p : X → Bool) (xs : List X) → is_none (find p (reverse xs)) ≡ not (list_any p xs)
none_found p xs = by (find p (reverse xs)) refl (list_any p xs) refl
  where
    by : (o : Option _) → find p (reverse xs) ≡ o → (b : Bool) → list_any p xs ≡ b → is_none (find p (reverse xs)) ≡ not (list_any p xs)
    by None none false e = rw (none, e) refl
    by None none true e =
        let (x, member, passes) = some_passes p xs e in
        absurd (false≢true (sym (none_found_at p (reverse xs) x none ((reverse_member xs x).1 member)) ∙ passes))
    by (Some x) some true e = rw (some, e) refl
    by (Some x) some false e =
        let (member, passes) = found_member p (reverse xs) x some in
        absurd (false≢true (sym (none_passes p xs x e ((reverse_member xs x).0 member)) ∙ passes))

-- a rule that isn't broken holds
pub held : (rule : ℕ) (holds : Bool) → if_broken rule holds ≡ None → holds ≡ true
held rule true e = refl
held rule false e = cc

-- ---- the parts of a clear table

module _ {R : Type 0} (place : R → Place) (order : R → R → Ordering) (own : R → Bool → Option ℕ) (fits : Option R → R → Bool) (turn : ℕ) (weight_of : R → ℕ) (weight : ℕ) (rows : List R) (count : ℕ) where
  pub owns_clear : AreClear (turning_rule place order own fits turn weight_of weight) rows count → AreClear (own_rule place order own) rows count
  owns_clear clear at row under there = (or_none _ _ (clear at row under there)).0

  pub turns_clear : AreClear (turning_rule place order own fits turn weight_of weight) rows count → AreClear (turn_rule place fits turn) rows count
  turns_clear clear at row under there = (or_none _ _ (or_none _ _ (clear at row under there)).1).0

pub plain_owns_clear : {R : Type 0} (place : R → Place) (order : R → R → Ordering) (own : R → Bool → Option ℕ) (weight_of : R → ℕ) (weight : ℕ) (rows : List R) (count : ℕ)
    → AreClear (plain_rule place order own weight_of weight) rows count → AreClear (own_rule place order own) rows count
plain_owns_clear place order own weight_of weight rows count clear at row under there = (or_none _ _ (clear at row under there)).0
