-- The first flaw of a table, told by what was read of it.
use Rattle.dv_store_rules.proofs.Vocabulary.{AllRows, Bool, Effect, Effects, Flaw, Hubs, IsHeavyFront, Known, Links, List, Multi, Multis, None, Option, OtherKind, Read, Rows, Sat, Sats, Some, Status, Statuses, TableId, TellsRows, [], ap, append_assoc, arith, drop, effect_rule, eqb-true, false}
use Rattle.dv_store_rules.proofs.Vocabulary.{first_along, first_flaw, first_of, flaw_behind, flaw_in, hub_rule, if_broken, inl, inr, is_light, is_of_kind, leb-true, length, link_rule, most_weight, multi_rule, none_before_map, of_other_kind, or_none, page, refl, row_count, rows_weight, rules}
use Rattle.dv_store_rules.proofs.Vocabulary.{sat_rule, status_rule, subst, sum_by, sym, tables_weight, take, take-append-drop, true, ℕ, ◌++◌, ◌+◌, ◌<◌, ◌==◌, ◌∙◌, ◌∷◌, ◌≡◌, ◌≤◌}
use Rattle.dv_catalog.specs.declared.tables.TableId.TheVariants.{Hub, Link}

-- ---- tests along a list

-- an answer along a front of a list is that along the list
front_answers : {X R : Type 0} (test : List X → X → Option R) (before xs ys : List X) (r : R) → first_along test before xs ≡ Some r → first_along test before (xs ++ ys) ≡ Some r
front_answers test before [] ys r e = cc
front_answers test before (x ∷ xs) ys r e = by (test before x) refl (front_answers test (before ++ x ∷ []) xs ys r)
  where
    by : (o : Option _) → test before x ≡ o → (first_along test (before ++ x ∷ []) xs ≡ Some r → first_along test (before ++ x ∷ []) (xs ++ ys) ≡ Some r) → first_along test before ((x ∷ xs) ++ ys) ≡ Some r
    by None t rest = rw t (rest (rw t at e))
    by (Some y) t rest = rw t (rw t at e)

-- ---- rows of one kind

module _ {R : Type 0} (rule_of : List R → R → Option ℕ) (weight_of : R → ℕ) (weight : ℕ) (light : (before : List R) (row : R) → rule_of before row ≡ None → weight + sum_by weight_of (before ++ row ∷ []) ≤ most_weight) where
  -- rows of which none breaks a rule don't weigh too much
  light_along : (before rows : List R) → 0 < length rows → first_along (flaw_behind rule_of) before rows ≡ None → weight + sum_by weight_of (before ++ rows) ≤ most_weight
  light_along before [] some none = absurd (omega (arith, some))
  light_along before (row ∷ []) some none = light before row (none_before_map _ (rule_of before row) (or_none _ _ none).0)
  light_along before (row ∷ next ∷ rows) some none =
      subst (λ l. weight + sum_by weight_of l ≤ most_weight) (append_assoc before (row ∷ []) (next ∷ rows))
      (light_along (before ++ row ∷ []) (next ∷ rows) (omega arith) (or_none _ _ none).1)

  -- so one that weighs too much has a flaw
  heavy_found : (rows : List R) → 0 < length rows → most_weight < weight + sum_by weight_of rows → (flaw : Flaw) × (first_flaw rule_of rows ≡ Some flaw)
  heavy_found rows some heavy = by (first_flaw rule_of rows) refl
    where
      by : (o : Option Flaw) → first_flaw rule_of rows ≡ o → (flaw : Flaw) × (first_flaw rule_of rows ≡ Some flaw)
      by None none = absurd (omega (arith, heavy, light_along [] rows some none))
      by (Some flaw) is = (flaw, is)

  -- and it is that of all rows
  front_found : (rows : List R) (count : ℕ) → 0 < length (take count rows) → most_weight < weight + sum_by weight_of (take count rows)
      → (flaw : Flaw) × (first_flaw rule_of (take count rows) ≡ Some flaw) × (first_flaw rule_of rows ≡ Some flaw)
  front_found rows count some heavy =
      let (flaw, is) = heavy_found (take count rows) some heavy in
      let same : first_flaw rule_of (take count rows ++ drop count rows) ≡ Some flaw = front_answers (flaw_behind rule_of) [] (take count rows) (drop count rows) flaw is in (
        flaw,
        is,
        subst (λ l. first_flaw rule_of l ≡ Some flaw) (take-append-drop count rows) same,
      )

-- ---- rows of any kind

-- rows of another kind, where there is one
of_other : (rows : Rows) → 0 < row_count rows → of_other_kind rows ≡ Some (record { row = 1; rule = 4 })
of_other rows some = by (row_count rows == 0) refl
  where
    by : (b : Bool) → (row_count rows == 0) ≡ b → of_other_kind rows ≡ Some (record { row = 1; rule = 4 })
    by true none = absurd (omega (arith, some, eqb-true (row_count rows) 0 none))
    by false t = rw t refl

light_last : (a b c d e f light : Bool) → first_of (if_broken 4 a ∷ if_broken 5 b ∷ if_broken 6 c ∷ if_broken 7 d ∷ if_broken 8 e ∷ if_broken 9 f ∷ if_broken 13 light ∷ []) ≡ None → light ≡ true
light_last a b c d e f light none = search rules

module _ (known : Known) where
  not_heavy : (rows : Rows) → is_light known rows ≡ true → tables_weight known.tables + rows_weight rows ≤ most_weight
  not_heavy rows light = leb-true _ _ light

  -- the flaw of a front that weighs too much
  front_flaw : (table : TableId) (stored : Rows) (count : ℕ) → is_of_kind table stored ≡ true → 0 < row_count (page 0 count stored) → most_weight < tables_weight known.tables + rows_weight (page 0 count stored)
      → (flaw : Flaw) × (flaw_in known table (page 0 count stored) ≡ Some flaw) × (flaw_in known table stored ≡ Some flaw)
  front_flaw (Hub n) (Hubs rows) count own some heavy =
      front_found (hub_rule known n) _ (tables_weight known.tables) (λ before row none. not_heavy (Hubs (before ++ row ∷ [])) (search rules)) rows count some heavy
  front_flaw (Link n) (Links rows) count own some heavy =
      front_found (link_rule known n) _ (tables_weight known.tables) (λ before row none. not_heavy (Links (before ++ row ∷ [])) (search rules)) rows count some heavy
  front_flaw (Sat n) (Sats rows) count own some heavy =
      front_found (sat_rule known n) _ (tables_weight known.tables) (λ before row none. not_heavy (Sats (before ++ row ∷ [])) (search rules)) rows count some heavy
  front_flaw (Multi n) (Multis rows) count own some heavy =
      front_found (multi_rule known n) _ (tables_weight known.tables) (λ before row none. not_heavy (Multis (before ++ row ∷ [])) (light_last _ _ _ _ _ _ (is_light known (Multis (before ++ row ∷ []))) none)) rows count some heavy
  front_flaw (Status n) (Statuses rows) count own some heavy =
      front_found (status_rule known n) _ (tables_weight known.tables) (λ before row none. not_heavy (Statuses (before ++ row ∷ [])) (search rules)) rows count some heavy
  front_flaw (Effect n) (Effects rows) count own some heavy =
      front_found (effect_rule known n) _ (tables_weight known.tables) (λ before row none. not_heavy (Effects (before ++ row ∷ [])) (search rules)) rows count some heavy
  front_flaw table stored count own some heavy = cc

  -- where a front of a table's rows weighs too much with what was read before, it has a flaw, and this is the first of all
  -- rows
  pub heavy_front : (table : TableId) (weight : ℕ) (stored rows : Rows) → tables_weight known.tables ≡ weight → is_of_kind table stored ≡ true → IsHeavyFront weight stored rows
      → (flaw : Flaw) × (flaw_in known table rows ≡ Some flaw) × (flaw_in known table stored ≡ Some flaw)
  heavy_front table weight stored rows read own front =
      let first = front.first in
      let some : 0 < row_count (page 0 (row_count rows) stored) = subst (λ l. 0 < row_count l) first front.some in
      let much : most_weight < tables_weight known.tables + rows_weight rows = omega (arith, read, front.heavy) in
      let heavy : most_weight < tables_weight known.tables + rows_weight (page 0 (row_count rows) stored) = subst (λ l. most_weight < tables_weight known.tables + rows_weight l) first much in
      let (flaw, here, all) = front_flaw table stored (row_count rows) own some heavy in (
        flaw,
        ap (flaw_in known table) first ∙ here,
        all,
      )

  -- the first flaw of a table, by what was read of it
  abbrev pub flaw_read : TableId → Read → Option Flaw
  flaw_read table (AllRows rows) = flaw_in known table rows
  flaw_read table (OtherKind row) = Some (record { row = row; rule = 4 })

  other_flaw : (table : TableId) (stored : Rows) → is_of_kind table stored ≡ false → flaw_in known table stored ≡ of_other_kind stored
  other_flaw table stored other = search rules

  -- is that of the rows that are stored
  pub read_tells : (table : TableId) (weight : ℕ) (stored : Rows) (read : Read) → tables_weight known.tables ≡ weight → TellsRows table weight stored read → flaw_in known table stored ≡ flaw_read table read
  read_tells table weight stored (AllRows rows) before (own, inl same) = ap (flaw_in known table) (sym same)
  read_tells table weight stored (AllRows rows) before (own, inr front) = let (flaw, here, all) = heavy_front table weight stored rows before own front in all ∙ sym here
  read_tells table weight stored (OtherKind row) before (other, some, first) = other_flaw table stored other ∙ of_other stored some ∙ ap (λ n. Some (record { row = n; rule = 4 })) (sym first)

  -- rows that were read and have no flaw are all that are stored
  pub clear_whole : (table : TableId) (weight : ℕ) (stored rows : Rows) → tables_weight known.tables ≡ weight → TellsRows table weight stored (AllRows rows) → flaw_in known table rows ≡ None → rows ≡ stored
  clear_whole table weight stored rows before (own, inl same) clear = same
  clear_whole table weight stored rows before (own, inr front) clear =
      let (flaw, here, all) = heavy_front table weight stored rows before own front in
      let no : None ≡ Some flaw = sym clear ∙ here in cc
