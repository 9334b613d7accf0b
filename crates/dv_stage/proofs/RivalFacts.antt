-- Names of rows, the first row of each name, and the first rival of a row.
use Rattle.dv_stage.proofs.Vocabulary.{BTreeMap, Bool, Contains, Contains-push_cases, HasNoRivals, IsFirsts, IsTakenRows, List, NRow, None, RowName, Some, TakenRows, Updates, [], and_parts, ap, are_rivals, both_ways, cond, false, false_from_ne_true, found_at, get, inl, inr, is_eq, is_named}
use Rattle.dv_stage.proofs.Vocabulary.{length, name_cmp, name_of, none_placed, not, not-true, option_or, option_or-none, placed_narrower, position, position-last, refl, refs-tie, refs_cmp, refs_eq, refs_eq-Decides, same_Some, slice_cmp, slice_get, subst, sym, text_cmp, texts-tie, texts_eq}
use Rattle.dv_stage.proofs.Vocabulary.{texts_eq-Decides, tied_then, true, unplaced, ℕ, ◌&&◌, ◌++◌, ◌∙◌, ◌∷◌, ◌≡◌, ◌⊎◌}

-- a row has a name where its own name ties with it
named-tie : (row : NRow) (name : RowName) → is_eq (name_cmp (name_of row) name) ≡ is_named name row
named-tie row name =
    sym (tied_then (refs_cmp row.refs name.refs) (slice_cmp text_cmp row.sub name.sub))
    ∙ rw (← refs-tie row.refs name.refs, ← texts-tie row.sub name.sub) refl

-- a row's name is the only one that it has
name-is : (row : NRow) (name : RowName) → is_named name row ≡ true → name_of row ≡ name
name-is row name e =
    let parts = and_parts (refs_eq row.refs name.refs) (texts_eq row.sub name.sub) e in
    let refs = (refs_eq-Decides row.refs name.refs).0 parts.0 in
    let sub = (texts_eq-Decides row.sub name.sub).0 parts.1 in
    λ i. record { refs = refs i; sub = sub i }

-- the place of the first row of a name, with one row more
first_more : (rows : List NRow) (row : NRow) (name : RowName) (b : Bool) → is_named name row ≡ b
    → position (is_named name) (rows ++ row ∷ []) ≡ option_or (position (is_named name) rows) (cond b (Some (length rows)) None)
first_more rows row name b e =
    rw (← e) (position-last (is_named name) rows row)

-- a row of a name that was there leaves the first rows
pub firsts_more-old : (firsts : BTreeMap RowName ℕ) (rows : List NRow) (row : NRow) (first : ℕ) → IsFirsts firsts rows → position (is_named (name_of row)) rows ≡ Some first
    → IsFirsts firsts (rows ++ row ∷ [])
firsts_more-old firsts rows row first h e name = by (is_named name row) refl
  where
    by : (b : Bool) → is_named name row ≡ b → get name_cmp firsts name ≡ position (is_named name) (rows ++ row ∷ [])
    by true named =
        let there : position (is_named name) rows ≡ Some first = subst (λ (q : RowName). position (is_named q) rows ≡ Some first) (name-is row name named) e in
        rw (first_more rows row name true named, h name, there) refl
    by false other = rw (first_more rows row name false other, h name) (sym (option_or-none (position (is_named name) rows)))

-- a row of a new name is the first of it
pub firsts_more-new : (before after : BTreeMap RowName ℕ) (rows : List NRow) (row : NRow) → IsFirsts before rows → position (is_named (name_of row)) rows ≡ None
    → Updates name_cmp before after (name_of row) (Some (length rows)) → IsFirsts after (rows ++ row ∷ [])
firsts_more-new before after rows row h e updates name = updates.0 name ∙ rw (named-tie row name) (by (is_named name row) refl)
  where
    by : (b : Bool) → is_named name row ≡ b → cond b (Some (length rows)) (get name_cmp before name) ≡ position (is_named name) (rows ++ row ∷ [])
    by true named =
        let none : position (is_named name) rows ≡ None = subst (λ (q : RowName). position (is_named q) rows ≡ None) (name-is row name named) e in
        rw (first_more rows row name true named, none) refl
    by false other = rw (first_more rows row name false other, h name) (sym (option_or-none (position (is_named name) rows)))

-- a rival of a row has its name, and other attributes
not_named : (row other : NRow) → is_named (name_of row) other ≡ false → are_rivals other row ≡ false
not_named row other e = rw e refl

pub rival_parts : (a b : NRow) → are_rivals a b ≡ true → (a.refs ≡ b.refs) × (a.sub ≡ b.sub) × (texts_eq a.attrs b.attrs ≡ false)
rival_parts a b e =
    let outer = and_parts (refs_eq a.refs b.refs && texts_eq a.sub b.sub) (not (texts_eq a.attrs b.attrs)) e in
    let inner = and_parts (refs_eq a.refs b.refs) (texts_eq a.sub b.sub) outer.0 in
    ((refs_eq-Decides a.refs b.refs).0 inner.0, (texts_eq-Decides a.sub b.sub).0 inner.1, not-true (texts_eq a.attrs b.attrs) outer.1)

pub rival_from : (a b : NRow) → a.refs ≡ b.refs → a.sub ≡ b.sub → texts_eq a.attrs b.attrs ≡ false → are_rivals a b ≡ true
rival_from a b refs sub attrs = rw ((refs_eq-Decides a.refs b.refs).1 refs, (texts_eq-Decides a.sub b.sub).1 sub, attrs) refl

-- the first row of a name is the first rival where its attributes are others
pub rival-first : (rows : List NRow) (row : NRow) (first : ℕ) (x : NRow) → position (is_named (name_of row)) rows ≡ Some first → slice_get rows first ≡ Some x
    → texts_eq x.attrs row.attrs ≡ false → position (λ other. are_rivals other row) rows ≡ Some first
rival-first rows row first x e at differ =
    let wide = is_named (name_of row) in
    let found = found_at wide rows first e in
    let same : found.item ≡ x = same_Some _ _ (sym found.there ∙ at) in
    let named : wide x ≡ true = ap wide (sym same) ∙ found.passes in
    let narrow : are_rivals x row ≡ true = rw (named, differ) refl in
    placed_narrower wide (λ other. are_rivals other row) (λ other. not_named row other) rows first x e at narrow

-- and there is none where its attributes are the same
pub rival-none : (rows : List NRow) (row : NRow) (first : ℕ) (x : NRow) → HasNoRivals rows → position (is_named (name_of row)) rows ≡ Some first → slice_get rows first ≡ Some x
    → texts_eq x.attrs row.attrs ≡ true → position (λ other. are_rivals other row) rows ≡ None
rival-none rows row first x apart e at same =
    let wide = is_named (name_of row) in
    let found = found_at wide rows first e in
    let is_x : found.item ≡ x = same_Some _ _ (sym found.there ∙ at) in
    let named : name_of x ≡ name_of row = name-is x (name_of row) (ap wide (sym is_x) ∙ found.passes) in
    let member : Contains rows x = subst (Contains rows) is_x found.member in
    let attrs : x.attrs ≡ row.attrs = (texts_eq-Decides x.attrs row.attrs).0 same in
    unplaced (λ other. are_rivals other row) rows (λ y has. false_from_ne_true (are_rivals y row) (λ e.
    let parts = rival_parts y row e in
    let refs : y.refs ≡ x.refs = parts.0 ∙ sym (ap (λ (n : RowName). n.refs) named) in
    let sub : y.sub ≡ x.sub = parts.1 ∙ sym (ap (λ (n : RowName). n.sub) named) in
    both_ways _ (apart y x has member) (rival_from y x refs sub (rw attrs parts.2))))

-- a row of a new name has no rival
pub rival-new : (rows : List NRow) (row : NRow) → position (is_named (name_of row)) rows ≡ None → position (λ other. are_rivals other row) rows ≡ None
rival-new rows row e =
    unplaced (λ other. are_rivals other row) rows (λ y has. not_named row y (none_placed (is_named (name_of row)) rows e y has))

-- rows without attributes have no rivals
pub rival-bare : (rows : List NRow) (row : NRow) → ((other : NRow) → Contains rows other → other.attrs ≡ []) → row.attrs ≡ [] → position (λ other. are_rivals other row) rows ≡ None
rival-bare rows row bare none =
    unplaced (λ other. are_rivals other row) rows (λ y has. false_from_ne_true (are_rivals y row) (λ e.
    both_ways _ (rival_parts y row e).2 ((texts_eq-Decides y.attrs row.attrs).1 (bare y has ∙ sym none))))

pub rivals-turned : (a b : NRow) → are_rivals a b ≡ true → are_rivals b a ≡ true
rivals-turned a b e =
    let parts = rival_parts a b e in
    rival_from b a (sym parts.0) (sym parts.1) (false_from_ne_true (texts_eq b.attrs a.attrs) (λ same.
    both_ways _ parts.2 ((texts_eq-Decides a.attrs b.attrs).1 (sym ((texts_eq-Decides b.attrs a.attrs).0 same)))))

pub no_rival_of_itself : (a b : NRow) → a ≡ b → are_rivals a b ≡ true → ⊥
no_rival_of_itself a b same e = both_ways _ (rival_parts a b e).2 ((texts_eq-Decides a.attrs b.attrs).1 (ap (λ (row : NRow). row.attrs) same))

-- a row without a rival leaves the rows without rivals
pub apart_more : (rows : List NRow) (row : NRow) → HasNoRivals rows → position (λ other. are_rivals other row) rows ≡ None → HasNoRivals (rows ++ row ∷ [])
apart_more rows row apart e a b has_a has_b =
    false_from_ne_true (are_rivals a b) (λ rivals. by (Contains-push_cases rows row a has_a) (Contains-push_cases rows row b has_b) rivals)
  where
    none : (y : NRow) → Contains rows y → are_rivals y row ≡ false
    none = none_placed (λ other. are_rivals other row) rows e

    by : Contains rows a ⊎ (row ≡ a) → Contains rows b ⊎ (row ≡ b) → are_rivals a b ≡ true → ⊥
    by (inr x) (inr y) rivals = no_rival_of_itself a b (sym x ∙ y) rivals
    by (inl x) (inr y) rivals = both_ways (are_rivals a b) (subst (λ (other : NRow). are_rivals a other ≡ false) y (none a x)) rivals
    by (inr x) (inl y) rivals = both_ways (are_rivals b a) (subst (λ (other : NRow). are_rivals b other ≡ false) x (none b y)) (rivals-turned a b rivals)
    by (inl x) (inl y) rivals = both_ways (are_rivals a b) (apart a b x y) rivals

-- one more row taken
pub taken_more : (old new : TakenRows) (row : NRow) → IsTakenRows old → new.rows.items ≡ old.rows.items ++ row ∷ [] → new.bare ≡ old.bare
    → position (λ other. are_rivals other row) old.rows.items ≡ None → (old.bare ≡ false → IsFirsts new.firsts (old.rows.items ++ row ∷ [])) → (old.bare ≡ true → row.attrs ≡ [])
    → IsTakenRows new
taken_more old new row taken rows same rival firsts bare = record {
  apart = rw rows (apart_more old.rows.items row taken.apart rival);
  named = λ e. rw rows (firsts (sym same ∙ e));
  bare = λ e other has. elim (Contains-push_cases old.rows.items row other (rw rows at has)) [
    | inl before ↦ taken.bare (sym same ∙ e) other before
    | inr is ↦ sym (ap (λ (r : NRow). r.attrs) is) ∙ bare (sym same ∙ e)
  ];
}
