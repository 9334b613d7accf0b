-- What a page tells of a stored table of a snapshot, behind the rows that were read before it; and what rows come to that
-- are held to a form.
use Rattle.dv_window.proofs.Vocabulary.{AllRows, AreAlike, AreFirst, Bool, Flawed, List, None, Option, Pits, Read, Rows, Some, TellsPage, TellsRows, [], ap, arith, eq-eqb, eqb-true, false, first_flaw, first_place, flaw_in, flaw_place, if◌then◌else◌, inl, inr, joined, length, list_all, min}
use Rattle.dv_window.proofs.Vocabulary.{nat_le, nat_lt, nat_tests, not, option_map, own_rows, page, page_count, page_exact, passes_at, refl, row_count, rows_then, subst, sym, then_page, true, unplaced, whole_page, ℕ, ◌&&◌, ◌+◌, ◌-◌, ◌<◌, ◌==◌, ◌∙◌, ◌∷◌, ◌≡◌, ◌≤◌}

-- ---- pages

-- before the first page
pub none_first : (asked : ℕ) (stored : Rows) → AreFirst asked stored (Pits [])
none_first asked stored = record { first = inr (refl, omega (arith, page_count 0 0 stored)); within = omega arith }

-- as many rows are read as are asked for
pub enough : (asked : ℕ) (stored rows : Rows) → AreFirst asked stored rows → asked ≤ row_count rows → AreAlike rows (page 0 asked stored)
enough asked stored rows first reached =
    let same : row_count rows ≡ asked = omega (arith, reached, first.within) in
    subst (λ n. AreAlike rows (page 0 n stored)) same first.first

module _ (asked : ℕ) (stored rows more : Rows) (most : ℕ) (first : AreFirst asked stored rows) (is : more ≡ page (row_count rows) most stored) (fits : row_count rows + most ≤ asked) where
  -- the rows with those of the page
  grown : joined rows more ≡ page 0 (row_count rows + most) stored
  grown = by (row_count rows == 0) refl first.first
    where
      by : (b : Bool) → (row_count rows == 0) ≡ b → AreAlike rows (page 0 (row_count rows) stored) → (if b then more else rows_then rows more) ≡ page 0 (row_count rows + most) stored
      by true e alike =
          let none : row_count rows ≡ 0 = eqb-true (row_count rows) 0 e in
          let same : most ≡ row_count rows + most = omega (arith, none) in
          is ∙ ap (λ n. page n most stored) none ∙ ap (λ n. page 0 n stored) same
      by false e (inl same) = ap (λ a. rows_then a more) same ∙ ap (rows_then (page 0 (row_count rows) stored)) is ∙ then_page (row_count rows) most stored
      by false e (inr nothing) = let test : (row_count rows == 0) ≡ true = eq-eqb (row_count rows) 0 nothing.0 in cc

  count_is : row_count (joined rows more) ≡ min (row_count rows + most) (row_count stored - 0)
  count_is = ap row_count grown ∙ page_count 0 (row_count rows + most) stored

  taken_is : row_count more ≡ min most (row_count stored - row_count rows)
  taken_is = ap row_count is ∙ page_count (row_count rows) most stored

  goes_on : AreFirst asked stored (joined rows more)
  goes_on = record {
    first = inl (subst (λ (l : Rows). l ≡ page 0 (row_count l) stored) (sym grown) (sym (page_exact (row_count rows + most) stored)));
    within = omega (arith, count_is, fits);
  }

  ends : row_count more < most → AreAlike (joined rows more) (page 0 asked stored)
  ends short =
      let few : row_count stored ≤ row_count rows + most = omega (arith, short, taken_is) in
      inl (grown ∙ whole_page (row_count rows + most) stored few ∙ sym (whole_page asked stored (omega (arith, few, fits))))

  grows : most ≤ row_count more → 0 < most → row_count rows < row_count (joined rows more)
  grows long some = omega (arith, long, some, taken_is, count_is)

  -- what a page tells
  pub tells : (next : Rows) → next ≡ joined rows more → 0 < most → (on : Bool) → on ≡ (nat_le most (row_count more) && nat_lt (row_count rows) (row_count next)) → TellsPage asked stored next on
  tells next next_is some on on_is = by (nat_le most (row_count more)) refl (nat_lt (row_count rows) (row_count next)) refl on_is
    where
      by : (p : Bool) → nat_le most (row_count more) ≡ p → (q : Bool) → nat_lt (row_count rows) (row_count next) ≡ q → on ≡ (p && q) → TellsPage asked stored next on
      by true long true grew e = subst (TellsPage asked stored next) (sym e) (subst (AreFirst asked stored) (sym next_is) goes_on)
      by true long false stood e =
          let enough_taken : most ≤ row_count more = grind (arith, nat_tests, long) in
          let more_now : row_count rows < row_count next = subst (λ (l : Rows). row_count rows < row_count l) (sym next_is) (grows enough_taken some) in
          let test : nat_lt (row_count rows) (row_count next) ≡ true = grind (arith, nat_tests, more_now) in
          cc
      by false short q grew e =
          let few : row_count more < most = grind (arith, nat_tests, short) in
          subst (TellsPage asked stored next) (sym e) (subst (λ (l : Rows). AreAlike l (page 0 asked stored)) (sym next_is) (ends few))

-- ---- a form

no_items : {X : Type 0} (xs : List X) → length xs ≡ 0 → xs ≡ []
no_items [] e = refl
no_items (x ∷ xs) e = cc

module _ {R : Type 0} (own : Rows → Option (List R)) (is_sound : R → Bool) where
  abbrev numbered : Option ℕ → Option ℕ
  numbered place = option_map (λ place. place + 1) place

  -- sound rows have no flaw
  pub unflawed : (rows : Rows) (xs : List R) → own rows ≡ Some xs → list_all is_sound xs ≡ true → first_flaw own is_sound rows ≡ None
  unflawed rows xs e sound =
      ap numbered (ap (flaw_in is_sound (row_count rows)) e ∙ unplaced (λ row. not (is_sound row)) xs (λ row has. ap not (passes_at is_sound xs row sound has)))

  module _ (counted : (rows : Rows) (xs : List R) → own rows ≡ Some xs → row_count rows ≡ length xs) where
    -- where there is no row there is none, of whatever kind
    none_flawed : (rows : Rows) → row_count rows ≡ 0 → (flaw_place own is_sound rows ≡ None) × (own_rows (own rows) ≡ [])
    none_flawed rows none = by (own rows) refl
      where
        by : (o : Option (List R)) → own rows ≡ o → (flaw_place own is_sound rows ≡ None) × (own_rows (own rows) ≡ [])
        by (Some xs) e =
            let empty : xs ≡ [] = no_items xs (sym (counted rows xs e) ∙ none) in
            (ap (flaw_in is_sound (row_count rows)) (e ∙ ap Some empty), ap own_rows (e ∙ ap Some empty))
        by None e = (ap (flaw_in is_sound (row_count rows)) e ∙ ap first_place none, ap own_rows e)

    -- rows that are alike come to the same
    pub told_alike : (a b : Rows) → AreAlike a b → (read : Read R) → TellsRows own is_sound a read → TellsRows own is_sound b read
    told_alike a b (inl same) read tells = subst (λ (rows : Rows). TellsRows own is_sound rows read) same tells
    told_alike a b (inr nothing) (AllRows rows) tells =
        (ap numbered (none_flawed b nothing.1).0, tells.1 ∙ (none_flawed a nothing.0).1 ∙ sym (none_flawed b nothing.1).1)
    told_alike a b (inr nothing) (Flawed row) tells =
        let clear : first_flaw own is_sound a ≡ None = ap numbered (none_flawed a nothing.0).0 in cc
