-- What a page tells of the rows of a table, behind those that were read before it.
use Rattle.dv_store_rules.proofs.Vocabulary.{AreFirst, Bool, Foreign, IsGrown, Last, More, None, Rows, Some, Store, TableId, TellsPage, and_parts, ap, are_apart, are_snapshots_in_order, arith, false, false≢true, have_kinds, if◌then◌else◌, inl, inr, is_of_kind, is_well_formed, leb-false, leb-true}
use Rattle.dv_store_rules.proofs.Vocabulary.{most_weight, nat_le, page, refl, row_count, rows_then, rows_weight, rules, subst, sym, true, ℕ, ◌&&◌, ◌+◌, ◌<◌, ◌∙◌, ◌≡◌, ◌≤◌}
use Rattle.dv_store_rules.proofs.RowPages.{weight_least, count_then, page_count, page_exact, page_kind, then_page, weight_then, whole_page}

module _ (table : TableId) (stored rows more : Rows) (weight most : ℕ) (first : AreFirst table stored rows) (is : more ≡ page (row_count rows) most stored) where
  abbrev have : ℕ
  have = row_count rows

  kind_is : is_of_kind table more ≡ is_of_kind table stored
  kind_is = ap (is_of_kind table) is ∙ page_kind table have most stored

  count_is : row_count more ≡ row_count (page have most stored)
  count_is = ap row_count is

  grown : is_of_kind table more ≡ true → rows_then rows more ≡ page 0 (have + most) stored
  grown own = (λ i. rows_then (first.own (sym kind_is ∙ own) i) (is i)) ∙ then_page have most stored

  -- an empty page
  pub empty_page : (row_count stored ≡ 0 → is_of_kind table stored ≡ true) → 0 < most → row_count more ≡ 0 → TellsPage table weight stored rows rows Last
  empty_page kinds some empty = by (is_of_kind table stored) refl
    where
      by : (b : Bool) → is_of_kind table stored ≡ b → TellsPage table weight stored rows rows Last
      by true own = (own, inl (first.own own ∙ whole_page have stored (omega (arith, some, empty, count_is, page_count have most stored))))
      by false other =
          let none : row_count stored ≡ 0 = omega (arith, some, empty, count_is, page_count have most stored, first.other other) in
          absurd (false≢true (sym other ∙ kinds none))

  -- a page of another kind
  pub foreign_page : 0 < row_count more → is_of_kind table more ≡ false → TellsPage table weight stored rows rows Foreign
  foreign_page some other =
      let not_own : is_of_kind table stored ≡ false = sym kind_is ∙ other in (
        not_own,
        omega (arith, some, count_is, page_count have most stored),
        first.other not_own,
      )

  -- the rows with a page are first ones
  pub first_then : is_of_kind table more ≡ true → AreFirst table stored (rows_then rows more)
  first_then own = record {
    own = λ _. subst (λ l. l ≡ page 0 (row_count l) stored) (sym (grown own)) (sym (page_exact (have + most) stored));
    other = λ other. absurd (false≢true (sym other ∙ sym kind_is ∙ own));
  }

  -- a page that has fewer rows than were asked for
  pub short_page : is_of_kind table more ≡ true → row_count more < most → TellsPage table weight stored rows (rows_then rows more) Last
  short_page own short = (sym kind_is ∙ own, inl (grown own ∙ whole_page (have + most) stored (omega (arith, short, count_is, page_count have most stored))))

  -- a page with which the rows weigh too much
  pub heavy_page : is_of_kind table rows ≡ true → is_of_kind table more ≡ true → 0 < row_count more → most_weight < weight + rows_weight more → TellsPage table weight stored rows (rows_then rows more) Last
  heavy_page kind own some heavy = (
    sym kind_is ∙ own,
    inr ((first_then own).own (sym kind_is ∙ own), omega (arith, some, count_then table rows more kind own), omega (arith, heavy, weight_then table rows more kind own)),
  )

-- ---- weights

-- a weight that is no more than it may be
pub light_page : (table : TableId) (rows more : Rows) (weight sum : ℕ) → is_of_kind table rows ≡ true → is_of_kind table more ≡ true → 0 < row_count more
    → (if nat_le (weight + rows_weight more) most_weight then Some (weight + rows_weight more) else None) ≡ Some sum → IsGrown weight rows (rows_then rows more) (More sum)
light_page table rows more weight sum kind own some e = by (nat_le (weight + rows_weight more) most_weight) refl
  where
    by : (b : Bool) → nat_le (weight + rows_weight more) most_weight ≡ b → IsGrown weight rows (rows_then rows more) (More sum)
    by true light =
        let is : Some (weight + rows_weight more) ≡ Some sum = rw light at e in
        let same : weight + rows_weight more ≡ sum = cc in
        let le : weight + rows_weight more ≤ most_weight = leb-true (weight + rows_weight more) most_weight light in (
          omega (arith, same, weight_then table rows more kind own),
          omega (arith, same, some, weight_least more),
          omega (arith, same, le),
        )
    by false light = let no : None ≡ Some sum = rw light at e in cc

-- one that is more
pub heavy : (sum : ℕ) → (if nat_le sum most_weight then Some sum else None) ≡ None → most_weight < sum
heavy sum e = search (rules, leb-false)

-- the tables of a well-formed store have their kinds
pub well_kinds : (store : Store) → is_well_formed store ≡ true → have_kinds store.tables ≡ true
well_kinds store is = (and_parts (are_apart store.tables) (have_kinds store.tables) (and_parts (are_apart store.tables && have_kinds store.tables) (are_snapshots_in_order store.snapshots) is).0).1

-- ---- what was read
