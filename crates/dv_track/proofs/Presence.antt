-- The parents that are there after a table's rows.
use Rattle.dv_track.proofs.Vocabulary.{AreThere, Bool, Contains, Contains-map, IsStrictlySortedBy, IsStrictlySortedBy-filter, List, None, Option, Place, Some, and-false, and-true, and_parts, ap, ascending-sorted_by, bytes_eq, bytes_eq-Decides, digest_cmp, false, false_from_ne_true, false≢true}
use Rattle.dv_track.proofs.Vocabulary.{filter, find, find-append, find_none, find_same, found_member, is_among, latest_at, latest_of_each, list_all-append, missing_in, nat_le, nat_list_cmp_total, none_later, not, or-false, parents_of, parents_there, passes_at, refl, reverse, reverse-append}
use Rattle.dv_track.proofs.Vocabulary.{reverse_member, some_passes_at, sorted_by, subst, sym, there_at, true, updated, ℕ, ◌&&◌, ◌++◌, ◌||◌, ◌∙◌, ◌≡◌}
use Rattle.dv_track.proofs.Amongst.{among-filter, among_both, among_sorted, is_among-Decides, own_row, said_parents, same_among}

-- a test beside one that it implies
implied : (p q : Bool) → (p ≡ true → q ≡ true) → (p && q) ≡ p
implied true q has = has refl
implied false q has = refl

module _ {X : Type 0} (place : X → Place) (says : Option X → Bool) (nothing : says None ≡ false) where
  -- ---- who is there

  -- a parent that is there has a row
  pub there_parent : (rows : List X) (parent : List ℕ) (date : ℕ) → there_at place says rows parent date ≡ true → Contains (parents_of place rows) parent
  there_parent rows parent date there = by (latest_at place rows parent date) refl
    where
      by : (o : Option X) → latest_at place rows parent date ≡ o → Contains (parents_of place rows) parent
      by None e = absurd (false≢true (sym nothing ∙ rw e at there))
      by (Some row) e =
          let (member, passes) = found_member (λ row. bytes_eq (place row).parent parent && nat_le (place row).load date) (reverse rows) row e in
          let same = (bytes_eq-Decides (place row).parent parent).0 (and_parts _ (nat_le (place row).load date) passes).0 in
          subst (Contains (parents_of place rows)) same (Contains-map (λ row. (place row).parent) rows row ((reverse_member rows row).0 member))

  -- so the list of those that are there has just these
  pub among_there_at : (rows : List X) (date : ℕ) (parent : List ℕ) → is_among (parents_there place says rows date) parent ≡ there_at place says rows parent date
  among_there_at rows date parent =
      among-filter (λ parent. there_at place says rows parent date) (sorted_by digest_cmp (parents_of place rows)) parent
      ∙ implied (there_at place says rows parent date) (is_among (sorted_by digest_cmp (parents_of place rows)) parent)
      (λ e. among_sorted (parents_of place rows) parent ∙ (is_among-Decides (parents_of place rows) parent).1 (there_parent rows parent date e))

  pub there_ascend : (rows : List X) (date : ℕ) → IsStrictlySortedBy digest_cmp (parents_there place says rows date)
  there_ascend rows date =
      IsStrictlySortedBy-filter digest_cmp (λ parent. there_at place says rows parent date) (sorted_by digest_cmp (parents_of place rows)) (ascending-sorted_by digest_cmp nat_list_cmp_total (parents_of place rows))

  -- the walk over the latest rows gives them
  pub latest_there : (rows : List X) (date : ℕ) → parents_of place (filter (λ row. says (Some row)) (latest_of_each place rows date)) ≡ parents_there place says rows date
  latest_there rows date =
      said_parents (λ row. (place row).parent) (λ row. says (Some row)) says nothing (λ row. refl) (λ parent. latest_at place rows parent date) (own_row place rows date) (sorted_by digest_cmp (parents_of place rows))

  -- ---- at which date

  -- at all dates that no row is later than, the same are there
  same_late : (rows : List X) (parent : List ℕ) (a b : ℕ) → none_later place rows a ≡ true → none_later place rows b ≡ true → there_at place says rows parent a ≡ there_at place says rows parent b
  same_late rows parent a b early_a early_b =
      ap says
      (find_same (λ row. bytes_eq (place row).parent parent && nat_le (place row).load a) (λ row. bytes_eq (place row).parent parent && nat_le (place row).load b) (reverse rows) (λ row has.
      let member = (reverse_member rows row).0 has in
      rw (passes_at (λ row. nat_le (place row).load a) rows row early_a member, passes_at (λ row. nat_le (place row).load b) rows row early_b member) refl))

  pub made_there : (rows : List X) (last : ℕ) → none_later place rows last ≡ true → AreThere place says rows (parents_there place says rows last)
  made_there rows last up date early = ap (λ test. filter test (sorted_by digest_cmp (parents_of place rows))) (λ i parent. same_late rows parent last date up early i)

  -- ---- more rows

  -- rows of others change nothing for a parent
  same_untouched : (rows more : List X) (parent : List ℕ) (date : ℕ) → is_among (parents_of place more) parent ≡ false → there_at place says (rows ++ more) parent date ≡ there_at place says rows parent date
  same_untouched rows more parent date untouched = ap says (ap (find p) (reverse-append rows more) ∙ find-append p (reverse more) (reverse rows) ∙ rw none refl)
    where
      p : X → Bool
      p row = bytes_eq (place row).parent parent && nat_le (place row).load date

      of_another : (row : X) → Contains more row → bytes_eq (place row).parent parent ≡ false
      of_another row has =
          false_from_ne_true (bytes_eq (place row).parent parent) (λ same.
          false≢true (sym untouched ∙ some_passes_at (λ other. bytes_eq other parent) (parents_of place more) (place row).parent (Contains-map (λ row. (place row).parent) more row has) same))

      none : find p (reverse more) ≡ None
      none = find_none p (reverse more) (λ row has. rw (of_another row ((reverse_member more row).0 has)) refl)

  -- the kept list is brought up to more rows
  module _ (rows more : List X) (present : List (List ℕ)) (last : ℕ) (is : AreThere place says rows present) (up : none_later place (rows ++ more) last ≡ true) where
    abbrev all : List X
    all = rows ++ more

    abbrev touched : List (List ℕ)
    touched = sorted_by digest_cmp (parents_of place more)

    abbrev items : List (List ℕ)
    items = missing_in touched present ++ filter (λ parent. there_at place says all parent last) touched

    untouched : (date : ℕ) (parent : List ℕ) → is_among touched parent ≡ false → there_at place says all parent date ≡ there_at place says rows parent date
    untouched date parent f = same_untouched rows more parent date (sym (among_sorted (parents_of place more) parent) ∙ f)

    module _ (date : ℕ) (early : none_later place all date ≡ true) where
      before : present ≡ parents_there place says rows date
      before = is date (and_parts (none_later place rows date) (none_later place more date) (sym (list_all-append (λ row. nat_le (place row).load date) rows more) ∙ early)).0

    pub kept_ascend : IsStrictlySortedBy digest_cmp present
    kept_ascend = rw (before last up) (there_ascend rows last)

    -- the touched ones are as the rows say now, and the others as they were
    chosen : (t kept new said : Bool) → (t ≡ true → new ≡ said) → (t ≡ false → kept ≡ said) → ((not t && kept) || (new && t)) ≡ said
    chosen true kept new said by_new by_kept = rw (and-true new) (by_new refl)
    chosen false kept new said by_new by_kept = rw (and-false new, or-false kept) (by_kept refl)

    pub updated_there : AreThere place says all (updated place says all last present touched)
    updated_there date early =
        same_among (sorted_by digest_cmp items) (parents_there place says all date) (ascending-sorted_by digest_cmp nat_list_cmp_total items) (there_ascend all date) (λ parent.
        among_both (λ digest. not (is_among touched digest)) (λ parent. there_at place says all parent last) present touched parent
        ∙ chosen (is_among touched parent) (is_among present parent) (there_at place says all parent last) (is_among (parents_there place says all date) parent)
        (λ t. same_late all parent last date up early ∙ sym (among_there_at all date parent))
        (λ f. ap (λ list. is_among list parent) (before date early) ∙ among_there_at rows date parent ∙ sym (untouched date parent f) ∙ sym (among_there_at all date parent)))
