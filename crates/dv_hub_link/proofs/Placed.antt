-- Rows of which each has a digest of its own: the one under a digest is the last one in load order that has it, and new rows
-- of a date that is not earlier may stand behind them.
use Rattle.dv_hub_link.proofs.Vocabulary.{Bool, Bor, Contains, Contains-append_cases, Contains-cons_here, Contains-cons_there, IsStrictlySortedBy, Less, List, None, Option, Place, Some, [], all_pass, and_from, and_parts, ap, are_in_load_order, are_parents_apart, are_placed_rows, arith, bytes_eq}
use Rattle.dv_hub_link.proofs.Vocabulary.{bytes_eq-Decides, digest_cmp, false, false_from_ne_true, false≢true, find, find_none, find_same, finds, found_member, has_row_under, inl, inr, irreflexive, is_some, latest_at, le-leb, length, list_all, list_any, map, member_of_all, nat_le}
use Rattle.dv_hub_link.proofs.Vocabulary.{nat_list_cmp_total, none_found_at, none_pass, not, not-true, option_map, or_parts, passes_at, refl, reverse, reverse_member, row_under, slice_get, some_passes_at, subst, sym, true, up_to_last, ℕ, ◌&&◌, ◌++◌, ◌-◌, ◌∙◌, ◌∷◌, ◌≡◌}
use Rattle.dv_hub_link.proofs.Alike.{one_alike}

-- one is found exactly where one passes
pub some_found : {X : Type 0} (p : X → Bool) (xs : List X) → is_some (find p xs) ≡ list_any p xs
some_found p [] = refl
some_found p (x ∷ xs) = by (p x) refl (some_found p xs)
  where
    by : (t : Bool) → p x ≡ t → is_some (find p xs) ≡ list_any p xs → is_some (find p (x ∷ xs)) ≡ list_any p (x ∷ xs)
    by true e rest = rw e refl
    by false e rest = rw e rest

passes_both : (t u : Bool) → u ≡ true → (t && u) ≡ t
passes_both true u e = e
passes_both false u e = refl

module _ {R : Type 0} (place : R → Place) where
  has_it : (rows : List R) (row : R) (digest : List ℕ) → Contains rows row → (place row).parent ≡ digest → has_row_under place digest rows ≡ true
  has_it rows row digest member same = some_passes_at (λ (r : R). bytes_eq (place r).parent digest) rows row member ((bytes_eq-Decides (place row).parent digest).1 same)

  -- of rows whose digests are apart, those with one digest are one
  one_row : (rows : List R) → are_parents_apart place rows ≡ true → (a b : R) → Contains rows a → Contains rows b → (place a).parent ≡ (place b).parent → a ≡ b
  one_row = one_alike (are_parents_apart place) (λ (a b : R). (place a).parent ≡ (place b).parent) (λ a b same. sym same) (λ row rows apart.
      let parts = and_parts (not (has_row_under place (place row).parent rows)) (are_parents_apart place rows) apart in
      (λ other has same. false≢true (sym (not-true (has_row_under place (place row).parent rows) parts.0) ∙ has_it rows other (place row).parent has same), parts.1))

  -- the last row with a digest that is not later than the last row is the row with the digest
  latest_is : (rows : List R) (digest : List ℕ) (date : ℕ) → are_placed_rows place rows ≡ true → ((x : R) → Contains rows x → nat_le (place x).load date ≡ true) → latest_at place rows digest date ≡ row_under place digest rows
  latest_is rows digest date are early =
      find_same (λ (r : R). bytes_eq (place r).parent digest && nat_le (place r).load date) has (reverse rows) (λ x member. passes_both (has x) (nat_le (place x).load date) (early x ((reverse_member rows x).0 member)))
      ∙ by (row_under place digest rows) refl
    where
      has : R → Bool
      has r = bytes_eq (place r).parent digest

      by : (o : Option R) → row_under place digest rows ≡ o → find has (reverse rows) ≡ row_under place digest rows
      by (Some row) e =
          let (member, same) = found_member has rows row e in
          let (found, there) = finds has (reverse rows) row ((reverse_member rows row).1 member) same in
          let (found_in, alike) = found_member has (reverse rows) found there in
          let digests : (place found).parent ≡ (place row).parent = (bytes_eq-Decides (place found).parent digest).0 alike ∙ sym ((bytes_eq-Decides (place row).parent digest).0 same) in
          there ∙ ap Some (one_row rows (and_parts (are_parents_apart place rows) (are_in_load_order place rows) are).0 found row ((reverse_member rows found).0 found_in) member digests) ∙ sym e
      by None e = find_none has (reverse rows) (λ x member. none_found_at has rows x e ((reverse_member rows x).0 member)) ∙ sym e

  -- a row is found exactly where one has the digest
  pub has_by_row : (rows : List R) (digest : List ℕ) (found : Option (Bor R)) → option_map (λ (row : Bor R). row.now) found ≡ row_under place digest rows → (b : Bool) → b ≡ is_some found → b ≡ has_row_under place digest rows
  has_by_row rows digest found e b is = is ∙ by found ∙ ap is_some e ∙ some_found (λ (r : R). bytes_eq (place r).parent digest) rows
    where
      by : (o : Option (Bor R)) → is_some o ≡ is_some (option_map (λ (row : Bor R). row.now) o)
      by None = refl
      by (Some row) = refl

  -- the last row with a digest that is not later than the last of the rows
  pub row_is : (rows : List R) (digest : List ℕ) → are_placed_rows place rows ≡ true → (listed : List R) → listed ≡ rows → (last : R) → Some last ≡ slice_get listed (length listed - 1) → (found : Option R)
      → found ≡ latest_at place rows digest (place last).load
      → found ≡ row_under place digest rows
  row_is rows digest are listed same last is found latest =
      latest
      ∙ latest_is rows digest (place last).load are
      (λ x has. le-leb (place x).load (place last).load
      (up_to_last place rows last (and_parts (are_parents_apart place rows) (are_in_load_order place rows) are).1 (sym (subst (λ (l : List R). Some last ≡ slice_get l (length l - 1)) same is)) x has))

  -- no row is later than the last one
  pub none_later : (rows : List R) → are_placed_rows place rows ≡ true → (listed : List R) → listed ≡ rows → (last : R) → Some last ≡ slice_get listed (length listed - 1) → list_all (λ row. nat_le (place row).load (place last).load) rows ≡ true
  none_later rows are listed same last is =
      all_pass (λ row. nat_le (place row).load (place last).load) rows (λ row has. le-leb (place row).load (place last).load
      (up_to_last place rows last (and_parts (are_parents_apart place rows) (are_in_load_order place rows) are).1 (sym (subst (λ (l : List R). Some last ≡ slice_get l (length l - 1)) same is)) row has))

  -- the last rows of digests that are not later than a date than which no row is
  pub rows_are : (rows : List R) (digests : List (List ℕ)) (date : ℕ) → are_placed_rows place rows ≡ true → list_all (λ row. nat_le (place row).load date) rows ≡ true
      → map (λ digest. latest_at place rows digest date) digests ≡ map (λ digest. row_under place digest rows) digests
  rows_are rows digests date are early = λ i. map (λ digest. latest_is rows digest date are (λ row has. passes_at (λ (r : R). nat_le (place r).load date) rows row early has) i) digests

  -- ---- rows and new ones behind them

  -- no row has a digest where each row has another
  none_has : (digest : List ℕ) (rows : List R) → ((row : R) → Contains rows row → (place row).parent ≡ digest → ⊥) → not (has_row_under place digest rows) ≡ true
  none_has digest rows differ =
      ap not (none_pass (λ (r : R). bytes_eq (place r).parent digest) rows (λ row member. false_from_ne_true (bytes_eq (place row).parent digest) (λ t. differ row member ((bytes_eq-Decides (place row).parent digest).0 t))))

  -- rows that ascend by digest have their own
  ascending_apart : (rows : List R) → IsStrictlySortedBy (λ a b. digest_cmp (place a).parent (place b).parent) rows → are_parents_apart place rows ≡ true
  unfolding IsStrictlySortedBy
  ascending_apart [] up = refl
  ascending_apart (row ∷ rows) up =
      and_from (not (has_row_under place (place row).parent rows)) (are_parents_apart place rows)
      (none_has (place row).parent rows (λ other member same.
      irreflexive nat_list_cmp_total (place row).parent (subst (λ d. digest_cmp (place row).parent d ≡ Less) same (member_of_all (λ w. digest_cmp (place row).parent (place w).parent ≡ Less) rows other up.0 member))))
      (ascending_apart rows up.1)

  apart_both : (rows made : List R) → are_parents_apart place rows ≡ true → are_parents_apart place made ≡ true → ((row : R) → Contains made row → has_row_under place (place row).parent rows ≡ false)
      → are_parents_apart place (rows ++ made) ≡ true
  apart_both [] made apart made_apart new = made_apart
  apart_both (row ∷ rows) made apart made_apart new =
      let parts = and_parts (not (has_row_under place (place row).parent rows)) (are_parents_apart place rows) apart in
      and_from (not (has_row_under place (place row).parent (rows ++ made))) (are_parents_apart place (rows ++ made))
      (none_has (place row).parent (rows ++ made) (λ other member same.
      elim (Contains-append_cases rows made other member) [
        | inl here ↦ absurd (false≢true (sym (not-true (has_row_under place (place row).parent rows) parts.0) ∙ has_it rows other (place row).parent here same))
        | inr far ↦ absurd (false≢true (sym (new other far) ∙ has_it (row ∷ rows) row (place other).parent (Contains-cons_here row rows) (sym same)))
      ]))
      (apart_both rows made parts.1 made_apart (λ other member. (or_parts (bytes_eq (place row).parent (place other).parent) (has_row_under place (place other).parent rows) (new other member)).1))

  one_date : (load : ℕ) (made : List R) → ((row : R) → Contains made row → (place row).load ≡ load) → are_in_load_order place made ≡ true
  one_date load [] is = refl
  one_date load (row ∷ made) is =
      and_from (list_all (λ other. nat_le (place row).load (place other).load) made) (are_in_load_order place made)
      (all_pass (λ other. nat_le (place row).load (place other).load) made (λ other member.
      let same : (place row).load ≡ (place other).load = is row (Contains-cons_here row made) ∙ sym (is other (Contains-cons_there row made other member)) in
      subst (λ n. nat_le (place row).load n ≡ true) same (le-leb (place row).load (place row).load (omega arith))))
      (one_date load made (λ other member. is other (Contains-cons_there row made other member)))

  order_both : (load : ℕ) (rows made : List R) → are_in_load_order place rows ≡ true → list_all (λ row. nat_le (place row).load load) rows ≡ true → ((row : R) → Contains made row → (place row).load ≡ load)
      → are_in_load_order place (rows ++ made) ≡ true
  order_both load [] made order dated is = one_date load made is
  order_both load (row ∷ rows) made order dated is =
      let parts = and_parts (list_all (λ other. nat_le (place row).load (place other).load) rows) (are_in_load_order place rows) order in
      let early = and_parts (nat_le (place row).load load) (list_all (λ (r : R). nat_le (place r).load load) rows) dated in
      and_from (list_all (λ other. nat_le (place row).load (place other).load) (rows ++ made)) (are_in_load_order place (rows ++ made))
      (all_pass (λ other. nat_le (place row).load (place other).load) (rows ++ made) (λ other member.
      elim (Contains-append_cases rows made other member) [
        | inl here ↦ passes_at (λ (r : R). nat_le (place row).load (place r).load) rows other parts.0 here
        | inr far ↦ subst (λ n. nat_le (place row).load n ≡ true) (sym (is other far)) early.0
      ]))
      (order_both load rows made parts.1 early.1 is)

  -- rows of a table, and new ones behind them
  pub whole : (load : ℕ) (rows made : List R) → are_placed_rows place rows ≡ true → list_all (λ row. nat_le (place row).load load) rows ≡ true → IsStrictlySortedBy (λ a b. digest_cmp (place a).parent (place b).parent) made
      → ((row : R) → Contains made row → ((place row).load ≡ load) × (has_row_under place (place row).parent rows ≡ false)) → are_placed_rows place (rows ++ made) ≡ true
  whole load rows made are dated up new =
      let parts = and_parts (are_parents_apart place rows) (are_in_load_order place rows) are in
      and_from (are_parents_apart place (rows ++ made)) (are_in_load_order place (rows ++ made))
      (apart_both rows made parts.0 (ascending_apart made up) (λ row member. (new row member).1))
      (order_both load rows made parts.1 dated (λ row member. (new row member).0))
