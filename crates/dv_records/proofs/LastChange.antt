-- A table that gets rows of a parent only from extracts that change something of it: its last rows tell the last change.
use Rattle.dv_records.proofs.Vocabulary.{Bool, Contains, Contains-append_cases, Contains-append_left, Contains-append_right, Contains-cons_here, Contains-cons_there, Contains-flat_map, Contains-nil, Extract, Hashes, IsApart, Key, List, None, Option, Some, Window, [], all_refs, and_from}
use Rattle.dv_records.proofs.Vocabulary.{and_parts, ap, appended, arith, bytes_eq, bytes_eq-Decides, delivered_refs, false, false≢true, filter-all, find, find-append, finds, flat_map_member, found_member, history, inl, inr, le-leb, leb-true, lists_of, nat_le, option_or, refl, reverse}
use Rattle.dv_records.proofs.Vocabulary.{reverse-append, reverse_member, rules, subst, sym, true, up_to, ℕ, ◌&&◌, ◌++◌, ◌∙◌, ◌∷◌, ◌≡◌, ◌≤◌, ◌⊎◌}
use Rattle.dv_records.proofs.Reversing.{AllBefore, IsNewestFirst, history_member}

-- extracts that are all before a date are all up to it
pub all_up_to : (limit date : ℕ) (all : List Extract) → AllBefore (λ (extract : Extract). extract.load) limit all → limit ≤ date → up_to date all ≡ all
all_up_to limit date all before le = filter-all (λ (extract : Extract). nat_le extract.load date) all (λ extract has. let first = before extract has in le-leb extract.load date (omega arith))

-- ---- hash keys of their own

-- no other list of the extracts has the hash key of a list
abbrev pub IsOwn : Hashes → List Key → List Extract → Type 0
IsOwn hashes refs all = (other : List Key) → Contains (lists_of all) other → hashes.hash other ≡ hashes.hash refs → other ≡ refs

-- nor have any two of them one hash key
abbrev pub AreApart : Hashes → List Key → List Extract → Type 0
AreApart hashes refs all = IsApart hashes (lists_of all) × IsOwn hashes refs all

pub apart-older : (hashes : Hashes) (refs : List Key) (newest : Extract) (older : List Extract) → AreApart hashes refs (newest ∷ older) → AreApart hashes refs older
apart-older hashes refs newest older apart = search (rules, Contains-append_right)

-- the lists of a feed's extracts, in either order of the windows
pub lists_reversed : (feed : ℕ) (sealed : List Window) (refs : List Key) → Contains (lists_of (history feed (reverse sealed))) refs → Contains (delivered_refs feed sealed) refs
lists_reversed feed sealed refs has =
    let (extract, member, within) = flat_map_member (λ (extract : Extract). all_refs extract.rows) (history feed (reverse sealed)) refs has in
    Contains-flat_map (λ (extract : Extract). all_refs extract.rows) (history feed sealed) extract refs ((history_member feed sealed extract).0 member) within

pub apart-reversed : (hashes : Hashes) (feed : ℕ) (sealed : List Window) (refs : List Key) → IsApart hashes (delivered_refs feed sealed)
    → ((other : List Key) → Contains (delivered_refs feed sealed) other → hashes.hash other ≡ hashes.hash refs → other ≡ refs) → AreApart hashes refs (history feed (reverse sealed))
apart-reversed hashes feed sealed refs apart own = (λ a b a_in b_in. apart a b (lists_reversed feed sealed a a_in) (lists_reversed feed sealed b b_in), λ other has. own other (lists_reversed feed sealed other has))

-- ---- the last change

module _ {R V : Type 0} (parent_of : R → List ℕ) (load_of : R → ℕ) (batch : List Extract → Extract → List R) (value : List Extract → V) (Good : List Extract → Type 0) (parent : List ℕ) (date : ℕ) where
  -- whether a row is of the parent, and not later than the date
  abbrev pub is_up_to : R → Bool
  is_up_to row = bytes_eq (parent_of row) parent && nat_le (load_of row) date

  -- an extract has a row of the parent, or none, and then the value stays
  abbrev pub Changes : Extract → List Extract → Type 0
  Changes newest older =
      ((row : R) × Contains (batch older newest) row × (parent_of row ≡ parent))
      ⊎ (((row : R) → Contains (batch older newest) row → parent_of row ≡ parent → ⊥) × (value (newest ∷ older) ≡ value older))

  -- and its rows of the parent have its load date
  pub record IsStep (newest : Extract) (older : List Extract) : Type 0 where
    pub dated : (row : R) → Contains (batch older newest) row → parent_of row ≡ parent → load_of row ≡ newest.load
    pub changes : Changes newest older

  -- the last row up to the date is one of the last extract that changes the value up to it, and so are all with its load date
  pub record IsLast (all : List Extract) (rows : List R) : Type 0 where
    pub newest : Extract
    pub older : List Extract
    pub good : Good (newest ∷ older)
    pub told : value (up_to date all) ≡ value (newest ∷ older)
    pub last : R
    pub found : find is_up_to (reverse rows) ≡ Some last
    pub last_in : Contains (batch older newest) last
    pub last_of : parent_of last ≡ parent
    pub only : (row : R) → Contains rows row → parent_of row ≡ parent → load_of row ≡ load_of last → Contains (batch older newest) row
    pub each : (row : R) → Contains (batch older newest) row → Contains rows row
    pub dated : (row : R) → Contains (batch older newest) row → parent_of row ≡ parent → load_of row ≡ load_of last

  -- there is no row up to the date, and the value is that of no extract; or there is such a last row
  abbrev pub Tells : List Extract → List R → Type 0
  Tells all rows = ((find is_up_to (reverse rows) ≡ None) × (value (up_to date all) ≡ value [])) ⊎ IsLast all rows

  found_in : (rows : List R) (row : R) → find is_up_to (reverse rows) ≡ Some row → Contains rows row × (parent_of row ≡ parent) × (load_of row ≤ date)
  found_in rows row e = search (rules, found_member, and_parts, reverse_member, bytes_eq-Decides, leb-true, reverse_member rows row)

  -- the last row of two lists is that of the second, and else that of the first
  last_of_both : (before rows : List R) (o : Option R) → find is_up_to (reverse rows) ≡ o → find is_up_to (reverse (before ++ rows)) ≡ option_or o (find is_up_to (reverse before))
  last_of_both before rows o e = rw (reverse-append before rows) (find-append is_up_to (reverse rows) (reverse before) ∙ ap (λ (o : Option R). option_or o (find is_up_to (reverse before))) e)

  -- rows of which none is of the parent and up to the date change nothing
  kept : (newest : Extract) (older : List Extract) (before : List R) → ((row : R) → Contains (batch older newest) row → parent_of row ≡ parent → load_of row ≤ date → ⊥)
      → value (up_to date (newest ∷ older)) ≡ value (up_to date older) → Tells older before → Tells (newest ∷ older) (before ++ batch older newest)
  kept newest older before quiet same told = by told
    where
      none : (o : Option R) → find is_up_to (reverse (batch older newest)) ≡ o → find is_up_to (reverse (batch older newest)) ≡ None
      none None e = e
      none (Some row) e = let (has, of, reached) = found_in (batch older newest) row e in absurd (quiet row has of reached)

      still : find is_up_to (reverse (before ++ batch older newest)) ≡ find is_up_to (reverse before)
      still = last_of_both before (batch older newest) None (none (find is_up_to (reverse (batch older newest))) refl)

      by : Tells older before → Tells (newest ∷ older) (before ++ batch older newest)
      by (inl empty) = inl (still ∙ empty.0, same ∙ empty.1)
      by (inr is) =
          let (last_in, last_of, reached) = found_in before is.last is.found in
          inr (record {
            newest = is.newest;
            older = is.older;
            good = is.good;
            told = same ∙ is.told;
            last = is.last;
            found = still ∙ is.found;
            last_in = is.last_in;
            last_of = is.last_of;
            only = λ row has of load. elim (Contains-append_cases before (batch older newest) row has) [
              | inl old ↦ is.only row old of load
              | inr new ↦ absurd (quiet row new of (subst (λ n. n ≤ date) (sym load) reached))
            ];
            each = λ row has. Contains-append_left before (batch older newest) row (is.each row has);
            dated = is.dated;
          })

  module _ (tail : (newest : Extract) (older : List Extract) → Good (newest ∷ older) → Good older) (step : (newest : Extract) (older : List Extract) → Good (newest ∷ older) → IsStep newest older) where
    row_extract : (all : List Extract) → Good all → (row : R) → Contains (appended batch all) row → parent_of row ≡ parent → (extract : Extract) × Contains all extract × (load_of row ≡ extract.load)
    row_extract [] good row has of = Contains-nil row has
    row_extract (newest ∷ older) good row has of =
        elim (Contains-append_cases (appended batch older) (batch older newest) row has) [
          | inl before ↦ let (extract, member, load) = row_extract older (tail newest older good) row before of in (extract, Contains-cons_there newest older extract member, load)
          | inr now ↦ (newest, Contains-cons_here newest older, (step newest older good).dated row now of)
        ]

    pub last_change : (all : List Extract) → IsNewestFirst (λ (extract : Extract). extract.load) all → Good all → Tells all (appended batch all)
    last_change [] order good = inl (refl, refl)
    last_change (newest ∷ older) order good = by (nat_le newest.load date) refl (step newest older good).changes (last_change older order.1 (tail newest older good))
      where
        dated : (row : R) → Contains (batch older newest) row → parent_of row ≡ parent → load_of row ≡ newest.load
        dated = (step newest older good).dated

        by : (b : Bool) → nat_le newest.load date ≡ b → Changes newest older → Tells older (appended batch older) → Tells (newest ∷ older) (appended batch (newest ∷ older))
        by false e changes told =
            kept newest older (appended batch older)
            (λ row has of reached. false≢true (sym e ∙ le-leb newest.load date (subst (λ n. n ≤ date) (dated row has of) reached)))
            (rw e refl) told
        by true e (inr same) told =
            let whole : up_to date older ≡ older = all_up_to newest.load date older order.0 (leb-true newest.load date e) in
            kept newest older (appended batch older) (λ row has of reached. same.0 row has of) (rw (e, whole) same.1) told
        by true e (inl (row, has, of)) told =
            let whole : up_to date older ≡ older = all_up_to newest.load date older order.0 (leb-true newest.load date e) in
            let reached : nat_le (load_of row) date ≡ true = rw (dated row has of) e in
            let (last, found) = finds is_up_to (reverse (batch older newest)) row ((reverse_member (batch older newest) row).1 has) (and_from _ _ ((bytes_eq-Decides (parent_of row) parent).1 of) reached) in
            let (last_in, last_of, last_reached) = found_in (batch older newest) last found in
            inr (record {
              newest = newest;
              older = older;
              good = good;
              told = rw (e, whole) refl;
              last = last;
              found = last_of_both (appended batch older) (batch older newest) (Some last) found;
              last_in = last_in;
              last_of = last_of;
              only = λ other there is load. elim (Contains-append_cases (appended batch older) (batch older newest) other there) [
                | inl old ↦
                    let (extract, member, at) = row_extract older (tail newest older good) other old is in
                    let less = order.0 extract member in
                    let last_load = dated last last_in last_of in
                    absurd (omega (arith, less, at, load, last_load))
                | inr new ↦ new
              ];
              each = λ other there. Contains-append_right (appended batch older) (batch older newest) other there;
              dated = λ other there is. dated other there is ∙ sym (dated last last_in last_of);
            })
