-- Entries stand in the order of their rows.
use Rattle.dv_index.proofs.Vocabulary.{All, All-append, All-get_or, All-permutation, AreEntries, Bool, Entry, Equal, Greater, IsDigest, IsEntry, IsIndex, IsPermutation, IsPermutation-map, IsSorted, IsStrictWeakOrder, IsTotalOrder, Less, List, Ordering, Place, [], ap, arith, digest_prefix}
use Rattle.dv_index.proofs.Vocabulary.{entry_at, entry_cmp, get_or, get_or-map, get_or-take, is_entry_reached, is_lt, is_reached, is_reached_by, length, length-append, length-map, length-take-le, map, map-append, nat_cmp_total, number_cmp, numbers_of, on_total, ordering_then, parent_at}
use Rattle.dv_index.proofs.Vocabulary.{parents_of, prefix_first, range_with_len, ranks_by, refl, subst, sym, take, then_total, ℕ, ◌++◌, ◌+◌, ◌-◌, ◌<◌, ◌∙◌, ◌∷◌, ◌≡◌, ◌≤◌}
use Rattle.dv_index.proofs.{Grown.grown_numbers, Grown.index_length, Grown.still_sorted, Order.number_total, Order.within}

-- the entry that is read where there is none
abbrev pub no_entry : Entry
no_entry = record { prefix = 0; number = 0 }

-- what decides before a test as that test does may come before it once more
absorbed : (p t n : Ordering) → t ≡ ordering_then p t → ordering_then p (ordering_then t n) ≡ ordering_then t n
absorbed Less t n e = let is : t ≡ Less = e in rw is refl
absorbed Equal t n e = refl
absorbed Greater t n e = let is : t ≡ Greater = e in rw is refl

reached_absorbed : (p t : Ordering) (early : Bool) → t ≡ ordering_then p t → is_reached_by p (is_reached_by t early) ≡ is_reached_by t early
reached_absorbed Less t early e = let is : t ≡ Less = e in rw is refl
reached_absorbed Equal t early e = refl
reached_absorbed Greater t early e = let is : t ≡ Greater = e in rw is refl

module _ (parents : List (List ℕ)) where
  entry_total : IsTotalOrder (entry_cmp parents)
  entry_total = then_total (on_total (λ entry. entry.prefix) nat_cmp_total) (on_total (λ entry. entry.number) (number_total parents))

  abbrev pub entry_lt : Entry → Entry → Bool
  entry_lt a b = is_lt (entry_cmp parents a b)

  pub entry_order : IsStrictWeakOrder entry_lt
  entry_order = ranks_by entry_total (λ entry. entry)

  -- entries compare as the numbers of their rows
  entry_compared : (a b : Entry) → IsEntry parents a → IsEntry parents b → entry_cmp parents a b ≡ number_cmp parents a.number b.number
  entry_compared a b p q = rw (p.prefix_is, q.prefix_is) (absorbed _ _ _ (prefix_first (parent_at parents a.number) (parent_at parents b.number) p.wide q.wide))

  -- an entry is reached where its row is
  pub entry_reached : (loads : List ℕ) (parent : List ℕ) (prefix date : ℕ) (entry : Entry) → IsEntry parents entry → IsDigest parent → prefix ≡ digest_prefix parent
      → is_entry_reached parents loads parent prefix date entry ≡ is_reached parents loads parent date entry.number
  entry_reached loads parent prefix date entry p wide is = rw (p.prefix_is, is) (reached_absorbed _ _ _ (prefix_first (parent_at parents entry.number) parent p.wide wide))

  -- the number at a place
  pub number_at : (entries : List Entry) (k d : ℕ) (e : Entry) → k < length entries → get_or (numbers_of entries) k d ≡ (get_or entries k e).number
  number_at entries k d e under = get_or-map (λ entry. entry.number) entries k e d under

  numbers_sorted : (entries : List Entry) → All (IsEntry parents) entries → IsSorted (entry_cmp parents) entries → IsSorted (number_cmp parents) (numbers_of entries)
  numbers_sorted entries each up k d low under =
      let e : Entry = record { prefix = 0; number = d } in
      let small : k + 1 < length entries = rw length-map at under in
      let first = number_at entries k d e (omega arith) in
      let second = number_at entries (k + 1) d e small in
      let same = entry_compared (get_or entries (k + 1) e) (get_or entries k e) (All-get_or (IsEntry parents) entries (k + 1) e small each) (All-get_or (IsEntry parents) entries k e (omega arith) each) in
      rw (first, second, ← same) (up k e low small)

  entries_sorted : (entries : List Entry) → All (IsEntry parents) entries → IsSorted (number_cmp parents) (numbers_of entries) → IsSorted (entry_cmp parents) entries
  entries_sorted entries each up k e low under =
      let first = number_at entries k e.number e (omega arith) in
      let second = number_at entries (k + 1) e.number e under in
      let same = entry_compared (get_or entries (k + 1) e) (get_or entries k e) (All-get_or (IsEntry parents) entries (k + 1) e under each) (All-get_or (IsEntry parents) entries k e (omega arith) each) in
      rw same (rw (first, second) at (up k e.number low (rw length-map under)))

  made_numbers : (numbers : List ℕ) → numbers_of (map (entry_at parents) numbers) ≡ numbers
  made_numbers [] = refl
  made_numbers (n ∷ ns) = ap (λ xs. n ∷ xs) (made_numbers ns)

  -- entries of the first rows are entries of all
  still_entries : (entries : List Entry) (n : ℕ) → n ≤ length parents → IsIndex (take n parents) (numbers_of entries) → All (IsEntry (take n parents)) entries → All (IsEntry parents) entries
  still_entries entries n fewer is each k d under =
      let here = number_at entries k d.number d under in
      let there = rw (here, length-take-le n parents fewer) at (within (take n parents) (numbers_of entries) is k d.number (rw length-map under)) in
      let same = get_or-take n parents (get_or entries k d).number [] there in
      let p = each k d under in
      record { wide = rw same at p.wide; prefix_is = rw same at p.prefix_is }

  -- the entries of all rows, in order
  pub started : (made sorted : List Entry) → made ≡ map (entry_at parents) (range_with_len 0 (length parents)) → All (IsEntry parents) made → IsPermutation made sorted → IsSorted (entry_cmp parents) sorted → AreEntries parents sorted
  started made sorted e each moved up =
      let all = All-permutation (IsEntry parents) made sorted moved each in
      let numbers : numbers_of made ≡ range_with_len 0 (length parents) = ap numbers_of e ∙ made_numbers (range_with_len 0 (length parents)) in
      record {
        index = record { each = subst (λ ns. IsPermutation ns (numbers_of sorted)) numbers (IsPermutation-map (λ entry. entry.number) made sorted moved); ordered = numbers_sorted sorted all up };
        each = all;
      }

  module _ (index : List Entry) (fewer : length index ≤ length parents) (is : AreEntries (take (length index) parents) index) where
    long : length (numbers_of index) ≡ length index
    long = length-map index (λ entry. entry.number)

    first_rows : IsIndex (take (length (numbers_of index)) parents) (numbers_of index)
    first_rows = rw long is.index

    old_entries : All (IsEntry parents) index
    old_entries = still_entries index (length index) fewer is.index is.each

    -- an index of the first rows is in the order of all
    pub olds_sorted : IsSorted (entry_cmp parents) index
    olds_sorted = entries_sorted index old_entries (still_sorted parents (numbers_of index) (omega (arith, long)) first_rows)

    -- it and the entries of the others, in order
    pub grown : (made arrivals merged : List Entry) → made ≡ map (entry_at parents) (range_with_len (length index) (length parents - length index)) → All (IsEntry parents) made
        → IsPermutation made arrivals → IsPermutation (index ++ arrivals) merged → IsSorted (entry_cmp parents) merged → AreEntries parents merged
    grown made arrivals merged e each moved joined up =
        let news = All-permutation (IsEntry parents) made arrivals moved each in
        let all = All-permutation (IsEntry parents) (index ++ arrivals) merged joined (All-append (IsEntry parents) index arrivals old_entries news) in
        let range : numbers_of made ≡ range_with_len (length (numbers_of index)) (length parents - length (numbers_of index)) = ap numbers_of e ∙ made_numbers (range_with_len (length index) (length parents - length index)) ∙ rw long refl in
        let numbers : IsPermutation (numbers_of index ++ numbers_of arrivals) (numbers_of merged) = rw map-append at (IsPermutation-map (λ entry. entry.number) (index ++ arrivals) merged joined) in
        record {
          index = record {
            each = grown_numbers parents (numbers_of index) (numbers_of made) (numbers_of arrivals) (numbers_of merged) (omega (arith, long)) first_rows range (IsPermutation-map (λ entry. entry.number) made arrivals moved) numbers;
            ordered = numbers_sorted merged all up;
          };
          each = all;
        }

-- there are as many entries as rows
pub entries_length : (parents : List (List ℕ)) (index : List Entry) → AreEntries parents index → length index ≡ length parents
entries_length parents index is = sym (length-map index (λ entry. entry.number)) ∙ index_length parents (numbers_of index) is.index

-- with others behind some rows, there are as many as these have entries, and the others
pub counted : {X : Type 0} (place : X → Place) (old more all : List X) (index : List Entry) → all ≡ old ++ more → AreEntries (parents_of place old) index → length all ≡ length index + length more
counted place old more all index e is = omega (arith, ap length e, length-append old more, entries_length (parents_of place old) index is, length-map old (λ row. (place row).parent))
