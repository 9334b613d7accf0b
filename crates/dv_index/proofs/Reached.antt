-- What is reached of the entries of an index, and the search for how many are.
use Rattle.dv_index.proofs.Vocabulary.{All, All-get_or, AreEntries, Bool, Entry, IsDigest, IsEntry, IsPartitionPoint, IsPartitionedBy, IsReachedPoint, List, Place, are_in_load_order, arith, digest_prefix, false, false_from_ne_true, false≢true, get_or, get_or-take, get_or_default, is_entry_reached}
use Rattle.dv_index.proofs.Vocabulary.{is_reached, length, length-map, length-take-le, loads_of, numbers_of, parents_of, sym, take, true, ℕ, ◌+◌, ◌-◌, ◌<◌, ◌∙◌, ◌≡◌, ◌≤◌}
use Rattle.dv_index.proofs.{EntryOrder.entry_reached, EntryOrder.number_at, Order.reached_first}

module _ {X : Type 0} (p : X → Bool) (xs : List X) where
  -- all items before a place pass, and none from another place on
  pub record IsNarrowed (low high : ℕ) : Type 0 where
    pub order : low ≤ high
    pub bound : high ≤ length xs
    pub before : (k : ℕ) (d : X) → k < low → p (get_or xs k d) ≡ true
    pub after : (k : ℕ) (d : X) → high ≤ k → k < length xs → p (get_or xs k d) ≡ false

  pub narrowed_first : (start : ℕ) → start ≤ length xs → All (λ x. p x ≡ true) (take start xs) → IsNarrowed start (length xs)
  narrowed_first start within all = record {
    order = within;
    bound = omega arith;
    before = λ k d under. rw (get_or-take start xs k d under) at (All-get_or (λ x. p x ≡ true) (take start xs) k d (omega (arith, length-take-le start xs within)) all);
    after = λ k d past under. absurd (omega arith);
  }

  pub narrowed_last : (low high : ℕ) → IsNarrowed low high → high ≤ low → IsPartitionPoint (λ x. p x ≡ true) (λ x. p x ≡ false) xs low
  narrowed_last low high n met = (λ k d from under. n.before k d under, λ k d from under. n.after k d (omega arith) under)

  module _ (parted : IsPartitionedBy p xs) (low high probe : ℕ) (n : IsNarrowed low high) (from : low ≤ probe) (to : probe < high) (d : X) where
    pub narrowed_up : p (get_or xs probe d) ≡ true → IsNarrowed (probe + 1) high
    narrowed_up passes = record {
      order = omega arith;
      bound = n.bound;
      before = λ k e under. parted k probe e (omega arith) (omega (arith, n.bound)) (rw (get_or_default xs probe e d (omega (arith, n.bound))) passes);
      after = n.after;
    }

    pub narrowed_down : p (get_or xs probe d) ≡ false → IsNarrowed low probe
    narrowed_down fails = record {
      order = from;
      bound = omega (arith, n.bound);
      before = n.before;
      after = λ k e past under.
          false_from_ne_true (p (get_or xs k e)) (λ passes.
          false≢true (sym fails ∙ rw (get_or_default xs probe e d (omega (arith, n.bound))) at (parted probe k e past under passes)));
    }

module _ {X : Type 0} (place : X → Place) (rows : List X) (index : List Entry) (is : AreEntries (parents_of place rows) index) (parent : List ℕ) (prefix date : ℕ) (wide : IsDigest parent) (spelt : prefix ≡ digest_prefix parent) where
  abbrev reach : ℕ → Bool
  reach = is_reached (parents_of place rows) (loads_of place rows) parent date

  abbrev pub reach_entry : Entry → Bool
  reach_entry = is_entry_reached (parents_of place rows) (loads_of place rows) parent prefix date

  reached_at : (k d : ℕ) (e : Entry) → k < length index → reach (get_or (numbers_of index) k d) ≡ reach_entry (get_or index k e)
  reached_at k d e under =
      rw (number_at (parents_of place rows) index k d e under)
      (sym (entry_reached (parents_of place rows) (loads_of place rows) parent prefix date (get_or index k e) (All-get_or (IsEntry (parents_of place rows)) index k e under is.each) wide spelt))

  -- no entry that is reached comes after one that isn't
  pub entries_parted : are_in_load_order place rows ≡ true → IsPartitionedBy reach_entry index
  entries_parted order i j e le under passes =
      sym (reached_at i e.number e (omega arith))
      ∙ reached_first place rows (numbers_of index) is.index order parent date i j e.number le (rw length-map under) (reached_at j e.number e under ∙ passes)

  -- the point up to which entries are reached is that up to which their numbers are
  pub numbers_point : (count : ℕ) → count ≤ length index → IsPartitionPoint (λ entry. reach_entry entry ≡ true) (λ entry. reach_entry entry ≡ false) index count
      → IsReachedPoint (parents_of place rows) (loads_of place rows) parent date (numbers_of index) count
  numbers_point count within point = (
    λ k d low under. reached_at k d (default d) (omega arith) ∙ point.0 k (default d) low under,
    λ k d low under. let small : k < length index = rw length-map at under in reached_at k d (default d) small ∙ point.1 k (default d) low small,
  )
    where
      default : ℕ → Entry
      default d = record { prefix = 0; number = d }

  -- where an entry is reached, all up to it are
  pub reached_up_to : are_in_load_order place rows ≡ true → (count : ℕ) (e : Entry) → 0 < count → count ≤ length index → reach_entry (get_or index (count - 1) e) ≡ true → All (λ entry. reach_entry entry ≡ true) (take count index)
  reached_up_to order count e some within passes k d under =
      let inside : k < count = omega (arith, length-take-le count index within) in
      rw (get_or-take count index k d inside) (entries_parted order k (count - 1) d (omega arith) (omega arith) (rw (get_or_default index (count - 1) d e (omega arith)) passes))
