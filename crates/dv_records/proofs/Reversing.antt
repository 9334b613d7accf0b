-- Windows and extracts from the newest to the oldest.
use Rattle.dv_records.proofs.Vocabulary.{AllByRecursion, Bool, Contains, Contains-append_cases, Contains-cons_cases, Contains-cons_here, Contains-cons_there, Contains-nil, Extract, IsInLoadOrder, IsStrictlySortedBy, Less, List, None, Option, Some, Window, [], extract_of, false, filter}
use Rattle.dv_records.proofs.Vocabulary.{filter_map, filter_map_member, filtered_members, history, inl, inr, made_of, map, member_of_filter_map, nat_cmp, ranked, refl, reverse, reverse-append, reverse_member, rules, subst, sym, true, ℕ, ◌++◌, ◌<◌, ◌↔◌, ◌∷◌, ◌≡◌}

-- each is before a date
abbrev pub AllBefore : {X : Type 0} → (X → ℕ) → ℕ → List X → Type 0
AllBefore {X} load date xs = (x : X) → Contains xs x → load x < date

-- each is before those that stand in front of it
abbrev pub IsNewestFirst : {X : Type 0} → (X → ℕ) → List X → Type 0
IsNewestFirst load [] = Unit {0}
IsNewestFirst load (newest ∷ older) = AllBefore load (load newest) older × IsNewestFirst load older

module _ {X : Type 0} (load : X → ℕ) where
  -- one that is before all goes to the end
  newest_first-push : (xs : List X) (oldest : X) → IsNewestFirst load xs → ((x : X) → Contains xs x → load oldest < load x) → IsNewestFirst load (xs ++ oldest ∷ [])
  newest_first-push [] oldest order first = (λ x has. Contains-nil x has, tt)
  newest_first-push (newest ∷ xs) oldest order first = (
    λ x has. elim (Contains-append_cases xs (oldest ∷ []) x has) [
      | inl older ↦ order.0 x older
      | inr last ↦
          elim (Contains-cons_cases oldest [] x last) [
            | inl same ↦ subst (λ w. load w < load newest) same (first newest (Contains-cons_here newest xs))
            | inr none ↦ Contains-nil x none
          ]
    ],
    newest_first-push xs oldest order.1 (λ x has. first x (Contains-cons_there newest xs x has)),
  )

  later_than : (date : ℕ) (xs : List X) → AllByRecursion (λ y. nat_cmp date y ≡ Less) (map load xs) → (x : X) → Contains xs x → date < load x
  later_than date [] all x has = Contains-nil x has
  later_than date (y ∷ xs) all x has =
      elim (Contains-cons_cases y xs x has) [
        | inl same ↦ subst (λ w. date < load w) same (ranked date (load y) Less (sym all.0))
        | inr rest ↦ later_than date xs all.1 x rest
      ]

  -- what ascends stands the newest first when it is turned round
  pub newest_first : (xs : List X) → IsStrictlySortedBy nat_cmp (map load xs) → IsNewestFirst load (reverse xs)
  unfolding IsStrictlySortedBy
  newest_first [] order = tt
  newest_first (x ∷ xs) order =
      rw (reverse-append (x ∷ []) xs)
      (newest_first-push (reverse xs) x (newest_first xs order.1) (λ y has. later_than (load x) xs order.0 y ((reverse_member xs y).0 has)))

-- what is made of some of them stands in the same order
pub newest_first-filter_map : {X Y : Type 0} (load : X → ℕ) (made_load : Y → ℕ) (h : X → Option Y) → ((x : X) (y : Y) → h x ≡ Some y → made_load y ≡ load x) → (xs : List X) → IsNewestFirst load xs → IsNewestFirst made_load (filter_map h xs)
newest_first-filter_map load made_load h keeps [] order = tt
newest_first-filter_map {X} {Y} load made_load h keeps (x ∷ xs) order = by (newest_first-filter_map load made_load h keeps xs order.1) (h x) refl
  where
    by : IsNewestFirst made_load (filter_map h xs) → (o : Option Y) → h x ≡ o → IsNewestFirst made_load (filter_map h (x ∷ xs))
    by rest None e = rw e rest
    by rest (Some y) e = rw e (
      λ z has.
          let (w, member, is) = filter_map_member h xs z has in
          rw (keeps x y e, keeps w z is) (order.0 w member),
      rest,
    )

-- so does what passes a test
pub newest_first-filter : {X : Type 0} (load : X → ℕ) (p : X → Bool) (xs : List X) → IsNewestFirst load xs → IsNewestFirst load (filter p xs)
newest_first-filter load p [] order = tt
newest_first-filter {X} load p (x ∷ xs) order = by (p x) refl (newest_first-filter load p xs order.1)
  where
    by : (b : Bool) → p x ≡ b → IsNewestFirst load (filter p xs) → IsNewestFirst load (filter p (x ∷ xs))
    by true e rest = rw e (λ y has. order.0 y ((filtered_members p xs y).0 has).0, rest)
    by false e rest = rw e rest

-- an extract has its window's load date
pub extract-load : (feed : ℕ) (window : Window) (extract : Extract) → extract_of feed window ≡ Some extract → extract.load ≡ window.load
extract-load feed window extract e = search (rules, made_of)

-- so the extracts of windows in load order stand the newest first when the windows are turned round
pub history-newest_first : (feed : ℕ) (sealed : List Window) → IsInLoadOrder sealed → IsNewestFirst (λ (extract : Extract). extract.load) (history feed (reverse sealed))
history-newest_first feed sealed order = search (rules, newest_first-filter_map, extract-load, newest_first)

-- a feed has the same extracts in either order of the windows
pub history_member : (feed : ℕ) (sealed : List Window) (extract : Extract) → Contains (history feed (reverse sealed)) extract ↔ Contains (history feed sealed) extract
history_member feed sealed extract = (
  λ has. let (window, member, is) = filter_map_member (extract_of feed) (reverse sealed) extract has in member_of_filter_map (extract_of feed) sealed window extract ((reverse_member sealed window).0 member) is,
  λ has. let (window, member, is) = filter_map_member (extract_of feed) sealed extract has in member_of_filter_map (extract_of feed) (reverse sealed) window extract ((reverse_member sealed window).1 member) is,
)
