-- The hashed lists of deliveries are what they bring, and those that are new.
use Rattle.dv_hub_link.proofs.Vocabulary.{AllByRecursion, AreHashed, Bool, Contains, Contains-cons_cases, Contains-cons_here, Contains-cons_there, Contains-map, Contains-nil, Delivery, Equal, Greater, HasNoClash, Hashed, HashedDelivery, Hashes, Held, IsLeastClash, IsStrictlySortedBy-filter}
use Rattle.dv_hub_link.proofs.Vocabulary.{IsTotalOrder, Key, LentList, Less, List, Mapping, None, Option, Ordering, Other, Rivals, Some, [], all_hashed, ap, are_held_apart, ascending-sorted_by, brought, brought_lists, delivered, false, filter, filter_map, filtered_members, hashed_by}
use Rattle.dv_hub_link.proofs.Vocabulary.{hashed_cmp, hashed_cmp-IsAntisymmetric, hashed_item, hashed_list, hashed_lists, if◌then◌else◌, inl, inr, is_held, is_missing, is_new, is_new_beside, is_some, kept, least_rivals, lent_cmp, list_all, list_beside, list_under, map, map_member}
use Rattle.dv_hub_link.proofs.Vocabulary.{member_after_sort, member_before_sort, missing_in, missing_of, new_item, new_lists, not, recursion_from_All, refl, refs_cmp, refs_eq, refs_exact, refs_total, same_Some, slice_get, sorted_by, sorted_by-map, sorted_by-members, standing, subst, sym, told}
use Rattle.dv_hub_link.proofs.Vocabulary.{true, turned, with_missing, ℕ, ◌++◌, ◌||◌, ◌∙◌, ◌∷◌, ◌≡◌, ◌⊎◌}
use Rattle.dv_hub_link.proofs.Clashes.{as_hashed, hashed_total, has_under, least_clash, no_clash}

-- lists beside their hash keys have them
pub beside_are : (hashes : Hashes) (items : List HashedDelivery) → AreHashed hashes items → map list_beside items ≡ map (hashed_item hashes) (delivered items)
beside_are hashes items are = all items (recursion_from_All _ items are)
  where
    all : (rest : List HashedDelivery) → AllByRecursion (λ item. item.digest ≡ hashes.hash item.refs.now) rest → map list_beside rest ≡ map (hashed_item hashes) (delivered rest)
    all [] are = refl
    all (item ∷ rest) are = let more = all rest are.1 in λ i. record { digest = are.0 i; refs = item.refs.now; feed = item.feed } ∷ more i

-- of deliveries of which one is the first, the missing keys are those of its table
pub missing_first : (mapping : Mapping) (items : List HashedDelivery) (first : HashedDelivery) → slice_get items 0 ≡ Some first → missing_of mapping (delivered items) ≡ missing_in mapping first.table
missing_first mapping [] first e = let no : None ≡ Some first = e in cc
missing_first mapping (item ∷ items) first e = ap (λ (i : HashedDelivery). missing_in mapping i.table) (same_Some item first e)

-- and what they bring is as much as those
pub brought_first : (mapping : Mapping) (hashes : Hashes) (items : List HashedDelivery) (first : HashedDelivery) → slice_get items 0 ≡ Some first → (missing : List Key) → missing ≡ missing_of mapping (delivered items)
    → hashed_lists hashes missing first.feed (delivered items) ≡ brought_lists mapping hashes (delivered items)
brought_first mapping hashes [] first e missing is = let no : None ≡ Some first = e in cc
brought_first mapping hashes (item ∷ items) first e missing is =
    let same = same_Some item first e in
    λ i. sorted_by hashed_cmp (hashed_list hashes (is i) (sym same i).feed ∷ map (hashed_item hashes) (delivered (item ∷ items)))

-- lists in order, and what is said of them in order
pub told_in_order : (hashes : Hashes) (missing : List Key) (feed : ℕ) (items : List HashedDelivery) → AreHashed hashes items → (lists : List LentList) → map told lists ≡ hashed_list hashes missing feed ∷ map list_beside items
    → map told (sorted_by lent_cmp lists) ≡ hashed_lists hashes missing feed (delivered items)
told_in_order hashes missing feed items are lists is =
    sym (sorted_by-map hashed_cmp told lists) ∙ ap (sorted_by hashed_cmp) (is ∙ ap (λ rest. hashed_list hashes missing feed ∷ rest) (beside_are hashes items are))

-- ---- how lists stand to those that are held

-- a list is new exactly where it is not missing, and none has its hash key
new_stands : (held : List Hashed) (list : LentList) → is_new_beside list (standing held (told list)) ≡ is_new held (told list)
new_stands held list = by (list_under list.digest held) refl (has_under held list.digest)
  where
    by : (o : Option (List Key)) → list_under list.digest held ≡ o → is_held list.digest held ≡ is_some (list_under list.digest held) → is_new_beside list (standing held (told list)) ≡ is_new held (told list)
    by None e is = let none : is_held list.digest held ≡ false = is ∙ ap is_some e in rw (e, none) (missing (list_all is_missing list.refs.now))
      where
        missing : (t : Bool) → not t ≡ not (t || false)
        missing true = refl
        missing false = refl
    by (Some other) e is = let there : is_held list.digest held ≡ true = is ∙ ap is_some e in rw (e, there) (same (refs_eq other list.refs.now) (list_all is_missing list.refs.now))
      where
        same : (u t : Bool) → is_new_beside list (if u then Held else Other) ≡ not (t || true)
        same true true = refl
        same true false = refl
        same false true = refl
        same false false = refl

-- those that are kept are the new ones
pub kept_new : (held : List Hashed) (lists : List LentList) → kept lists (map (λ list. standing held (told list)) lists) ≡ filter (is_new held) (map told lists)
kept_new held [] = refl
kept_new held (list ∷ lists) = by (is_new held (told list)) refl (kept_new held lists)
  where
    by : (t : Bool) → is_new held (told list) ≡ t → kept lists (map (λ list. standing held (told list)) lists) ≡ filter (is_new held) (map told lists)
        → kept (list ∷ lists) (map (λ list. standing held (told list)) (list ∷ lists)) ≡ filter (is_new held) (map told (list ∷ lists))
    by true e rest = let new = new_stands held list ∙ e in rw (new, e) (ap (◌∷◌ (told list)) rest)
    by false e rest = let new = new_stands held list ∙ e in rw (new, e) rest

-- where nothing clashes, lists of one hash key are one
pub one_list : (all : List Hashed) → HasNoClash all → (digest : List ℕ) (a b : List Key) → Contains all (record { digest = digest; refs = a }) → Contains all (record { digest = digest; refs = b }) → a ≡ b
one_list all none digest a b a_in b_in = by (refs_cmp a b) refl
  where
    by : (o : Ordering) → refs_cmp a b ≡ o → a ≡ b
    by Less e = absurd (none (record { first = a; second = b }) (record { digest = digest; has_first = a_in; has_second = b_in; ordered = e }))
    by Equal e = refs_exact a b e
    by Greater e = absurd (none (record { first = b; second = a }) (record { digest = digest; has_first = b_in; has_second = a_in; ordered = turned refs_total a b e }))

-- what passes of a list in order is what passes of the list, in order
filter-sorted_by : {X : Type 0} {R : X → X → Ordering} → IsTotalOrder R → ((x y : X) → R x y ≡ Equal → x ≡ y) → (p : X → Bool) (xs : List X) → filter p (sorted_by R xs) ≡ sorted_by R (filter p xs)
filter-sorted_by {R = R} o exact p xs =
    sorted_by-members o exact (filter p xs) (filter p (sorted_by R xs)) (IsStrictlySortedBy-filter R p (sorted_by R xs) (ascending-sorted_by R o xs))
    (λ x. (
      λ has. let (member, passes) = (filtered_members p (sorted_by R xs) x).0 has in (filtered_members p xs x).1 (member_before_sort R xs x member, passes),
      λ has. let (member, passes) = (filtered_members p xs x).0 has in (filtered_members p (sorted_by R xs) x).1 (member_after_sort R xs x (λ y y_in e. exact y x e) member, passes),
    ))

-- the lists of deliveries that are new
new_are : (hashes : Hashes) (held : List Hashed) (items : List Delivery) → filter (is_new held) (map (hashed_item hashes) items) ≡ filter_map (new_item hashes held) items
new_are hashes held [] = refl
new_are hashes held (item ∷ items) = by (list_all is_missing item.refs || is_held (hashes.hash item.refs) held) refl (new_are hashes held items)
  where
    by : (t : Bool) → (list_all is_missing item.refs || is_held (hashes.hash item.refs) held) ≡ t → filter (is_new held) (map (hashed_item hashes) items) ≡ filter_map (new_item hashes held) items
        → filter (is_new held) (map (hashed_item hashes) (item ∷ items)) ≡ filter_map (new_item hashes held) (item ∷ items)
    by true e rest = rw e rest
    by false e rest = rw e (ap (◌∷◌ (hashed_item hashes item)) rest)

module _ (mapping : Mapping) (hashes : Hashes) where
  pub item_in : (items : List Delivery) (item : Delivery) → Contains items item → Contains (brought mapping hashes items) (hashed_by hashes item.refs)
  item_in [] item has = Contains-nil item has
  item_in (first ∷ rest) item has =
      Contains-cons_there (hashed_by hashes (missing_in mapping first.table)) (map (hashed_by hashes) (map (λ (i : Delivery). i.refs) (first ∷ rest))) (hashed_by hashes item.refs)
      (Contains-map (hashed_by hashes) (map (λ (i : Delivery). i.refs) (first ∷ rest)) item.refs (Contains-map (λ (i : Delivery). i.refs) (first ∷ rest) item has))

  -- what is brought is the missing list or that of a delivery
  pub brought_cases : (items : List Delivery) (entry : Hashed) → Contains (brought mapping hashes items) entry
      → (refs : List Key) × (hashed_by hashes refs ≡ entry) × (((first : Delivery) × Contains items first × (missing_in mapping first.table ≡ refs)) ⊎ ((item : Delivery) × Contains items item × (item.refs ≡ refs)))
  brought_cases [] entry has = Contains-nil entry has
  brought_cases (first ∷ rest) entry has =
      let (refs, member, is) = map_member (hashed_by hashes) (missing_in mapping first.table ∷ map (λ (i : Delivery). i.refs) (first ∷ rest)) entry has in (
        refs,
        is,
        elim (Contains-cons_cases (missing_in mapping first.table) (map (λ (i : Delivery). i.refs) (first ∷ rest)) refs member) [
          | inl same ↦ inl (first, Contains-cons_here first rest, same)
          | inr more ↦ inr (map_member (λ (i : Delivery). i.refs) (first ∷ rest) refs more)
        ],
      )

  pub missing_there : (items : List Delivery) (some : Delivery) → Contains items some → (refs : List Key) → ((item : Delivery) → Contains items item → missing_in mapping item.table ≡ refs)
      → Contains (brought mapping hashes items) (hashed_by hashes refs)
  missing_there [] some has refs are = Contains-nil some has
  missing_there (first ∷ rest) some has refs are =
      subst (λ r. Contains (brought mapping hashes (first ∷ rest)) (hashed_by hashes r)) (are first (Contains-cons_here first rest))
      (Contains-cons_here (hashed_by hashes (missing_in mapping first.table)) (map (hashed_by hashes) (map (λ (i : Delivery). i.refs) (first ∷ rest))))

  brought_is : (items : List Delivery) → map as_hashed (with_missing mapping hashes items) ≡ brought mapping hashes items
  brought_is [] = refl
  brought_is (first ∷ rest) = ap (λ l. hashed_by hashes (missing_in mapping first.table) ∷ l) (all (first ∷ rest))
    where
      all : (items : List Delivery) → map as_hashed (map (hashed_item hashes) items) ≡ map (hashed_by hashes) (map (λ (i : Delivery). i.refs) items)
      all [] = refl
      all (item ∷ items) = ap (◌∷◌ (hashed_by hashes item.refs)) (all items)

  module _ (held : List Hashed) (apart : are_held_apart held ≡ true) (items : List Delivery) where
    -- without rivals nothing clashes
    pub none_rival : least_rivals held (brought_lists mapping hashes items) ≡ None → HasNoClash (all_hashed mapping hashes held items)
    none_rival e = subst (λ b. HasNoClash (b ++ held)) (brought_is items) (no_clash held apart (with_missing mapping hashes items) e)

    -- the least rivals are the least clash
    pub some_rival : (rivals : Rivals) → least_rivals held (brought_lists mapping hashes items) ≡ Some rivals → IsLeastClash (all_hashed mapping hashes held items) (record { first = rivals.first; second = rivals.second })
    some_rival rivals e = subst (λ b. IsLeastClash (b ++ held) (record { first = rivals.first; second = rivals.second })) (brought_is items) (least_clash held apart (with_missing mapping hashes items) rivals e)

  -- those that are kept are the new lists
  pub kept_are : (held : List Hashed) (items : List Delivery) → ((first : Delivery) → Contains items first → list_all is_missing (missing_in mapping first.table) ≡ true)
      → filter (is_new held) (brought_lists mapping hashes items) ≡ new_lists hashes held items
  kept_are held items missing = filter-sorted_by hashed_total hashed_cmp-IsAntisymmetric (is_new held) (with_missing mapping hashes items) ∙ ap (sorted_by hashed_cmp) (by items missing)
    where
      by : (all : List Delivery) → ((first : Delivery) → Contains all first → list_all is_missing (missing_in mapping first.table) ≡ true) → filter (is_new held) (with_missing mapping hashes all) ≡ filter_map (new_item hashes held) all
      by [] none = refl
      by (first ∷ rest) none = let here = none first (Contains-cons_here first rest) in rw here (new_are hashes held (first ∷ rest))
