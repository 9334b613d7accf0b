-- The rows of new lists are a batch, and may stand behind the rows of which the lists are new.
use Rattle.dv_hub_link.proofs.Vocabulary.{AllByRecursion, Bool, Contains, Contains-append_left, Contains-cons_here, Contains-cons_there, Delivery, HasNoClash, Hashed, HashedList, Hashes, IsStrictlySortedBy, Less, List, Mapping, None, Option, Ordering, Some, [], all_hashed, ap}
use Rattle.dv_hub_link.proofs.Vocabulary.{ascending-sorted_by, batch_made, batch_of, brought, digest_cmp, false, filter_map, filter_map_member, hashed_cmp, hashed_cmp-IsAntisymmetric, hashed_item, if◌then◌else◌, inl, inr, irreflexive, is_held, is_missing, list_all, member_after_sort}
use Rattle.dv_hub_link.proofs.Vocabulary.{member_of_filter_map, new_item, new_lists, or_parts, refl, subst, sym, then_less, tied_by_digest, true, ℕ, ◌||◌, ◌∙◌, ◌∷◌, ◌≡◌}
use Rattle.dv_hub_link.proofs.{Brought.item_in, Brought.one_list, Clashes.hashed_total, Clashes.same_digest}

-- ---- a filter that keeps the order of some of a list

all_made : {X Y : Type 0} (P : X → Type 0) (Q : Y → Type 0) (h : X → Option Y) (xs : List X) → ((x : X) (y : Y) → Contains xs x → P x → h x ≡ Some y → Q y) → AllByRecursion P xs → AllByRecursion Q (filter_map h xs)
all_made P Q h [] f all = tt
all_made {X} {Y} P Q h (x ∷ xs) f all = by (all_made P Q h xs (λ y z has. f y z (Contains-cons_there x xs y has)) all.1) (h x) refl
  where
    by : AllByRecursion Q (filter_map h xs) → (o : Option Y) → h x ≡ o → AllByRecursion Q (filter_map h (x ∷ xs))
    by rest None e = rw e rest
    by rest (Some y) e = rw e (f x y (Contains-cons_here x xs) all.0 e, rest)

ascending_made : {X Y : Type 0} (R : X → X → Ordering) (S : Y → Y → Ordering) (h : X → Option Y) (xs : List X) → ((x w : X) (y z : Y) → Contains xs x → Contains xs w → R x w ≡ Less → h x ≡ Some y → h w ≡ Some z → S y z ≡ Less)
    → IsStrictlySortedBy R xs → IsStrictlySortedBy S (filter_map h xs)
unfolding IsStrictlySortedBy
ascending_made R S h [] keeps up = tt
ascending_made {X} {Y} R S h (x ∷ xs) keeps up =
    by (ascending_made R S h xs (λ v w y z v_in w_in. keeps v w y z (Contains-cons_there x xs v v_in) (Contains-cons_there x xs w w_in)) up.1) (h x) refl
  where
    by : IsStrictlySortedBy S (filter_map h xs) → (o : Option Y) → h x ≡ o → IsStrictlySortedBy S (filter_map h (x ∷ xs))
    by rest None e = rw e rest
    by rest (Some y) e =
        rw e (
          all_made (λ w. R x w ≡ Less) (λ z. S y z ≡ Less) h xs (λ w z has less is. keeps x w y z (Contains-cons_here x xs) (Contains-cons_there x xs w has) less e is) up.0,
          rest,
        )

pub filter_map_none : {X Y : Type 0} (f : X → Option Y) (xs : List X) → ((x : X) → Contains xs x → f x ≡ None) → filter_map f xs ≡ []
filter_map_none f [] none = refl
filter_map_none f (x ∷ xs) none =
    let here = none x (Contains-cons_here x xs) in
    let rest = filter_map_none f xs (λ y has. none y (Contains-cons_there x xs y has)) in
    rw (here, rest) refl

-- ---- new lists

-- what a new list is made of
pub new_of : (hashes : Hashes) (held : List Hashed) (item : Delivery) (h : HashedList) → new_item hashes held item ≡ Some h → (hashed_item hashes item ≡ h) × ((list_all is_missing item.refs || is_held (hashes.hash item.refs) held) ≡ false)
new_of hashes held item h e = by (list_all is_missing item.refs || is_held (hashes.hash item.refs) held) refl
  where
    by : (t : Bool) → (list_all is_missing item.refs || is_held (hashes.hash item.refs) held) ≡ t → (hashed_item hashes item ≡ h) × ((list_all is_missing item.refs || is_held (hashes.hash item.refs) held) ≡ false)
    by true f = let no : None ≡ Some h = rw f at e in cc
    by false f = let are : Some (hashed_item hashes item) ≡ Some h = rw f at e in (cc, f)

module _ {R : Type 0} (digest_of : R → List ℕ) (mapping : Mapping) (hashes : Hashes) (held : List Hashed) (items : List Delivery)
    (apart : (a b : Delivery) → Contains items a → Contains items b → a.refs ≡ b.refs → a ≡ b) (none : HasNoClash (all_hashed mapping hashes held items))
    (made : HashedList → Option R) (digests : (h : HashedList) (row : R) → made h ≡ Some row → digest_of row ≡ h.digest) where
  abbrev by_digest : R → R → Ordering
  by_digest a b = digest_cmp (digest_of a) (digest_of b)

  abbrev news : List HashedList
  news = new_lists hashes held items

  item_there : (item : Delivery) → Contains items item → Contains (all_hashed mapping hashes held items) (record { digest = hashes.hash item.refs; refs = item.refs })
  item_there item has = Contains-append_left (brought mapping hashes items) held _ (item_in mapping hashes items item has)

  -- deliveries of one hash key are one
  one_item : (s t : Delivery) → Contains items s → Contains items t → hashes.hash s.refs ≡ hashes.hash t.refs → s ≡ t
  one_item s t s_in t_in e =
      apart s t s_in t_in
      (one_list (all_hashed mapping hashes held items) none (hashes.hash t.refs) s.refs t.refs
      (subst (λ d. Contains (all_hashed mapping hashes held items) (record { digest = d; refs = s.refs })) e (item_there s s_in)) (item_there t t_in))

  keeps : (x w : HashedList) (y z : R) → Contains news x → Contains news w → hashed_cmp x w ≡ Less → made x ≡ Some y → made w ≡ Some z → by_digest y z ≡ Less
  keeps x w y z x_in w_in less x_is w_is =
      elim (then_less (digest_cmp x.digest w.digest) _ less) [
        | inl lower ↦ (λ i. digest_cmp (digests x y x_is i) (digests w z w_is i)) ∙ lower
        | inr both ↦
            let (s, s_in, s_is) = batch_made hashed_cmp (new_item hashes held) items x x_in in
            let (t, t_in, t_is) = batch_made hashed_cmp (new_item hashes held) items w w_in in
            let x_same = (new_of hashes held s x s_is).0 in
            let w_same = (new_of hashes held t w t_is).0 in
            let hash = ap (λ (h : HashedList). h.digest) x_same ∙ same_digest x.digest w.digest both.0 ∙ ap (λ (h : HashedList). h.digest) (sym w_same) in
            let same : x ≡ w = sym x_same ∙ ap (hashed_item hashes) (one_item s t s_in t_in hash) ∙ w_same in
            absurd (irreflexive hashed_total x (subst (λ h. hashed_cmp x h ≡ Less) (sym same) less))
      ]

  pub rows_ascend : IsStrictlySortedBy (λ a b. digest_cmp (digest_of a) (digest_of b)) (filter_map made (new_lists hashes held items))
  rows_ascend = ascending_made hashed_cmp by_digest made news keeps (ascending-sorted_by hashed_cmp hashed_total (filter_map (new_item hashes held) items))

  -- a row is made of the new list of a delivery
  row_item : (row : R) → Contains (filter_map made news) row → (item : Delivery) × Contains items item × (made (hashed_item hashes item) ≡ Some row) × ((list_all is_missing item.refs || is_held (hashes.hash item.refs) held) ≡ false)
  row_item row has =
      let (h, h_in, e) = filter_map_member made news row has in
      let (item, member, is) = batch_made hashed_cmp (new_item hashes held) items h h_in in
      let (same, new) = new_of hashes held item h is in
      (item, member, ap made same ∙ e, new)

  -- the digests of the rows are not held
  pub rows_new : (row : R) → Contains (filter_map made (new_lists hashes held items)) row → is_held (digest_of row) held ≡ false
  rows_new row has =
      let (item, member, e, new) = row_item row has in
      subst (λ d. is_held d held ≡ false) (sym (digests (hashed_item hashes item) row e)) (or_parts (list_all is_missing item.refs) (is_held (hashes.hash item.refs) held) new).1

  -- the rows of the new lists are the batch
  module _ (new_row : Delivery → Option R) (is_row : (item : Delivery) → new_row item ≡ (if list_all is_missing item.refs || is_held (hashes.hash item.refs) held then None else made (hashed_item hashes item))) where
    new_made : (item : Delivery) (row : R) → new_row item ≡ Some row → (made (hashed_item hashes item) ≡ Some row) × (new_item hashes held item ≡ Some (hashed_item hashes item))
    new_made item row e = by (list_all is_missing item.refs || is_held (hashes.hash item.refs) held) refl
      where
        by : (t : Bool) → (list_all is_missing item.refs || is_held (hashes.hash item.refs) held) ≡ t → (made (hashed_item hashes item) ≡ Some row) × (new_item hashes held item ≡ Some (hashed_item hashes item))
        by true f = let no : None ≡ Some row = rw f at (sym (is_row item) ∙ e) in cc
        by false f = (rw f at (sym (is_row item) ∙ e), rw f refl)

    pub rows_are : filter_map made (new_lists hashes held items) ≡ batch_of (λ a b. digest_cmp (digest_of a) (digest_of b)) new_row items
    rows_are =
        (tied_by_digest digest_of (λ item. hashes.hash item.refs) new_row items (λ item row e. digests (hashed_item hashes item) row (new_made item row e).0) one_item (filter_map made news)).1
        (record {
          ascending = rows_ascend;
          only = λ row has. let (item, member, e, new) = row_item row has in (item, member, is_row item ∙ rw new e);
          each = λ item row member e.
              let (gives, new) = new_made item row e in
              member_of_filter_map made news (hashed_item hashes item) row
              (member_after_sort hashed_cmp (filter_map (new_item hashes held) items) _ (λ x x_in tied. hashed_cmp-IsAntisymmetric x _ tied) (member_of_filter_map (new_item hashes held) items item _ member new)) gives;
        })
