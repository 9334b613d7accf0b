-- What a table of a window's keys keeps for a hub or a link is what the window delivers to it.
use Rattle.dv_window_keys.proofs.Vocabulary.{All-contains, AreDeliveriesOf, AreHashed, AreLeastOffered, AreOffered, AreTold, Bool, Contains, Contains-cons_here, Contains-cons_there, Contains-get_or, Contains-map, Delivery, FeedDef, HashedDelivery, Hashes, Hub, IfOk, IsKeyOf, IsStrictlySortedBy}
use Rattle.dv_window_keys.proofs.Vocabulary.{Item, Key, Keyed, Less, Link, List, Mapping, Mixing, NRow, None, Offer, Option, Parent, Result, Some, Staged, Window, WindowItem, [], all_pass, all_refs, ap, append-nil, arith, chosen, class_at, cond, cons_option, delivered, deliveries_member}
use Rattle.dv_window_keys.proofs.Vocabulary.{delivery_to, eq-eqb, eqb-true, false, false≢true, feed_hubs, filter, filter-append, filter_map, filter_map_member, filter_map_same, filtered_members, find, find_at, first_got, first_le, first_offer, first_same, flat_map, found_member}
use Rattle.dv_window_keys.proofs.Vocabulary.{get_or_from_slice_get, hashed_as, hub_items, if◌then◌else◌, irreflexive, is_fed_by, is_itself, is_missing, is_of, is_valid, is_window, item_is, item_of, items_of, keyed, keys_at, keys_of, link_by, link_in, link_items, list_all, map, map-append}
use Rattle.dv_window_keys.proofs.Vocabulary.{member_of_all, member_of_filter_map, nat_cmp, nat_cmp_total, not, offer_for, offered_by, offers, offers_of, option_map, parent_eq, parent_itself, position_or_len, refl, refs_eq, refs_eq-Decides, refs_fit, row_items, same_Some, same_answer, same_first}
use Rattle.dv_window_keys.proofs.Vocabulary.{same_parent, slice_get, slice_get-map, slice_get_within, subst, suc, sym, table_of, told_by, true, window_items, zero, ℕ, ◌&&◌, ◌++◌, ◌==◌, ◌∙◌, ◌∷◌, ◌≡◌}
use Rattle.dv_window_keys.proofs.SortedOffers.{all_hashed}
use Rattle.dv_window_keys.proofs.WindowFacts as facts

-- ---- the items for a hub or a link, in order, are what the rows bring to it

module _ (parent : Parent) where
  abbrev is_to : Item → Bool
  is_to item = parent_eq item.parent parent

  abbrev delivery : Item → Delivery
  delivery item = record { table = table_of parent; refs = item.refs; feed = item.feed }

  abbrev brings : ℕ → List Key → Delivery
  brings feed refs = record { table = table_of parent; refs = refs; feed = feed }

  abbrev of_items : List Item → List Delivery
  of_items items = map delivery (filter is_to items)

  of_both : (xs ys : List Item) → of_items (xs ++ ys) ≡ of_items xs ++ of_items ys
  of_both xs ys = ap (map delivery) (filter-append is_to xs ys) ∙ map-append delivery (filter is_to xs) (filter is_to ys)

to_hub : (hub feed : ℕ) (hubs : List ℕ) (refs : List Key) → of_items (Hub hub) (hub_items feed hubs refs) ≡ map (brings (Hub hub) feed) (map (λ key. key ∷ []) (keys_at hub hubs refs))
to_hub hub feed [] refs = refl
to_hub hub feed (other ∷ hubs) [] = refl
to_hub hub feed (other ∷ hubs) (key ∷ refs) = by (other == hub) (to_hub hub feed hubs refs)
  where
    item : Item
    item = record { parent = Hub other; refs = key ∷ []; feed = feed }

    by : (b : Bool) → of_items (Hub hub) (hub_items feed hubs refs) ≡ map (brings (Hub hub) feed) (map (λ key. key ∷ []) (keys_at hub hubs refs))
        → map (delivery (Hub hub)) (cond b (item ∷ filter (is_to (Hub hub)) (hub_items feed hubs refs)) (filter (is_to (Hub hub)) (hub_items feed hubs refs)))
        ≡ map (brings (Hub hub) feed) (map (λ key. key ∷ []) (if b then key ∷ keys_at hub hubs refs else keys_at hub hubs refs))
    by true rest = ap (λ all. brings (Hub hub) feed (key ∷ []) ∷ all) rest
    by false rest = rest

none_to_link : (link feed : ℕ) (hubs : List ℕ) (refs : List Key) → filter (is_to (Link link)) (hub_items feed hubs refs) ≡ []
none_to_link link feed [] refs = refl
none_to_link link feed (other ∷ hubs) [] = refl
none_to_link link feed (other ∷ hubs) (key ∷ refs) = none_to_link link feed hubs refs

link_to_none : (hub feed : ℕ) (own : Option ℕ) (refs : List Key) → filter (is_to (Hub hub)) (link_items feed own refs) ≡ []
link_to_none hub feed None refs = refl
link_to_none hub feed (Some link) refs = refl

turned : (a b : ℕ) → (a == b) ≡ (b == a)
turned a b = same_answer (a == b) (b == a) (λ e. eq-eqb b a (sym (eqb-true a b e))) (λ e. eq-eqb a b (sym (eqb-true b a e)))

to_link : (link feed : ℕ) (definition : Option FeedDef) (refs : List Key)
    → of_items (Link link) (link_items feed (link_by definition) refs) ≡ map (brings (Link link) feed) (if is_fed_by (Link link) definition then refs ∷ [] else [])
to_link link feed None refs = refl
to_link link feed (Some definition) refs = of_parent definition.parent
  where
    by : (b : Bool) (item : Item) → map (delivery (Link link)) (cond b (item ∷ []) []) ≡ map (λ refs. record { table = table_of (Link link); refs = refs; feed = item.feed }) (if b then item.refs ∷ [] else [])
    by true item = refl
    by false item = refl

    of_parent : (parent : Parent) → of_items (Link link) (link_items feed (link_in parent) refs) ≡ map (brings (Link link) feed) (if parent_eq (Link link) parent then refs ∷ [] else [])
    of_parent (Hub hub) = refl
    of_parent (Link other) =
        by (other == link) (record { parent = Link other; refs = refs; feed = feed })
        ∙ ap (λ (b : Bool). map (brings (Link link) feed) (if b then refs ∷ [] else [])) (turned other link)

more_refs : (link feed : ℕ) (b : Bool) (refs : List Key) (rows : List NRow)
    → map (brings (Link link) feed) (if b then refs ∷ [] else []) ++ map (brings (Link link) feed) (if b then all_refs rows else []) ≡ map (brings (Link link) feed) (if b then refs ∷ all_refs rows else [])
more_refs link feed true refs rows = refl
more_refs link feed false refs rows = refl

no_refs : (link feed : ℕ) (b : Bool) → [] ≡ map (brings (Link link) feed) (if b then [] else [])
no_refs link feed true = refl
no_refs link feed false = refl

module _ (mapping : Mapping) where
  feed_to_hub : (hub feed : ℕ) (rows : List NRow)
      → of_items (Hub hub) (flat_map (row_items mapping feed) rows) ≡ map (brings (Hub hub) feed) (flat_map (λ row. map (λ key. key ∷ []) (keys_at hub (feed_hubs mapping feed) row.refs)) rows)
  feed_to_hub hub feed [] = refl
  feed_to_hub hub feed (row ∷ rows) =
      let hubs = feed_hubs mapping feed in
      let own = link_by (slice_get mapping.feeds feed) in
      let lists : NRow → List (List Key) = λ row. map (λ key. key ∷ []) (keys_at hub hubs row.refs) in
      of_both (Hub hub) (row_items mapping feed row) (flat_map (row_items mapping feed) rows)
      ∙ (λ i. (of_both (Hub hub) (hub_items feed hubs row.refs) (link_items feed own row.refs)
      ∙ ((λ j. to_hub hub feed hubs row.refs j ++ map (delivery (Hub hub)) (link_to_none hub feed own row.refs j)) ∙ append-nil (map (brings (Hub hub) feed) (lists row)))) i ++ feed_to_hub hub feed rows i)
      ∙ sym (map-append (brings (Hub hub) feed) (lists row) (flat_map lists rows))

  feed_to_link : (link feed : ℕ) (rows : List NRow)
      → of_items (Link link) (flat_map (row_items mapping feed) rows) ≡ map (brings (Link link) feed) (if is_fed_by (Link link) (slice_get mapping.feeds feed) then all_refs rows else [])
  feed_to_link link feed [] = no_refs link feed (is_fed_by (Link link) (slice_get mapping.feeds feed))
  feed_to_link link feed (row ∷ rows) =
      let hubs = feed_hubs mapping feed in
      let own = link_by (slice_get mapping.feeds feed) in
      of_both (Link link) (row_items mapping feed row) (flat_map (row_items mapping feed) rows)
      ∙ (λ i. (of_both (Link link) (hub_items feed hubs row.refs) (link_items feed own row.refs)
      ∙ (λ j. map (delivery (Link link)) (none_to_link link feed hubs row.refs j) ++ to_link link feed (slice_get mapping.feeds feed) row.refs j)) i ++ feed_to_link link feed rows i)
      ∙ more_refs link feed (is_fed_by (Link link) (slice_get mapping.feeds feed)) row.refs rows

  feed_items : (parent : Parent) (staged : Staged) → of_items parent (items_of mapping staged) ≡ offers_of mapping parent staged
  feed_items (Hub hub) staged = feed_to_hub hub staged.feed staged.rows
  feed_items (Link link) staged = feed_to_link link staged.feed staged.rows

  all_items : (parent : Parent) (extracts : List Staged) → of_items parent (flat_map (items_of mapping) extracts) ≡ flat_map (offers_of mapping parent) extracts
  all_items parent [] = refl
  all_items parent (staged ∷ extracts) =
      of_both parent (items_of mapping staged) (flat_map (items_of mapping) extracts) ∙ (λ i. feed_items parent staged i ++ all_items parent extracts i)

-- ---- the first delivery of a list is the first item with it

module _ (parent : Parent) (refs : List Key) (full : list_all is_missing refs ≡ false) where
  abbrev has_refs : Delivery → Bool
  has_refs offer = refs_eq offer.refs refs

  abbrev is_full : Delivery → Bool
  is_full offer = not (list_all is_missing offer.refs)

  first_found : (items : List Item) → find has_refs (filter is_full (of_items parent items)) ≡ option_map (delivery parent) (find (is_of parent refs) items)
  first_found [] = refl
  first_found (item ∷ items) = by (parent_eq item.parent parent) (list_all is_missing item.refs) (refs_eq item.refs refs) refl refl (first_found items)
    where
      rest : List Delivery
      rest = of_items parent items

      by : (to missing same : Bool) → list_all is_missing item.refs ≡ missing → refs_eq item.refs refs ≡ same
          → find has_refs (filter is_full rest) ≡ option_map (delivery parent) (find (is_of parent refs) items)
          → find has_refs (filter is_full (map (delivery parent) (cond to (item ∷ filter (is_to parent) items) (filter (is_to parent) items))))
          ≡ option_map (delivery parent) (cond (to && same) (Some item) (find (is_of parent refs) items))
      by false missing same m s rest = rest
      by true true true m s rest =
          absurd (false≢true (sym full ∙ (ap (list_all is_missing) (sym ((refs_eq-Decides item.refs refs).0 s)) ∙ m)))
      by true true false m s rest = rw m rest
      by true false true m s rest = rw (m, s) refl
      by true false false m s rest = rw (m, s) rest

-- ---- no list stands twice among what is made of ascending numbers

-- an element at a place is in the list
got_in : {X : Type 0} (xs : List X) (i : ℕ) (x : X) → slice_get xs i ≡ Some x → Contains xs x
got_in xs i x got = subst (Contains xs) (get_or_from_slice_get xs i x x got) (Contains-get_or xs i x (slice_get_within xs i x got))

module _ (h : ℕ → Option Delivery) where
  -- what is made of the first number is not made of one behind it
  not_again : (n : ℕ) (numbers : List ℕ) → IsStrictlySortedBy nat_cmp (n ∷ numbers)
      → ((x y : ℕ) (a b : Delivery) → Contains (n ∷ numbers) x → Contains (n ∷ numbers) y → h x ≡ Some a → h y ≡ Some b → a.refs ≡ b.refs → x ≡ y)
      → (a b : Delivery) → h n ≡ Some a → Contains (filter_map h numbers) b → a.refs ≡ b.refs → ⊥
  unfolding IsStrictlySortedBy
  not_again n numbers up apart a b is has same =
      let (m, m_in, m_is) = filter_map_member h numbers b has in
      let one : n ≡ m = apart n m a b (Contains-cons_here n numbers) (Contains-cons_there n numbers m m_in) is m_is same in
      irreflexive nat_cmp_total n (subst (λ m. nat_cmp n m ≡ Less) (sym one) (member_of_all (λ m. nat_cmp n m ≡ Less) numbers m up.0 m_in))

  tail_sorted : (n : ℕ) (numbers : List ℕ) → IsStrictlySortedBy nat_cmp (n ∷ numbers) → IsStrictlySortedBy nat_cmp numbers
  unfolding IsStrictlySortedBy
  tail_sorted n numbers up = up.1

  once_of : (numbers : List ℕ) → IsStrictlySortedBy nat_cmp numbers → ((n m : ℕ) (a b : Delivery) → Contains numbers n → Contains numbers m → h n ≡ Some a → h m ≡ Some b → a.refs ≡ b.refs → n ≡ m)
      → (i j : ℕ) (a b : Delivery) → slice_get (filter_map h numbers) i ≡ Some a → slice_get (filter_map h numbers) j ≡ Some b → a.refs ≡ b.refs → i ≡ j
  once_of [] up apart i j a b a_at b_at same = let no : None ≡ Some a = a_at in cc
  once_of (n ∷ numbers) up apart i j a b a_at b_at same =
      by (h n) refl (once_of numbers (tail_sorted n numbers up) (λ x y c d x_in y_in. apart x y c d (Contains-cons_there n numbers x x_in) (Contains-cons_there n numbers y y_in))) i j a b a_at b_at same
    where
      rest : List Delivery
      rest = filter_map h numbers

      by : (o : Option Delivery) → h n ≡ o → ((i j : ℕ) (a b : Delivery) → slice_get rest i ≡ Some a → slice_get rest j ≡ Some b → a.refs ≡ b.refs → i ≡ j)
          → (i j : ℕ) (a b : Delivery) → slice_get (cons_option o rest) i ≡ Some a → slice_get (cons_option o rest) j ≡ Some b → a.refs ≡ b.refs → i ≡ j
      by None e behind i j a b a_at b_at same = behind i j a b a_at b_at same
      by (Some d) e behind zero zero a b a_at b_at same = refl
      by (Some d) e behind zero (suc j) a b a_at b_at same =
          absurd (not_again n numbers up apart d b e (got_in rest j b b_at) (ap (λ (d : Delivery). d.refs) (same_Some d a a_at) ∙ same))
      by (Some d) e behind (suc i) zero a b a_at b_at same =
          absurd (not_again n numbers up apart d a e (got_in rest i a a_at) (ap (λ (d : Delivery). d.refs) (same_Some d b b_at) ∙ sym same))
      by (Some d) e behind (suc i) (suc j) a b a_at b_at same = ap suc (behind i j a b a_at b_at same)

-- what becomes of an item
abbrev made_of : Parent → Option Item → Option Delivery
made_of parent None = None
made_of parent (Some item) = if parent_eq item.parent parent then Some (delivery parent item) else None

module _ (mapping : Mapping) (parent : Parent) (window : Window) where
  abbrev items : List Item
  items = window_items mapping window

  first_item : (refs : List Key) → list_all is_missing refs ≡ false → first_offer mapping parent window refs ≡ option_map (delivery parent) (find (is_of parent refs) items)
  first_item refs full =
      ap (λ (all : List Delivery). find (λ offer. refs_eq offer.refs refs) (filter (λ offer. not (list_all is_missing offer.refs)) all)) (sym (all_items mapping parent window.extracts))
      ∙ first_found parent refs full items

  offered_full : (refs : List Key) (item : Delivery) → first_offer mapping parent window refs ≡ Some item → list_all is_missing refs ≡ false
  offered_full refs item e =
      let (member, same) = found_member (λ (offer : Delivery). refs_eq offer.refs refs) (offers mapping parent window) item e in
      let (within, kept) = (filtered_members (λ (offer : Delivery). not (list_all is_missing offer.refs)) (flat_map (offers_of mapping parent) window.extracts) item).0 member in
      ap (list_all is_missing) (sym ((refs_eq-Decides item.refs refs).0 same)) ∙ by (list_all is_missing item.refs) kept
    where
      by : (b : Bool) → not b ≡ true → b ≡ false
      by true e = sym e
      by false e = refl

  -- ---- the items that a table keeps

  module _ (mixing : Mixing) (offered numbers : List ℕ) (told : AreOffered items offered) (are : AreLeastOffered (keys_of mixing items) offered numbers) where
    pub record IsKept (n : ℕ) : Type 0 where
      pub item : Item
      pub there : slice_get items n ≡ Some item
      pub full : list_all is_missing item.refs ≡ false
      pub first : first_same items item ≡ n

    kept_first : (n : ℕ) → Contains numbers n → IsKept n
    kept_first n has =
        let is = are.only n has in
        let (item, at, full) = told.only n is.offered in
        let (first, first_at, first_is) = first_got items item.parent item.refs n item at (is_itself item) in
        let parts = item_is item.parent item.refs first first_is in
        let c = first_same items item in
        let of_first = told.each c (first, first_at, ap (list_all is_missing) parts.1 ∙ full) in
        let class = class_at items c first first_at ∙ (same_first items first item parts.0 parts.1 ∙ sym (class_at items n item at)) in
        let up = is.least c of_first class in
        let down = first_le items item.parent item.refs n item at (is_itself item) in
        record { item = item; there = at; full = full; first = omega (arith, up, down) }

    first_kept : (n : ℕ) (item : Item) → slice_get items n ≡ Some item → list_all is_missing item.refs ≡ false → first_same items item ≡ n → Contains numbers n
    first_kept n item at full first =
        let (a, has, class) = are.each n (told.each n (item, at, full)) in
        let kept = kept_first a has in
        let same : a ≡ n = sym kept.first ∙ (sym (class_at items a kept.item kept.there) ∙ (class ∙ (class_at items n item at ∙ first))) in
        subst (Contains numbers) same has

    abbrev made : ℕ → Option Delivery
    made n = made_of parent (slice_get items n)

    made_from : (n : ℕ) (item : Item) (d : Delivery) → slice_get items n ≡ Some item → made n ≡ Some d → (item.parent ≡ parent) × (delivery parent item ≡ d)
    made_from n item d at is = by (parent_eq item.parent parent) refl (sym (ap (made_of parent) at) ∙ is)
      where
        by : (b : Bool) → parent_eq item.parent parent ≡ b → (if b then Some (delivery parent item) else None) ≡ Some d → (item.parent ≡ parent) × (delivery parent item ≡ d)
        by true e is = (same_parent item.parent parent e, same_Some (delivery parent item) d is)
        by false e is = let no : None ≡ Some d = is in cc

    made_into : (n : ℕ) (item : Item) → slice_get items n ≡ Some item → item.parent ≡ parent → made n ≡ Some (delivery parent item)
    made_into n item at of =
        ap (made_of parent) at ∙ ap (λ (b : Bool). if b then Some (delivery parent item) else None) (subst (λ p. parent_eq item.parent p ≡ true) of (parent_itself item.parent))

    made_first : (d : Delivery) → Contains (filter_map made numbers) d → first_offer mapping parent window d.refs ≡ Some d
    made_first d has =
        let (n, member, is) = filter_map_member made numbers d has in
        let kept = kept_first n member in
        let (of, same) = made_from n kept.item d kept.there is in
        let refs = kept.item.refs in
        let place : position_or_len (is_of parent refs) items ≡ n = (λ i. position_or_len (is_of (sym of i) refs) items) ∙ kept.first in
        ap (λ (d : Delivery). first_offer mapping parent window d.refs) (sym same)
        ∙ (first_item refs kept.full ∙ (ap (option_map (delivery parent)) (find_at (is_of parent refs) items ∙ (ap (slice_get items) place ∙ kept.there)) ∙ ap (λ d. Some d) same))

    made_whole : (refs : List Key) (d : Delivery) → first_offer mapping parent window refs ≡ Some d → Contains (filter_map made numbers) d
    made_whole refs d e =
        let full = offered_full refs d e in
        by full (find (is_of parent refs) items) refl (sym (first_item refs full) ∙ e)
      where
        by : list_all is_missing refs ≡ false → (found : Option Item) → find (is_of parent refs) items ≡ found → option_map (delivery parent) found ≡ Some d → Contains (filter_map made numbers) d
        by full None got is = let no : None ≡ Some d = is in cc
        by full (Some item) got is =
            let parts = item_is parent refs item (found_member (is_of parent refs) items item got).1 in
            let n = position_or_len (is_of parent refs) items in
            let at : slice_get items n ≡ Some item = sym (find_at (is_of parent refs) items) ∙ got in
            let first : first_same items item ≡ n = λ i. position_or_len (is_of (parts.0 i) (parts.1 i)) items in
            let kept = first_kept n item at (ap (list_all is_missing) parts.1 ∙ full) first in
            member_of_filter_map made numbers n d kept (made_into n item at parts.0 ∙ is)

    -- items that are kept and have one list are one
    made_apart : (n m : ℕ) (a b : Delivery) → Contains numbers n → Contains numbers m → made n ≡ Some a → made m ≡ Some b → a.refs ≡ b.refs → n ≡ m
    made_apart n m a b n_in m_in a_is b_is same =
        let one = kept_first n n_in in
        let other = kept_first m m_in in
        let (of_one, one_is) = made_from n one.item a one.there a_is in
        let (of_other, other_is) = made_from m other.item b other.there b_is in
        sym one.first
        ∙ (same_first items one.item other.item (of_one ∙ sym of_other) (ap (λ (d : Delivery). d.refs) one_is ∙ (same ∙ sym (ap (λ (d : Delivery). d.refs) other_is))) ∙ other.first)

    pub made_deliveries : AreDeliveriesOf mapping parent window (filter_map made numbers)
    made_deliveries = record {
      first = made_first;
      whole = made_whole;
      once = once_of made numbers are.ascending made_apart;
    }

-- ---- the offers that are chosen

abbrev pub offer_delivery : Parent → Offer → Delivery
offer_delivery parent offer = record { table = table_of parent; refs = offer.refs.now; feed = offer.feed }

map_chosen : {X Y Z : Type 0} (f : Y → Z) (h : X → Option Y) (xs : List X) → map f (filter_map h xs) ≡ filter_map (λ x. option_map f (h x)) xs
map_chosen f h [] = refl
map_chosen {X} {Y} {Z} f h (x ∷ xs) = by (h x) (map_chosen f h xs)
  where
    by : (o : Option Y) → map f (filter_map h xs) ≡ filter_map (λ x. option_map f (h x)) xs → map f (cons_option o (filter_map h xs)) ≡ cons_option (option_map f o) (filter_map (λ x. option_map f (h x)) xs)
    by None rest = rest
    by (Some y) rest = ap (λ all. f y ∷ all) rest

chosen_one : (parent : Parent) (item : Option WindowItem) → option_map (offer_delivery parent) (offer_for parent item) ≡ made_of parent (option_map item_of item)
chosen_one parent None = refl
chosen_one parent (Some item) = by (parent_eq item.parent parent)
  where
    by : (b : Bool) → option_map (offer_delivery parent) (if b then Some item.offer else None) ≡ (if b then Some (delivery parent (item_of item)) else None)
    by true = refl
    by false = refl

-- the chosen ones of the items that a table keeps are what the window delivers
pub chosen_deliveries : (mapping : Mapping) (parent : Parent) (window : Window) (items : List WindowItem) → map item_of items ≡ window_items mapping window
    → (mixing : Mixing) (offered numbers : List ℕ) → AreOffered (map item_of items) offered → AreLeastOffered (keys_of mixing (map item_of items)) offered numbers
    → AreDeliveriesOf mapping parent window (map (offer_delivery parent) (chosen parent items numbers))
chosen_deliveries mapping parent window items is mixing offered numbers told are =
    subst (AreDeliveriesOf mapping parent window)
    (sym (map_chosen (offer_delivery parent) (λ n. offer_for parent (slice_get items n)) numbers
    ∙ filter_map_same (λ n. option_map (offer_delivery parent) (offer_for parent (slice_get items n))) (λ n. made_of parent (slice_get (window_items mapping window) n)) numbers
    (λ n has. chosen_one parent (slice_get items n) ∙ ap (made_of parent) (sym (slice_get-map item_of items n) ∙ ap (λ (all : List Item). slice_get all n) is))))
    (made_deliveries mapping parent window mixing offered numbers (subst (λ all. AreOffered all offered) is told) (subst (λ all. AreLeastOffered (keys_of mixing all) offered numbers) is are))

-- deliveries of a window fit what their lists are hashed in
pub chosen_fit : (mapping : Mapping) → is_valid mapping ≡ true → (window : Window) → is_window mapping window ≡ true → (parent : Parent) (offers : List Offer)
    → AreDeliveriesOf mapping parent window (map (offer_delivery parent) offers) → list_all (λ offer. refs_fit offer.refs.now) offers ≡ true
chosen_fit mapping valid window whole parent offers are =
    all_pass (λ (offer : Offer). refs_fit offer.refs.now) offers
    (λ offer has.
    let d = offer_delivery parent offer in
    facts.parent_refs_fit mapping valid parent d.refs (facts.delivered mapping window whole parent d ((deliveries_member mapping parent window d).1 (are.first d (Contains-map (offer_delivery parent) offers offer has)))).fits)

module _ (hashes : Hashes) (parent : Parent) where
  abbrev IsToldOf : Offer → Type 0
  IsToldOf offer = IsKeyOf hashes (told_by offer.told) offer.refs.now

  -- what is chosen of items that tell their hash keys tells its own
  chosen_told : (items : List WindowItem) (numbers : List ℕ) → AreTold hashes items → (offer : Offer) → Contains (chosen parent items numbers) offer → IsToldOf offer
  chosen_told items numbers told offer has =
      let (n, member, is) = filter_map_member (λ n. offer_for parent (slice_get items n)) numbers offer has in
      by n (slice_get items n) refl is
    where
      by : (n : ℕ) (item : Option WindowItem) → slice_get items n ≡ item → offer_for parent item ≡ Some offer → IsToldOf offer
      by n None at is = let no : None ≡ Some offer = is in cc
      by n (Some item) at is = of (parent_eq item.parent parent) is
        where
          of : (b : Bool) → (if b then Some item.offer else None) ≡ Some offer → IsToldOf offer
          of true is = subst IsToldOf (same_Some item.offer offer is) (All-contains (λ (item : WindowItem). IsToldOf item.offer) items item told (got_in items n item at))
          of false is = let no : None ≡ Some offer = is in cc

  hashed_each : (offers : List Offer) → ((offer : Offer) → Contains offers offer → IsToldOf offer)
      → map (λ offer. delivery_to (table_of parent) (offered_by hashes offer)) offers ≡ map (hashed_as hashes) (map (offer_delivery parent) offers)
  hashed_each [] told = refl
  hashed_each (offer ∷ offers) told =
      let digest = told offer (Contains-cons_here offer offers) in
      let rest = hashed_each offers (λ other has. told other (Contains-cons_there offer offers other has)) in
      λ i. record { delivery = offer_delivery parent offer; digest = digest i } ∷ rest i

  pub chosen_hashed : {E : Type 0} (items : List WindowItem) (numbers : List ℕ) → AreTold hashes items → (made : Result (List HashedDelivery) E)
      → IfOk made (λ all. map keyed all ≡ map (λ offer. delivery_to (table_of parent) (offered_by hashes offer)) (chosen parent items numbers))
      → IfOk made (λ all. delivered all ≡ map (offer_delivery parent) (chosen parent items numbers)) × IfOk made (AreHashed hashes)
  chosen_hashed items numbers told made is =
      let offers = chosen parent items numbers in
      all_hashed hashes (map (offer_delivery parent) offers) made
      (subst (λ (all : List Keyed). IfOk made (λ got. map keyed got ≡ all)) (hashed_each offers (chosen_told items numbers told)) is)
