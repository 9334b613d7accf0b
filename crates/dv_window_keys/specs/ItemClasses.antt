-- Items of a window that are the same have one class, which is the first of them, and one home.
use Rattle.std.specs.Prelude.{◌≡◌, ℕ, ◌<◌, ◌≤◌, ◌==◌, true, false, List, Some, length, map, slice_get, slice_index_or}
use Rattle.std.specs.List.{position_or_len}
use Rattle.std.specs.Option.{option_map}
use Rattle.std.proofs.Common.{⊎_elim, refl, sym, ap, ◌∙◌, arith, subst, get_or, eq-eqb, eqb-true}
use Rattle.std.proofs.lemmas.Bool.{and_from, and_parts, cases_lt, false≢true}
use Rattle.std.proofs.lemmas.List.{length-map}
use Rattle.std.proofs.lemmas.List.Sums.{fails_before_first, passes_at_first}
use Rattle.std.proofs.lemmas.Option.{get_or_from_slice_get, same_Some, slice_get-get_or, slice_get-map, slice_get_within}
use Rattle.dv_board.specs.Items.{AreLawful}
use Rattle.dv_catalog.specs.declared.entries.Parent.{Parent}
use Rattle.dv_catalog.specs.declared.entries.Parent.TheVariants.{Hub, Link}
use Rattle.dv_catalog.specs.Feeds.{parent_eq}
use Rattle.dv_text.proofs.Deciding.{refs_eq-Decides}
use Rattle.dv_text.proofs.Options.{got_from}
use Rattle.dv_text.proofs.Passing.{same_answer}
use Rattle.dv_text.specs.declared.rows.Key.{Key}
use Rattle.dv_text.specs.Keys.{refs_eq}
use Rattle.dv_window_keys.specs.declared.items.Mixing.{Mixing}
use Rattle.dv_window_keys.specs.WindowItems.{Item, first_same, is_of, item_home, keys_of}

pub same_parent : (a b : Parent) → parent_eq a b ≡ true → a ≡ b
same_parent (Hub a) (Hub b) e = ap Hub (eqb-true a b e)
same_parent (Link a) (Link b) e = ap Link (eqb-true a b e)
same_parent (Hub a) (Link b) e = let no : false ≡ true = e in cc
same_parent (Link a) (Hub b) e = let no : false ≡ true = e in cc

pub parent_itself : (a : Parent) → parent_eq a a ≡ true
parent_itself (Hub a) = eq-eqb a a refl
parent_itself (Link a) = eq-eqb a a refl

-- an item that passes the test has the parent and the list
pub item_is : (parent : Parent) (refs : List Key) (item : Item) → is_of parent refs item ≡ true → (item.parent ≡ parent) × (item.refs ≡ refs)
item_is parent refs item e =
    let parts = and_parts (parent_eq item.parent parent) (refs_eq item.refs refs) e in
    (same_parent item.parent parent parts.0, (refs_eq-Decides item.refs refs).0 parts.1)

pub is_itself : (item : Item) → is_of item.parent item.refs item ≡ true
is_itself item = and_from (parent_eq item.parent item.parent) (refs_eq item.refs item.refs) (parent_itself item.parent) ((refs_eq-Decides item.refs item.refs).1 refl)

module _ (items : List Item) where
  abbrev first_of : Parent → List Key → ℕ
  first_of parent refs = position_or_len (is_of parent refs) items

  -- the first that passes the test is not behind any that does
  pub first_le : (parent : Parent) (refs : List Key) (n : ℕ) (item : Item) → slice_get items n ≡ Some item → is_of parent refs item ≡ true → first_of parent refs ≤ n
  first_le parent refs n item at passes =
      ⊎_elim
      (λ (before : n < first_of parent refs).
      absurd (false≢true (sym (fails_before_first (is_of parent refs) items n item before) ∙ (ap (is_of parent refs) (get_or_from_slice_get items n item item at) ∙ passes))))
      (λ (le : first_of parent refs ≤ n). le)
      (cases_lt n (first_of parent refs))

  -- and passes it
  pub first_got : (parent : Parent) (refs : List Key) (n : ℕ) (item : Item) → slice_get items n ≡ Some item → is_of parent refs item ≡ true
      → (other : Item) × (slice_get items (first_of parent refs) ≡ Some other) × (is_of parent refs other ≡ true)
  first_got parent refs n item at passes =
      let le = first_le parent refs n item at passes in
      let under = slice_get_within items n item at in
      let lt : first_of parent refs < length items = omega (arith, le, under) in
      (get_or items (first_of parent refs) item, slice_get-get_or items (first_of parent refs) item lt, passes_at_first (is_of parent refs) items item lt)

  -- the class of an item, however homes are mixed
  abbrev pub class_in : ℕ → ℕ
  class_in n = slice_index_or (map (first_same items) items) n 0

  pub class_at : (n : ℕ) (item : Item) → slice_get items n ≡ Some item → class_in n ≡ first_same items item
  class_at n item at = get_or_from_slice_get (map (first_same items) items) n (first_same items item) 0 (slice_get-map (first_same items) items n ∙ ap (option_map (first_same items)) at)

  pub home_at : (mixing : Mixing) (n : ℕ) (item : Item) → slice_get items n ≡ Some item → slice_index_or (keys_of mixing items).homes n 0 ≡ item_home mixing item
  home_at mixing n item at = get_or_from_slice_get (map (item_home mixing) items) n (item_home mixing item) 0 (slice_get-map (item_home mixing) items n ∙ ap (option_map (item_home mixing)) at)

  -- items whose first one is the same have one parent and one list
  pub one_list : (n m : ℕ) (a b : Item) → slice_get items n ≡ Some a → slice_get items m ≡ Some b → first_same items a ≡ first_same items b → (a.parent ≡ b.parent) × (a.refs ≡ b.refs)
  one_list n m a b a_at b_at same =
      let (first, first_at, first_is) = first_got a.parent a.refs n a a_at (is_itself a) in
      let (other, other_at, other_is) = first_got b.parent b.refs m b b_at (is_itself b) in
      let one : first ≡ other = same_Some first other (sym first_at ∙ (ap (slice_get items) same ∙ other_at)) in
      let of_a = item_is a.parent a.refs first first_is in
      let of_b = item_is b.parent b.refs other other_is in
      (sym of_a.0 ∙ (ap (λ (x : Item). x.parent) one ∙ of_b.0), sym of_a.1 ∙ (ap (λ (x : Item). x.refs) one ∙ of_b.1))

  pub same_first : (a b : Item) → a.parent ≡ b.parent → a.refs ≡ b.refs → first_same items a ≡ first_same items b
  same_first a b parents lists = λ i. first_of (parents i) (lists i)

  -- two items are the same just where they have one class
  pub same_class : (n m : ℕ) (a b : Item) → slice_get items n ≡ Some a → slice_get items m ≡ Some b → is_of b.parent b.refs a ≡ (class_in n == class_in m)
  same_class n m a b a_at b_at =
      same_answer (is_of b.parent b.refs a) (class_in n == class_in m)
      (λ is. let parts = item_is b.parent b.refs a is in eq-eqb (class_in n) (class_in m) (class_at n a a_at ∙ (same_first a b parts.0 parts.1 ∙ sym (class_at m b b_at))))
      (λ is.
      let parts = one_list n m a b a_at b_at (sym (class_at n a a_at) ∙ (eqb-true (class_in n) (class_in m) is ∙ class_at m b b_at)) in
      and_from (parent_eq a.parent b.parent) (refs_eq a.refs b.refs) (subst (λ p. parent_eq a.parent p ≡ true) parts.0 (parent_itself a.parent)) ((refs_eq-Decides a.refs b.refs).1 parts.1))

  pub keys_length : length (map (first_same items) items) ≡ length items
  keys_length = length-map items (first_same items)

  pub keys_lawful : (mixing : Mixing) → AreLawful (keys_of mixing items)
  keys_lawful mixing =
      let inside : (a : ℕ) → a < length (map (first_same items) items) → a < length items = λ a lt. omega (arith, lt, keys_length) in record {
        as_long = length-map items (item_home mixing) ∙ sym keys_length;
        least = λ a lt.
            let (item, at) = got_from items a (inside a lt) in
            let e = class_at a item at in
            let le = first_le item.parent item.refs a item at (is_itself item) in
            omega (arith, e, le);
        itself = λ a lt.
            let (item, at) = got_from items a (inside a lt) in
            let (first, first_at, first_is) = first_got item.parent item.refs a item at (is_itself item) in
            let parts = item_is item.parent item.refs first first_is in
            ap class_in (class_at a item at) ∙ (class_at (first_same items item) first first_at ∙ (same_first first item parts.0 parts.1 ∙ sym (class_at a item at)));
        one_home = λ a b lt_a lt_b same.
            let (one, one_at) = got_from items a (inside a lt_a) in
            let (other, other_at) = got_from items b (inside b lt_b) in
            let parts = one_list a b one other one_at other_at (sym (class_at a one one_at) ∙ (same ∙ class_at b other other_at)) in
            let homes : item_home mixing one ≡ item_home mixing other = λ i. item_home mixing (record { parent = parts.0 i; refs = parts.1 i; feed = 0 }) in
            home_at mixing a one one_at ∙ (homes ∙ sym (home_at mixing b other other_at));
      }
