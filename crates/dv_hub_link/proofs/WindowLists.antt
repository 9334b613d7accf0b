-- Over lists that windows bring, held under their hash keys, what clashes is what collides, and a list is held exactly
-- where a window brings it.
use Rattle.dv_hub_link.proofs.Vocabulary.{Bool, Contains, Contains-append_cases, Contains-append_left, Contains-append_right, Contains-cons_cases, Contains-cons_here, Contains-cons_there, Contains-flat_map, Contains-nil, Delivery, HasNoClash, Hashed, Hashes, IsApart, IsClash, IsLeastClash}
use Rattle.dv_hub_link.proofs.Vocabulary.{IsPairOf, Key, Less, List, Mapping, None, Option, Pair, Parent, Some, Window, [], all_hashed, ap, brought, bytes_eq, bytes_eq-Decides, collision_free, collision_in, collision_tied, deliveries, deliveries_member, delivery-offered, false, filtered_members}
use Rattle.dv_hub_link.proofs.Vocabulary.{first_offer, first_offer-member, first_offer-refs, flat_map, flat_map_member, has_first_offer, hashed_by, hashed_refs, inl, inr, irreflexive, is_held, is_known, is_missing, is_offered, is_offered-member, list_all, map_member, missing_in, missing_refs}
use Rattle.dv_hub_link.proofs.Vocabulary.{not, not-true, offered_member, offered_refs, offers_of, refl, refs_cmp, refs_from, refs_total, reverse, reverse_member, same_answer, some_passes, some_passes_at, subst, sym, table_of, true, ◌∙◌, ◌∷◌, ◌≡◌, ◌⊎◌}
use Rattle.dv_hub_link.proofs.{Brought.brought_cases, Brought.item_in, Brought.missing_there, Hashables.missing_table}

-- the held lists are those that windows bring, each under its hash key
pub record HoldsOffered (mapping : Mapping) (hashes : Hashes) (parent : Parent) (windows : List Window) (held : List Hashed) : Type 0 where
  pub only : (entry : Hashed) → Contains held entry → (is_known mapping parent windows entry.refs ≡ true) × (entry.digest ≡ hashes.hash entry.refs)
  pub each : (refs : List Key) → is_known mapping parent windows refs ≡ true → Contains held (hashed_by hashes refs)

-- among lists with hash keys of their own there is no pair
no_pair : (hashes : Hashes) (lists : List (List Key)) → IsApart hashes lists → (pair : Pair) → IsPairOf hashes lists pair → ⊥
no_pair hashes lists apart pair is = irreflexive refs_total pair.first (subst (λ r. refs_cmp pair.first r ≡ Less) (sym (apart pair.first pair.second is.has_first is.has_second is.alike)) is.ordered)

-- what clashes among lists with their hash keys is a pair of them
clash_pair : (hashes : Hashes) (lists : List (List Key)) (all : List Hashed) → ((entry : Hashed) → Contains all entry → Contains lists entry.refs × (entry.digest ≡ hashes.hash entry.refs)) → (pair : Pair) → IsClash all pair
    → IsPairOf hashes lists pair
clash_pair hashes lists all among pair is =
    let first = among _ is.has_first in
    let second = among _ is.has_second in
    record { has_first = first.0; has_second = second.0; alike = sym first.1 ∙ second.1; ordered = is.ordered }

module _ (mapping : Mapping) (hashes : Hashes) (parent : Parent) where
  -- ---- deliveries

  -- a delivery's table is that of the parent, and its keys aren't all missing
  pub delivery_kept : (window : Window) (item : Delivery) → Contains (deliveries mapping parent window) item → (item.table ≡ table_of parent) × (list_all is_missing item.refs ≡ false)
  delivery_kept window item has =
      let member = first_offer-member mapping parent window item.refs item ((deliveries_member mapping parent window item).0 has) in
      let (within, kept) = (filtered_members (λ (offer : Delivery). not (list_all is_missing offer.refs)) (flat_map (offers_of mapping parent) window.extracts) item).0 member in
      let (staged, there, offered) = flat_map_member (offers_of mapping parent) window.extracts item within in
      let (refs, here, made) = map_member (λ refs. record { table = table_of parent; refs = refs; feed = staged.feed }) (refs_from mapping parent staged) item offered in
      (sym (ap (λ (d : Delivery). d.table) made), not-true (list_all is_missing item.refs) kept)

  -- an offered list has a delivery
  delivery_of : (window : Window) (refs : List Key) → is_offered mapping parent window refs ≡ true → (item : Delivery) × Contains (deliveries mapping parent window) item × (item.refs ≡ refs)
  delivery_of window refs offered =
      let (item, first) = has_first_offer mapping parent window refs (offered_member mapping parent window refs offered) in
      let same : item.refs ≡ refs = first_offer-refs mapping parent window refs item first in
      (item, (deliveries_member mapping parent window item).1 (ap (first_offer mapping parent window) same ∙ first), same)

  -- ---- what windows bring

  known_hashed : (windows : List Window) (refs : List Key) → is_known mapping parent windows refs ≡ true → Contains (hashed_refs mapping (reverse windows) parent) refs
  known_hashed windows refs known =
      let (window, member, offered) = some_passes (λ (w : Window). is_offered mapping parent w refs) windows known in
      Contains-cons_there (missing_refs mapping parent) (flat_map (offered_refs mapping parent) (reverse windows)) refs
      (Contains-flat_map (offered_refs mapping parent) (reverse windows) window refs ((reverse_member windows window).1 member) (offered_member mapping parent window refs offered))

  hashed_cases : (windows : List Window) (refs : List Key) → Contains (hashed_refs mapping (reverse windows) parent) refs → (missing_refs mapping parent ≡ refs) ⊎ (is_known mapping parent windows refs ≡ true)
  hashed_cases windows refs has =
      elim (Contains-cons_cases (missing_refs mapping parent) (flat_map (offered_refs mapping parent) (reverse windows)) refs has) [
        | inl same ↦ inl same
        | inr more ↦
            let (window, member, offered) = flat_map_member (offered_refs mapping parent) (reverse windows) refs more in
            inr (some_passes_at (λ (w : Window). is_offered mapping parent w refs) windows window ((reverse_member windows window).0 member) (is_offered-member mapping parent window refs offered))
      ]

  -- where windows don't collide, what they bring has hash keys of its own
  pub offered_apart : (windows : List Window) → collision_in mapping hashes (reverse windows) parent ≡ None → IsApart hashes (flat_map (offered_refs mapping parent) windows)
  offered_apart windows none a b a_in b_in = (collision_free mapping hashes (reverse windows) parent).0 none a b (hashed a a_in) (hashed b b_in)
    where
      hashed : (refs : List Key) → Contains (flat_map (offered_refs mapping parent) windows) refs → Contains (hashed_refs mapping (reverse windows) parent) refs
      hashed refs has =
          let (window, member, offered) = flat_map_member (offered_refs mapping parent) windows refs has in
          known_hashed windows refs (some_passes_at (λ (w : Window). is_offered mapping parent w refs) windows window member (is_offered-member mapping parent window refs offered))

  -- lists that windows without a collision bring don't clash
  pub holds_clear : (windows : List Window) (held : List Hashed) → HoldsOffered mapping hashes parent windows held → collision_in mapping hashes (reverse windows) parent ≡ None → HasNoClash held
  holds_clear windows held holds none pair is =
      no_pair hashes (hashed_refs mapping (reverse windows) parent) ((collision_free mapping hashes (reverse windows) parent).0 none) pair
      (clash_pair hashes (hashed_refs mapping (reverse windows) parent) held (λ entry has. let (known, digest) = holds.only entry has in (known_hashed windows entry.refs known, digest)) pair is)

  -- ---- what is brought to a table, and what it holds

  module _ (older : List Window) (window : Window) where
    abbrev lists : List (List Key)
    lists = hashed_refs mapping (reverse (window ∷ older)) parent

    abbrev items : List Delivery
    items = deliveries mapping parent window

    older_known : (refs : List Key) → is_known mapping parent older refs ≡ true → is_known mapping parent (window ∷ older) refs ≡ true
    older_known refs known =
        let (w, member, offered) = some_passes (λ (w : Window). is_offered mapping parent w refs) older known in
        some_passes_at (λ (w : Window). is_offered mapping parent w refs) (window ∷ older) w (Contains-cons_there window older w member) offered

    item_known : (item : Delivery) → Contains items item → is_known mapping parent (window ∷ older) item.refs ≡ true
    item_known item has = let offered = is_offered-member mapping parent window item.refs (delivery-offered mapping parent window item has) in rw offered refl

    missing_are : (item : Delivery) → Contains items item → missing_in mapping item.table ≡ missing_refs mapping parent
    missing_are item has = ap (missing_in mapping) (delivery_kept window item has).0 ∙ missing_table mapping parent

    module _ (held : List Hashed) where
      abbrev everything : List Hashed
      everything = all_hashed mapping hashes held (deliveries mapping parent window)

      -- what is brought and held is among the lists
      entry_list : (windows : List Window) → HoldsOffered mapping hashes parent windows held → ((refs : List Key) → is_known mapping parent windows refs ≡ true → is_known mapping parent (window ∷ older) refs ≡ true) → (entry : Hashed)
          → Contains everything entry
          → Contains lists entry.refs × (entry.digest ≡ hashes.hash entry.refs)
      entry_list windows holds among entry has =
          elim (Contains-append_cases (brought mapping hashes items) held entry has) [
            | inl here ↦
                let (refs, is, from) = brought_cases mapping hashes items entry here in
                let found : Contains lists refs =
                elim from [
                  | inl (first, first_in, same) ↦ subst (Contains lists) (sym (missing_are first first_in) ∙ same) (Contains-cons_here (missing_refs mapping parent) (flat_map (offered_refs mapping parent) (reverse (window ∷ older))))
                  | inr (item, member, same) ↦ subst (Contains lists) same (known_hashed (window ∷ older) item.refs (item_known item member))
                ] in
                subst (λ (h : Hashed). Contains lists h.refs × (h.digest ≡ hashes.hash h.refs)) is (found, refl)
            | inr far ↦ let (known, digest) = holds.only entry far in (known_hashed (window ∷ older) entry.refs (among entry.refs known), digest)
          ]

      all_clear : (windows : List Window) → HoldsOffered mapping hashes parent windows held → ((refs : List Key) → is_known mapping parent windows refs ≡ true → is_known mapping parent (window ∷ older) refs ≡ true)
          → collision_in mapping hashes (reverse (window ∷ older)) parent ≡ None → HasNoClash everything
      all_clear windows holds among free pair is = no_pair hashes lists ((collision_free mapping hashes (reverse (window ∷ older)) parent).0 free) pair (clash_pair hashes lists everything (entry_list windows holds among) pair is)

      -- a held list's hash key is held
      hash_held : (refs : List Key) → Contains held (hashed_by hashes refs) → is_held (hashes.hash refs) held ≡ true
      hash_held refs has = some_passes_at (λ (h : Hashed). bytes_eq h.digest (hashes.hash refs)) held (hashed_by hashes refs) has ((bytes_eq-Decides (hashes.hash refs) (hashes.hash refs)).1 refl)

      -- ---- the window's lists are held

      module _ (holds : HoldsOffered mapping hashes parent (window ∷ older) held) where
        pub held_none : collision_in mapping hashes (reverse (window ∷ older)) parent ≡ None → HasNoClash everything
        held_none = all_clear (window ∷ older) holds (λ refs known. known)

        pub held_item : (item : Delivery) → Contains (deliveries mapping parent window) item → is_held (hashes.hash item.refs) held ≡ true
        held_item item has = hash_held item.refs (holds.each item.refs (item_known item has))

      -- ---- the older windows' lists are held

      module _ (holds : HoldsOffered mapping hashes parent older held) where
        -- each of the lists is an entry, where something is brought
        list_entry : (some : Delivery) → Contains items some → (refs : List Key) → Contains lists refs → Contains everything (hashed_by hashes refs)
        list_entry some some_in refs has =
            elim (hashed_cases (window ∷ older) refs has) [
              | inl same ↦ Contains-append_left (brought mapping hashes items) held _ (missing_there mapping hashes items some some_in refs (λ item member. missing_are item member ∙ same))
              | inr known ↦ by (is_offered mapping parent window refs) refl known
            ]
          where
            by : (t : Bool) → is_offered mapping parent window refs ≡ t → is_known mapping parent (window ∷ older) refs ≡ true → Contains everything (hashed_by hashes refs)
            by true e known =
                let (item, member, same) = delivery_of window refs e in
                subst (λ r. Contains everything (hashed_by hashes r)) same (Contains-append_left (brought mapping hashes items) held _ (item_in mapping hashes items item member))
            by false e known = Contains-append_right (brought mapping hashes items) held _ (holds.each refs (rw e at known))

        -- where nothing is brought, each of the lists is an older one
        older_list : items ≡ [] → (refs : List Key) → Contains lists refs → Contains (hashed_refs mapping (reverse older) parent) refs
        older_list none refs has =
            elim (hashed_cases (window ∷ older) refs has) [
              | inl same ↦ subst (Contains (hashed_refs mapping (reverse older) parent)) same (Contains-cons_here (missing_refs mapping parent) (flat_map (offered_refs mapping parent) (reverse older)))
              | inr known ↦ by (is_offered mapping parent window refs) refl known
            ]
          where
            by : (t : Bool) → is_offered mapping parent window refs ≡ t → is_known mapping parent (window ∷ older) refs ≡ true → Contains (hashed_refs mapping (reverse older) parent) refs
            by true e known = let (item, member, same) = delivery_of window refs e in Contains-nil item (subst (λ l. Contains l item) none member)
            by false e known = known_hashed older refs (rw e at known)

        -- a pair of the lists clashes
        pair_clash : collision_in mapping hashes (reverse older) parent ≡ None → (pair : Pair) → IsPairOf hashes lists pair → IsClash everything pair
        pair_clash free pair is = by items refl
          where
            by : (some : List Delivery) → items ≡ some → IsClash everything pair
            by [] e =
                absurd (no_pair hashes (hashed_refs mapping (reverse older) parent) ((collision_free mapping hashes (reverse older) parent).0 free) pair
                (record { has_first = older_list e pair.first is.has_first; has_second = older_list e pair.second is.has_second; alike = is.alike; ordered = is.ordered }))
            by (first ∷ rest) e =
                let first_in : Contains items first = subst (λ l. Contains l first) (sym e) (Contains-cons_here first rest) in
                record {
                  digest = hashes.hash pair.first;
                  has_first = list_entry first first_in pair.first is.has_first;
                  has_second = subst (λ d. Contains everything (record { digest = d; refs = pair.second })) (sym is.alike) (list_entry first first_in pair.second is.has_second);
                  ordered = is.ordered;
                }

        -- no clash is no collision
        pub next_none : collision_in mapping hashes (reverse older) parent ≡ None → HasNoClash everything → collision_in mapping hashes (reverse (window ∷ older)) parent ≡ None
        next_none free none = by (collision_in mapping hashes (reverse (window ∷ older)) parent) refl
          where
            by : (o : Option Pair) → collision_in mapping hashes (reverse (window ∷ older)) parent ≡ o → collision_in mapping hashes (reverse (window ∷ older)) parent ≡ None
            by None e = e
            by (Some pair) e = absurd (none pair (pair_clash free pair ((collision_tied mapping hashes (reverse (window ∷ older)) parent pair).0 e).is))

        -- the least clash is the collision
        pub next_least : collision_in mapping hashes (reverse older) parent ≡ None → (pair : Pair) → IsLeastClash everything pair → collision_in mapping hashes (reverse (window ∷ older)) parent ≡ Some pair
        next_least free pair is =
            (collision_tied mapping hashes (reverse (window ∷ older)) parent pair).1 (record {
              is = clash_pair hashes lists everything (entry_list older holds older_known) pair is.is;
              least = λ other other_is less. is.least other (pair_clash free other other_is) less;
            })

        -- a delivered list's hash key is held exactly where an older window brings the list
        pub held_is_known : collision_in mapping hashes (reverse (window ∷ older)) parent ≡ None → (item : Delivery) → Contains (deliveries mapping parent window) item
            → is_held (hashes.hash item.refs) held ≡ is_known mapping parent older item.refs
        held_is_known free item member =
            same_answer (is_held (hashes.hash item.refs) held) (is_known mapping parent older item.refs)
            (λ e.
            let (other, other_in, same) = some_passes (λ (h : Hashed). bytes_eq h.digest (hashes.hash item.refs)) held e in
            let (known, digest) = holds.only other other_in in
            let is : other.refs ≡ item.refs =
            (collision_free mapping hashes (reverse (window ∷ older)) parent).0 free other.refs item.refs (known_hashed (window ∷ older) other.refs (older_known other.refs known))
            (known_hashed (window ∷ older) item.refs (item_known item member)) (sym digest ∙ (bytes_eq-Decides other.digest (hashes.hash item.refs)).0 same) in
            subst (λ r. is_known mapping parent older r ≡ true) is known)
            (λ known. hash_held item.refs (holds.each item.refs known))
