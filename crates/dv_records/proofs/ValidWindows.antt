-- What valid windows keep to: they are in load order, no two keys of a hub and no two lists of a link have one hash key,
-- and each is a window of the definition.
use Rattle.dv_records.proofs.Vocabulary.{All-contains, Contains, Contains-append_right, Contains-cons_here, Contains-map, Contains-range, Extract, Hashes, Hub, IsApart, IsInLoadOrder, Link, List, Mapping, None, Parent, Some, Window, [], and_parts, ap, are_windows_valid, arith, ascends, collision}
use Rattle.dv_records.proofs.Vocabulary.{collision_in, common_steps, extract_of, filter_map_member, hashed_refs, history, is_none, is_window, length, list_all, map, none-some, none_from, parents, passes_at, range_with_len, refl, reverse, reverse_member, rules, slice_get, sym, true, ℕ, ◌<◌, ◌∙◌}
use Rattle.dv_records.proofs.Vocabulary.{◌∷◌, ◌≡◌}
use Rattle.dv_records.proofs.{CollisionTies.collision_free, CollisionTies.none_collide, WindowRows.in_order, WindowRows.staged_at, WindowRows.staged_rows}

is_parent_hub : (mapping : Mapping) (hub : ℕ) → hub < length mapping.hubs → Contains (parents mapping) (Hub hub)
is_parent_hub mapping hub under = grind (arith, common_steps, Contains-range (length mapping.hubs) hub under)

is_parent_link : (mapping : Mapping) (link : ℕ) → link < length mapping.links → Contains (parents mapping) (Link link)
is_parent_link mapping link under =
    Contains-append_right (map (λ n. Hub n) (range_with_len 0 (length mapping.hubs))) (map (λ n. Link n) (range_with_len 0 (length mapping.links))) (Link link)
    (Contains-map (λ n. Link n) (range_with_len 0 (length mapping.links)) link (Contains-range (length mapping.links) link under))

-- a list without members is empty
memberless : {X : Type 0} (xs : List X) → ((x : X) → Contains xs x → ⊥) → xs ≡ []
memberless [] none = refl
memberless (x ∷ xs) none = absurd (none x (Contains-cons_here x xs))

module _ (mapping : Mapping) (hashes : Hashes) (sealed : List Window) (valid : are_windows_valid mapping hashes sealed ≡ true) where
  record Parts : Type 0 where
    ordered : ascends (map (λ window. window.load) sealed) ≡ true
    windows : list_all (is_window mapping) sealed ≡ true
    apart : is_none (collision mapping hashes sealed) ≡ true

  the_parts : Parts
  the_parts = search (rules, and_parts)

  pub load_order : IsInLoadOrder sealed
  load_order = in_order (map (λ window. window.load) sealed) the_parts.ordered

  none_at : (parent : Parent) → Contains (parents mapping) parent → IsApart hashes (hashed_refs mapping sealed parent)
  none_at parent has =
      let none = (none_collide mapping hashes sealed).0 (none_from (collision mapping hashes sealed) the_parts.apart) in
      (collision_free mapping hashes sealed parent).0 (All-contains (λ (parent : Parent). collision_in mapping hashes sealed parent ≡ None) (parents mapping) parent none has)

  pub hub_apart : (hub : ℕ) → hub < length mapping.hubs → IsApart hashes (hashed_refs mapping sealed (Hub hub))
  hub_apart hub under = none_at (Hub hub) (is_parent_hub mapping hub under)

  pub link_apart : (link : ℕ) → link < length mapping.links → IsApart hashes (hashed_refs mapping sealed (Link link))
  link_apart link under = none_at (Link link) (is_parent_link mapping link under)

  pub whole : list_all (is_window mapping) sealed ≡ true
  whole = the_parts.windows

  -- a feed that the mapping hasn't has no extract
  pub unknown_unstaged : (feed : ℕ) → slice_get mapping.feeds feed ≡ None → (window : Window) → Contains sealed window → (extract : Extract) → extract_of feed window ≡ Some extract → ⊥
  unknown_unstaged feed none window there extract is =
      let (staged, member, number, valid, rows) = staged_at mapping window (passes_at (is_window mapping) sealed window whole there) feed extract is in
      let (definition, got, are) = staged_rows mapping staged valid in
      none-some definition (sym none ∙ ap (slice_get mapping.feeds) (sym number) ∙ got)

  pub no_history : (feed : ℕ) → slice_get mapping.feeds feed ≡ None → history feed (reverse sealed) ≡ []
  no_history feed none = memberless (history feed (reverse sealed)) unstaged
    where
      unstaged : (extract : Extract) → Contains (history feed (reverse sealed)) extract → ⊥
      unstaged extract has =
          let (window, turned, is) = filter_map_member (extract_of feed) (reverse sealed) extract has in
          unknown_unstaged feed none window ((reverse_member sealed window).0 turned) extract is
