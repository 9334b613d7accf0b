-- Windows before a last one of valid windows are valid.
use Rattle.dv_store_rules.proofs.Vocabulary.{All-weaker, Contains, Contains-append_left, Contains-cons_cases, Contains-cons_here, Contains-cons_there, Contains-flat_map, Hashes, IsApart, Key, List, Mapping, None, Parent, Window, [], all_pass, and_from, and_parts, ap, are_windows_valid, arith}
use Rattle.dv_store_rules.proofs.Vocabulary.{ascends, brought, collision, collision_free, collision_in, flat_map, flat_map_member, hashed_refs, inl, inr, is_known, is_none, is_offered, is_window, le-leb, leb-true, length, length-append, list_all, map, map-append, missing_refs, most_weight}
use Rattle.dv_store_rules.proofs.Vocabulary.{most_windows, nat_lt, none_collide, none_from, offered_refs, parents, passes_at, refl, rules, some_passes, some_passes_at, subst, sym, true, vault_weight, weight-push, ℕ, ◌++◌, ◌∙◌, ◌∷◌, ◌≡◌, ◌≤◌}

-- the first of numbers that ascend ascend
ascends_first : (xs ys : List ℕ) → ascends (xs ++ ys) ≡ true → ascends xs ≡ true
ascends_first [] ys up = refl
ascends_first (n ∷ xs) ys up =
    let (all, rest) = and_parts (list_all (nat_lt n) (xs ++ ys)) (ascends (xs ++ ys)) up in
    and_from _ _ (all_pass (nat_lt n) xs (λ m has. passes_at (nat_lt n) (xs ++ ys) m all (Contains-append_left xs ys m has))) (ascends_first xs ys rest)

module _ (mapping : Mapping) (parent : Parent) where
  -- what windows bring, more windows bring
  pub known_more : (some all : List Window) → ((window : Window) → Contains some window → Contains all window) → (refs : List Key) → is_known mapping parent some refs ≡ true → is_known mapping parent all refs ≡ true
  known_more some all within refs known =
      let (window, there, offered) = some_passes (λ window. is_offered mapping parent window refs) some known in
      some_passes_at (λ window. is_offered mapping parent window refs) all window (within window there) offered

  -- so where no two lists of more windows have one hash key, no two of theirs have
  fewer_apart : (hashes : Hashes) (some all : List Window) → ((window : Window) → Contains some window → Contains all window) → IsApart hashes (hashed_refs mapping all parent) → IsApart hashes (hashed_refs mapping some parent)
  fewer_apart hashes some all within apart a b a_in b_in = apart a b (more a a_in) (more b b_in)
    where
      more : (refs : List Key) → Contains (hashed_refs mapping some parent) refs → Contains (hashed_refs mapping all parent) refs
      more refs has =
          elim (Contains-cons_cases (missing_refs mapping parent) (flat_map (offered_refs mapping parent) some) refs has) [
            | inl same ↦ subst (Contains (hashed_refs mapping all parent)) same (Contains-cons_here (missing_refs mapping parent) (flat_map (offered_refs mapping parent) all))
            | inr brought ↦
                let (window, there, offered) = flat_map_member (offered_refs mapping parent) some refs brought in
                Contains-cons_there (missing_refs mapping parent) (flat_map (offered_refs mapping parent) all) refs (Contains-flat_map (offered_refs mapping parent) all window refs (within window there) offered)
          ]

module _ (mapping : Mapping) (hashes : Hashes) where
  fewer_collide : (some all : List Window) → ((window : Window) → Contains some window → Contains all window) → collision mapping hashes all ≡ None → collision mapping hashes some ≡ None
  fewer_collide some all within none =
      (none_collide mapping hashes some).1
      (All-weaker (λ (parent : Parent). collision_in mapping hashes all parent ≡ None) (λ (parent : Parent). collision_in mapping hashes some parent ≡ None)
      (λ parent free. (collision_free mapping hashes some parent).1 (fewer_apart mapping parent hashes some all within ((collision_free mapping hashes all parent).0 free)))
      (parents mapping) ((none_collide mapping hashes all).0 none))

  -- what valid windows keep to
  pub record Parts (windows : List Window) : Type 0 where
    pub ordered : ascends (map (λ window. window.load) windows) ≡ true
    pub whole : list_all (is_window mapping) windows ≡ true
    pub apart : collision mapping hashes windows ≡ None
    pub light : vault_weight mapping hashes windows ≤ most_weight
    pub few : length windows ≤ most_windows

  -- each of these follows
  pub parts_of_valid : (windows : List Window) → are_windows_valid mapping hashes windows ≡ true → Parts windows
  parts_of_valid windows e = search (rules, none_from, leb-true)

  valid_of_parts : (windows : List Window) → Parts windows → are_windows_valid mapping hashes windows ≡ true
  valid_of_parts windows parts =
      and_from _ _ (and_from _ _ (and_from _ _ (and_from _ _ parts.ordered parts.whole) (ap is_none parts.apart)) (le-leb (vault_weight mapping hashes windows) most_weight parts.light))
      (le-leb (length windows) most_windows parts.few)

  -- without the last window they are valid too
  pub fewer_valid : (windows : List Window) (last : Window) → are_windows_valid mapping hashes (windows ++ last ∷ []) ≡ true → are_windows_valid mapping hashes windows ≡ true
  fewer_valid windows last valid =
      let all = windows ++ last ∷ [] in
      let parts = parts_of_valid all valid in
      let within : (window : Window) → Contains windows window → Contains all window = Contains-append_left windows (last ∷ []) in
      let loads : map (λ (window : Window). window.load) all ≡ map (λ (window : Window). window.load) windows ++ last.load ∷ [] = map-append (λ (window : Window). window.load) windows (last ∷ []) in
      let weights = weight-push mapping hashes windows last in
      let counts = length-append windows (last ∷ []) in
      valid_of_parts windows (record {
        ordered = ascends_first (map (λ window. window.load) windows) (last.load ∷ []) (ap ascends (sym loads) ∙ parts.ordered);
        whole = all_pass (is_window mapping) windows (λ window has. passes_at (is_window mapping) all window parts.whole (within window has));
        apart = fewer_collide windows all within parts.apart;
        light = omega (arith, weights, parts.light);
        few = omega (arith, counts, parts.few);
      })
