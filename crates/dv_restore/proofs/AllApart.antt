-- Where sealed windows and an open one do not collide, no table of the vault has a clash, whichever first tables have the open
-- one's batch.
use Rattle.dv_restore.proofs.Vocabulary.{All, All-append, All-contains, Backwards, Bool, Contains, Contains-append_cases, Contains-append_left, Contains-append_right, Contains-cons_cases, Contains-cons_here, Contains-cons_there, Contains-nil, HasNoClash, Hashes, Hub, HubName, Key, Link, List}
use Rattle.dv_restore.proofs.Vocabulary.{Mapping, None, Parent, Rows, TableId, TableRows, TellLists, Window, [], all_from_members, ap, append_assoc, appended, are_windows_valid, arith, backwards, collision_free, collision_in, compared_in, drop, eqb-true, false, feed_tables, fewer_valid}
use Rattle.dv_restore.proofs.Vocabulary.{hub_apart, hub_batch, hub_names, hub_rows, hub_rows_in, if◌then◌else◌, inl, inr, is_known, is_offered, is_valid, is_window, key_named, length, length-map, length-range_with_len, list_all, lt-ltb, ltb-true, map, map_member, names_told, nat_lt, nat_tests}
use Rattle.dv_restore.proofs.Vocabulary.{none_collide, of_feeds, parents, parents_first, partial, parts_of_valid, range_with_len, refl, reverse, reverse-append, reverse-reverse, reversed_whole, rows_in, some_passes, some_passes_at, subst, suc, sym, table_after, table_entry, table_of, tables}
use Rattle.dv_restore.proofs.Vocabulary.{take, take-append-drop, true, turned_back, with_newest, zero, ℕ, ◌++◌, ◌+◌, ◌<◌, ◌==◌, ◌∙◌, ◌∷◌, ◌≡◌, ◌≤◌}
use Rattle.dv_hub_link.specs.LinkDeltas.{key_with}
use Rattle.dv_restore.proofs.KnownLists.{hub_clear, link_clear, single_clear}
use Rattle.dv_catalog.specs.declared.tables.TableId.TheVariants as ids

not_same : (a b : ℕ) → a ≤ b → (a == b) ≡ false → a < b
not_same a b le e = grind (arith, nat_tests, le, e)

module _ (mapping : Mapping) (hashes : Hashes) (older newer : Backwards) where
  -- tables of which the first k are after newer windows, and the others after older ones
  abbrev pub mixed : ℕ → List TableId → List TableRows
  mixed k some = map (table_entry mapping hashes newer) (take k some) ++ map (table_entry mapping hashes older) (drop k some)

  -- a hub among them
  record HubRowsAre (start k hub : ℕ) (rows : Rows) : Type 0 where
    new : hub < start + k → rows ≡ table_after mapping hashes newer (ids.Hub hub)
    old : start + k ≤ hub → rows ≡ table_after mapping hashes older (ids.Hub hub)

  rows_of_old : (some : List TableId) → mixed 0 some ≡ map (table_entry mapping hashes older) some
  rows_of_old [] = refl
  rows_of_old (id ∷ some) = refl

  -- one that stands first, or behind the first one
  first_old : (start hub : ℕ) (behind : List TableId) → start ≤ hub → (start < hub → HubRowsAre (start + 1) 0 hub (rows_in (ids.Hub hub) (mixed 0 behind))) → (b : Bool) → (start == hub) ≡ b
      → HubRowsAre start 0 hub (rows_in (ids.Hub hub) (table_entry mapping hashes older (ids.Hub start) ∷ map (table_entry mapping hashes older) behind))
  first_old start hub behind from later true e = record {
    new = λ less. absurd (omega (arith, less, from));
    old = λ more. rw e (ap (λ n. table_after mapping hashes older (ids.Hub n)) (eqb-true start hub e));
  }
  first_old start hub behind from later false e =
      let less : start < hub = not_same start hub from e in
      record {
        new = λ no. absurd (omega (arith, no, from));
        old = λ more. rw e (ap (rows_in (ids.Hub hub)) (sym (rows_of_old behind)) ∙ (later less).old (omega (arith, less)));
      }

  first_new : (start k hub : ℕ) (behind : List TableId) → start ≤ hub → (start < hub → HubRowsAre (start + 1) k hub (rows_in (ids.Hub hub) (mixed k behind))) → (b : Bool) → (start == hub) ≡ b
      → HubRowsAre start (suc k) hub (rows_in (ids.Hub hub) (table_entry mapping hashes newer (ids.Hub start) ∷ mixed k behind))
  first_new start k hub behind from later true e =
      let same = eqb-true start hub e in
      record {
        new = λ less. rw e (ap (λ n. table_after mapping hashes newer (ids.Hub n)) same);
        old = λ more. absurd (omega (arith, more, same));
      }
  first_new start k hub behind from later false e =
      let less : start < hub = not_same start hub from e in
      record {
        new = λ below. rw e ((later less).new (omega (arith, below)));
        old = λ above. rw e ((later less).old (omega (arith, above)));
      }

  hub_among : (count start k : ℕ) (rest : List TableId) (hub : ℕ) → start ≤ hub → hub < start + count
      → HubRowsAre start k hub (rows_in (ids.Hub hub) (mixed k (map (λ n. ids.Hub n) (range_with_len start count) ++ rest)))
  hub_among zero start k rest hub from under = absurd (omega (arith, from, under))
  hub_among (suc count) start zero rest hub from under =
      first_old start hub (map (λ n. ids.Hub n) (range_with_len (start + 1) count) ++ rest) from
      (λ less. hub_among count (start + 1) 0 rest hub (omega (arith, less)) (omega (arith, under))) (start == hub) refl
  hub_among (suc count) start (suc k) rest hub from under =
      first_new start k hub (map (λ n. ids.Hub n) (range_with_len (start + 1) count) ++ rest) from
      (λ less. hub_among count (start + 1) k rest hub (omega (arith, less)) (omega (arith, under))) (start == hub) refl

-- what stands among the first items, or behind them, stands in the list
of_first : {X : Type 0} (k : ℕ) (xs : List X) (x : X) → Contains (take k xs) x → Contains xs x
of_first k xs x has = subst (λ all. Contains all x) (take-append-drop k xs) (Contains-append_left (take k xs) (drop k xs) x has)

of_rest : {X : Type 0} (k : ℕ) (xs : List X) (x : X) → Contains (drop k xs) x → Contains xs x
of_rest k xs x has = subst (λ all. Contains all x) (take-append-drop k xs) (Contains-append_right (take k xs) (drop k xs) x has)

not_under : (a b : ℕ) → nat_lt a b ≡ false → b ≤ a
not_under a b e = grind (arith, nat_tests, e)

-- what stands only behind a list stands among more than it
behind_first : {X : Type 0} (k : ℕ) (xs ys : List X) (x : X) → (Contains xs x → ⊥) → Contains (take k (xs ++ ys)) x → length xs < k
behind_first zero xs ys x not has = absurd (none xs ys x has)
  where
    none : {X : Type 0} (xs ys : List X) (x : X) → Contains (take 0 (xs ++ ys)) x → ⊥
    none [] [] x has = Contains-nil x has
    none [] (y ∷ ys) x has = Contains-nil x has
    none (y ∷ xs) ys x has = Contains-nil x has
behind_first (suc k) [] ys x not has = omega arith
behind_first (suc k) (y ∷ xs) ys x not has =
    elim (Contains-cons_cases y (take k (xs ++ ys)) x has) [
      | inl same ↦ absurd (not (subst (λ z. Contains (y ∷ xs) z) same (Contains-cons_here y xs)))
      | inr more ↦ let less = behind_first k xs ys x (λ other. not (Contains-cons_there y xs x other)) more in omega (arith, less)
    ]

module _ (mapping : Mapping) (hashes : Hashes) (sealed : List Window) (window : Window) (valid : is_valid mapping ≡ true) (windows_valid : are_windows_valid mapping hashes (sealed ++ window ∷ []) ≡ true) (k : ℕ) where
  abbrev all : List Window
  all = sealed ++ window ∷ []

  abbrev older : Backwards
  older = backwards sealed

  abbrev newer : Backwards
  newer = with_newest window older

  abbrev names : List HubName
  names = hub_names mapping (partial mapping hashes sealed window k)

  turned : reverse all ≡ window ∷ reverse sealed
  turned = reverse-append sealed (window ∷ [])

  free : (parent : Parent) → Contains (parents mapping) parent → collision_in mapping hashes all parent ≡ None
  free parent has =
      All-contains (λ (parent : Parent). collision_in mapping hashes all parent ≡ None) (parents mapping) parent
      ((none_collide mapping hashes all).0 (parts_of_valid mapping hashes all windows_valid).apart) has

  there : Contains all window
  there = Contains-append_right sealed (window ∷ []) window (Contains-cons_here window [])

  -- ---- the names of the hubs

  abbrev behind_hubs : List TableId
  behind_hubs = map (λ n. ids.Link n) (range_with_len 0 (length mapping.links)) ++ feed_tables 0 mapping.feeds

  hubs_first : tables mapping ≡ map (λ n. ids.Hub n) (range_with_len 0 (length mapping.hubs)) ++ behind_hubs
  hubs_first = append_assoc (map (λ n. ids.Hub n) (range_with_len 0 (length mapping.hubs))) (map (λ n. ids.Link n) (range_with_len 0 (length mapping.links))) (feed_tables 0 mapping.feeds)

  rows_are : (hub : ℕ) → hub < length mapping.hubs → HubRowsAre mapping hashes older newer 0 k hub (rows_in (ids.Hub hub) (partial mapping hashes sealed window k))
  rows_are hub under =
      subst (λ some. HubRowsAre mapping hashes older newer 0 k hub (rows_in (ids.Hub hub) (mixed mapping hashes older newer k some))) (sym hubs_first)
      (hub_among mapping hashes older newer (length mapping.hubs) 0 k behind_hubs hub (omega arith) (omega (arith, under)))

  -- the windows of which a hub has the rows
  abbrev windows_of : ℕ → List Window
  windows_of hub = if nat_lt hub k then window ∷ reverse sealed else reverse sealed

  own_names : (hub : ℕ) (digest : List ℕ) → hub < length mapping.hubs → key_named hub digest names ≡ key_with digest (appended (hub_batch mapping hashes hub) (windows_of hub))
  own_names hub digest under = names_told mapping (partial mapping hashes sealed window k) hub digest under ∙ by (nat_lt hub k) refl
    where
      by : (b : Bool) → nat_lt hub k ≡ b → key_with digest (hub_rows_in hub (partial mapping hashes sealed window k)) ≡ key_with digest (appended (hub_batch mapping hashes hub) (if b then window ∷ reverse sealed else reverse sealed))
      by true e = ap (λ rows. key_with digest (hub_rows rows)) ((rows_are hub under).new (omega (arith, ltb-true hub k e)))
      by false e = ap (λ rows. key_with digest (hub_rows rows)) ((rows_are hub under).old (omega (arith, not_under hub k e)))

  sealed_apart : (hub : ℕ) → hub < length mapping.hubs → collision_in mapping hashes (reverse (reverse sealed)) (Hub hub) ≡ None
  sealed_apart hub under =
      ap (λ windows. collision_in mapping hashes windows (Hub hub)) (reverse-reverse sealed)
      ∙ (collision_free mapping hashes sealed (Hub hub)).1 (hub_apart mapping hashes sealed (fewer_valid mapping hashes sealed window windows_valid) hub under)

  all_apart : (hub : ℕ) → hub < length mapping.hubs → collision_in mapping hashes (reverse (window ∷ reverse sealed)) (Hub hub) ≡ None
  all_apart hub under =
      ap (λ windows. collision_in mapping hashes windows (Hub hub)) (turned_back sealed window)
      ∙ (collision_free mapping hashes all (Hub hub)).1 (hub_apart mapping hashes all windows_valid hub under)

  sealed_whole : list_all (is_window mapping) (reverse sealed) ≡ true
  sealed_whole = reversed_whole (is_window mapping) sealed (parts_of_valid mapping hashes sealed (fewer_valid mapping hashes sealed window windows_valid)).whole

  all_whole : list_all (is_window mapping) (window ∷ reverse sealed) ≡ true
  all_whole = subst (λ windows. list_all (is_window mapping) windows ≡ true) turned (reversed_whole (is_window mapping) all (parts_of_valid mapping hashes all windows_valid).whole)

  -- they tell the lists of the sealed windows
  told_older : TellLists mapping hashes names (reverse sealed)
  told_older = record {
    named = windows_of;
    among = λ hub other has. within (nat_lt hub k) other has;
    of_rows = own_names;
    apart = λ hub under. no_clash (nat_lt hub k) hub under;
    valid = valid;
    whole = sealed_whole;
  }
    where
      within : (b : Bool) (other : Window) → Contains (reverse sealed) other → Contains (if b then window ∷ reverse sealed else reverse sealed) other
      within true other has = Contains-cons_there window (reverse sealed) other has
      within false other has = has

      no_clash : (b : Bool) (hub : ℕ) → hub < length mapping.hubs → collision_in mapping hashes (reverse (if b then window ∷ reverse sealed else reverse sealed)) (Hub hub) ≡ None
      no_clash true hub under = all_apart hub under
      no_clash false hub under = sealed_apart hub under

  -- and those of all, where all hubs have their batches
  told_newer : length mapping.hubs ≤ k → TellLists mapping hashes names (window ∷ reverse sealed)
  told_newer many = record {
    named = λ hub. window ∷ reverse sealed;
    among = λ hub other has. has;
    of_rows = λ hub digest under. own_names hub digest under ∙ ap (λ b. key_with digest (appended (hub_batch mapping hashes hub) (if b then window ∷ reverse sealed else reverse sealed))) (lt-ltb hub k (omega (arith, under, many)));
    apart = all_apart;
    valid = valid;
    whole = all_whole;
  }

  -- ---- the tables

  abbrev HasClear : TableRows → Type 0
  HasClear entry = HasNoClash (compared_in mapping hashes names window entry)

  older_known : (parent : Parent) (refs : List Key) → is_known mapping parent (reverse sealed) refs ≡ true → is_known mapping parent (reverse all) refs ≡ true
  older_known parent refs known =
      let (other, member, offered) = some_passes (λ (w : Window). is_offered mapping parent w refs) (reverse sealed) known in
      subst (λ windows. is_known mapping parent windows refs ≡ true) (sym turned) (some_passes_at (λ (w : Window). is_offered mapping parent w refs) (window ∷ reverse sealed) other (Contains-cons_there window (reverse sealed) other member) offered)

  newer_known : (parent : Parent) (refs : List Key) → is_known mapping parent (window ∷ reverse sealed) refs ≡ true → is_known mapping parent (reverse all) refs ≡ true
  newer_known parent refs known = subst (λ windows. is_known mapping parent windows refs ≡ true) (sym turned) known

  -- a table after windows
  module _ (after : Backwards) (more : (parent : Parent) (refs : List Key) → is_known mapping parent after.windows refs ≡ true → is_known mapping parent (reverse all) refs ≡ true) where
    parent_clear : (parent : Parent) → Contains (parents mapping) parent → ((link : ℕ) → parent ≡ Link link → TellLists mapping hashes names after.windows) → HasClear (table_entry mapping hashes after (table_of parent))
    parent_clear (Hub hub) has told = hub_clear mapping hashes hub all after.windows window (free (Hub hub) has) there (more (Hub hub))
    parent_clear (Link link) has told = link_clear mapping hashes names link all after.windows window (free (Link link) has) there (more (Link link)) (told link refl)

    feed_clear : (id : TableId) → Contains (feed_tables 0 mapping.feeds) id → HasClear (table_entry mapping hashes after id)
    feed_clear = of_feeds (λ id. HasClear (table_entry mapping hashes after id)) 0 mapping.feeds (λ i n definition e got. record { sat = λ none. single_clear _; multi = single_clear _; status = single_clear _; effect = single_clear _ })

    table_clear : (id : TableId) → Contains (tables mapping) id → ((link : ℕ) → id ≡ ids.Link link → TellLists mapping hashes names after.windows) → HasClear (table_entry mapping hashes after id)
    table_clear id has told =
        elim (Contains-append_cases (map table_of (parents mapping)) (feed_tables 0 mapping.feeds) id (subst (λ (every : List TableId). Contains every id) (parents_first mapping) has)) [
          | inl parent ↦
              let (of, member, is) = map_member table_of (parents mapping) id parent in
              subst (λ (id : TableId). HasClear (table_entry mapping hashes after id)) is (parent_clear of member (λ link same. told link (sym is ∙ ap table_of same)))
          | inr feed ↦ feed_clear id feed
        ]

  -- a link that has its batch stands behind all hubs
  not_a_hub : (link : ℕ) → Contains (map (λ n. ids.Hub n) (range_with_len 0 (length mapping.hubs))) (ids.Link link) → ⊥
  not_a_hub link has =
      let (n, member, is) = map_member (λ n. ids.Hub n) (range_with_len 0 (length mapping.hubs)) (ids.Link link) has in
      no n is
    where
      no : (n : ℕ) → ids.Hub n ≡ ids.Link link → ⊥
      no n e = cc

  many_hubs : (id : TableId) (link : ℕ) → Contains (take k (tables mapping)) id → id ≡ ids.Link link → length mapping.hubs ≤ k
  many_hubs id link has same =
      let here = subst (λ some. Contains (take k some) (ids.Link link)) hubs_first (subst (λ id. Contains (take k (tables mapping)) id) same has) in
      let less = behind_first k (map (λ n. ids.Hub n) (range_with_len 0 (length mapping.hubs))) behind_hubs (ids.Link link) (not_a_hub link) here in
      omega (arith, less, length-map (range_with_len 0 (length mapping.hubs)) (λ n. ids.Hub n), length-range_with_len 0 (length mapping.hubs))

  pub partly_apart : All HasClear (partial mapping hashes sealed window k)
  partly_apart =
      All-append HasClear (map (table_entry mapping hashes newer) (take k (tables mapping))) (map (table_entry mapping hashes older) (drop k (tables mapping)))
      (all_from_members HasClear (map (table_entry mapping hashes newer) (take k (tables mapping))) (λ entry has.
      let (id, member, is) = map_member (table_entry mapping hashes newer) (take k (tables mapping)) entry has in
      subst HasClear is (table_clear newer newer_known id (of_first k (tables mapping) id member) (λ link same. told_newer (many_hubs id link member same)))))
      (all_from_members HasClear (map (table_entry mapping hashes older) (drop k (tables mapping))) (λ entry has.
      let (id, member, is) = map_member (table_entry mapping hashes older) (drop k (tables mapping)) entry has in
      subst HasClear is (table_clear older older_known id (of_rest k (tables mapping) id member) (λ link same. told_older))))
