-- The point-in-time table that the vault's tables say is that of the sealed windows.
use Rattle.dv_pit.proofs.Vocabulary.{Bool, Contains, Contains-cons_cases, Contains-cons_here, Contains-cons_there, Contains-flat_map, Contains-map, Contains-nil, Delivery, FeedDef, HasOneRowEach, HasOneRowPerSub, Hashes, Hub, HubRow, IsApart, Key, Link, List, Mapping, MultiRow, Multis, None}
use Rattle.dv_pit.proofs.Vocabulary.{Option, Parent, SatRow, Sats, Some, Statuses, TableRows, Window, [], all_valid_at, ap, appended, are_windows_valid, arith, ascending-sorted_by, cell_read, changed_at, content, delivered_known, delivered_refs, deliveries, delivers, digest_cmp, enumerate_from}
use Rattle.dv_pit.proofs.Vocabulary.{eqb-true, false, feed_apart, filter, filtered_members, flat_map, flat_map_member, hashed_refs, history, hub_apart, hub_batch, hub_cmp, hub_feeds, hub_row, hub_rows_in, inl, inr, is_fed_by, is_known, is_offered, is_offered-member, is_valid, keys_up_to}
use Rattle.dv_pit.proofs.Vocabulary.{known_apart, known_keys, length, load_order, made_in_batch, made_of, map, map_member, member_after_sort, member_before_sort, multi_rows_in, nat_le, nat_list_cmp_total, newest_first, nil_from_length, offered_key, offered_member, offered_refs, offers_apart}
use Rattle.dv_pit.proofs.Vocabulary.{only_key, option_map, parent_eq, pit, pit_cell, pit_cmp, pit_read, pit_row, present_at, refl, reverse, reverse_member, row_read, rows_of_extract, sat_rows_in, slice_get, some_passes, some_passes_at, sorted_by, sorted_by-map, sorted_by-members, status_rows_in}
use Rattle.dv_pit.proofs.Vocabulary.{status_tells, subst, suc, sym, table_has, table_row, text_cmp-IsAntisymmetric, true, up_to, valid_at, vault, vault_hub, vault_multi, vault_sat, vault_status, whole, ℕ, ◌+◌, ◌<◌, ◌==◌, ◌↔◌, ◌∙◌, ◌∷◌, ◌≡◌}
use Rattle.dv_pit.proofs.{CellLoads.multi_cells, CellLoads.sat_cells, UpTo.rows_up_to}

-- ---- lists

-- what is made alike of each item is alike
pub map_alike : {X Y : Type 0} (f g : X → Y) (xs : List X) → ((x : X) → Contains xs x → f x ≡ g x) → map f xs ≡ map g xs
map_alike f g [] same = refl
map_alike f g (x ∷ xs) same =
    let first = same x (Contains-cons_here x xs) in
    let rest = map_alike f g xs (λ y has. same y (Contains-cons_there x xs y has)) in
    λ i. first i ∷ rest i

map_twice : {X Y Z : Type 0} (f : Y → Z) (g : X → Y) (xs : List X) → map (λ x. f (g x)) xs ≡ map f (map g xs)
map_twice f g [] = refl
map_twice f g (x ∷ xs) = ap (λ rest. f (g x) ∷ rest) (map_twice f g xs)

-- lists with the same members are one when they are sorted
sorted_alike : (a b : List (List ℕ)) → ((x : List ℕ) → Contains a x → Contains b x) → ((x : List ℕ) → Contains b x → Contains a x) → sorted_by digest_cmp a ≡ sorted_by digest_cmp b
sorted_alike a b there back =
    sorted_by-members nat_list_cmp_total text_cmp-IsAntisymmetric b (sorted_by digest_cmp a) (ascending-sorted_by digest_cmp nat_list_cmp_total a)
    (λ x. (λ has. there x (member_before_sort digest_cmp a x has), λ has. member_after_sort digest_cmp a x (λ y member e. text_cmp-IsAntisymmetric y x e) (back x has)))

-- the place of a feed
placed : (k : ℕ) (feeds : List FeedDef) (feed : ℕ × FeedDef) → Contains (enumerate_from k feeds) feed → (i : ℕ) × (feed.0 ≡ k + i) × (slice_get feeds i ≡ Some feed.1)
placed k [] feed has = Contains-nil feed has
placed k (first ∷ feeds) feed has =
    elim (Contains-cons_cases (k, first) (enumerate_from (k + 1) feeds) feed has) [
      | inl here ↦ (0, ap (λ (f : ℕ × FeedDef). f.0) (sym here) ∙ omega arith, ap (λ (f : ℕ × FeedDef). Some f.1) here)
      | inr later ↦ let (i, place, at) = placed (k + 1) feeds feed later in (suc i, place ∙ omega arith, at)
    ]

same_parent : (hub : ℕ) (parent : Parent) → parent_eq (Hub hub) parent ≡ true → parent ≡ Hub hub
same_parent hub (Hub other) e = ap Hub (sym (eqb-true hub other e))
same_parent hub (Link other) e = let no : false ≡ true = e in cc

-- a feed of a hub
feed_of_hub : (mapping : Mapping) (hub : ℕ) (feed : ℕ × FeedDef) → Contains (hub_feeds mapping hub) feed → (slice_get mapping.feeds feed.0 ≡ Some feed.1) × (feed.1.parent ≡ Hub hub)
feed_of_hub mapping hub feed has =
    let (within, fed) = (filtered_members (λ (feed : ℕ × FeedDef). is_fed_by (Hub hub) (Some feed.1)) (enumerate_from 0 mapping.feeds) feed).0 has in
    let (i, place, at) = placed 0 mapping.feeds feed within in
    let here : feed.0 ≡ i = place ∙ omega arith in
    (ap (slice_get mapping.feeds) here ∙ at, same_parent hub feed.1.parent fed)

-- rows of a hub's batch have the window's load date
hub_stamped : (mapping : Mapping) (hashes : Hashes) (hub : ℕ) (older : List Window) (newest : Window) (row : HubRow) → Contains (hub_batch mapping hashes hub older newest) row → row.load ≡ newest.load
hub_stamped mapping hashes hub older newest row has =
    let (item, member, gives) = made_in_batch hub_cmp (hub_row mapping hashes hub older newest) (deliveries mapping (Hub hub) newest) row has in
    dated item gives
  where
    dated : (item : Delivery) → hub_row mapping hashes hub older newest item ≡ Some row → row.load ≡ newest.load
    dated item gives = by (is_known mapping (Hub hub) older item.refs) refl
      where
        by : (known : Bool) → is_known mapping (Hub hub) older item.refs ≡ known → row.load ≡ newest.load
        by true e = let no : None ≡ Some row = rw e at gives in cc
        by false e =
            let (key, only, made) = made_of _ (only_key item.refs) row (rw e at gives) in
            ap (λ (r : HubRow). r.load) (sym made)

-- what is there exactly where an item with it is there is that of the first item
first_load : (rows : List MultiRow) (told : Option ℕ) → ((load : ℕ) → (told ≡ Some load) ↔ ((row : MultiRow) × Contains rows row × (row.load ≡ load))) → option_map (λ (row : MultiRow). row.load) (slice_get rows 0) ≡ told
first_load [] None law = refl
first_load [] (Some load) law = let (row, has, is) = (law load).0 refl in Contains-nil row has
first_load (row ∷ rows) told law = sym ((law row.load).1 (row, Contains-cons_here row rows, refl))

-- ---- the theorem

module _ (mapping : Mapping) (hashes : Hashes) (sealed : List Window) (hub date : ℕ) (valid : is_valid mapping ≡ true) (windows_valid : are_windows_valid mapping hashes sealed ≡ true) (under : hub < length mapping.hubs) where
  abbrev tables : List TableRows
  tables = vault mapping hashes sealed

  abbrev early : Window → Bool
  early window = nat_le window.load date

  -- the windows up to the date, the newest first
  abbrev reached : List Window
  reached = filter early (reverse sealed)

  abbrev offered : Window → List (List Key)
  offered = offered_refs mapping (Hub hub)

  abbrev early_rows : List HubRow
  early_rows = filter (λ (row : HubRow). nat_le row.load date) (hub_rows_in hub tables)

  abbrev keys : List (List Key)
  keys = keys_up_to mapping sealed hub date

  apart : IsApart hashes (hashed_refs mapping sealed (Hub hub))
  apart = hub_apart mapping hashes sealed windows_valid hub under

  -- ---- the keys

  the_rows : early_rows ≡ appended (hub_batch mapping hashes hub) reached
  the_rows =
      ap (filter (λ (row : HubRow). nat_le row.load date)) (vault_hub mapping hashes sealed hub under)
      ∙ rows_up_to (λ (window : Window). window.load) (λ (row : HubRow). row.load) (hub_batch mapping hashes hub) (hub_stamped mapping hashes hub) date (reverse sealed)
      (newest_first (λ (window : Window). window.load) sealed (load_order mapping hashes sealed windows_valid))

  widened : (refs : List Key) → Contains (flat_map offered reached) refs → Contains (flat_map offered (reverse sealed)) refs
  widened refs has =
      let (window, member, within) = flat_map_member offered reached refs has in
      Contains-flat_map offered (reverse sealed) window refs ((filtered_members early (reverse sealed) window).0 member).0 within

  reached_apart : IsApart hashes (flat_map offered reached)
  reached_apart a b a_in b_in = offers_apart mapping hashes sealed (Hub hub) apart a b (widened a a_in) (widened b b_in)

  there : (digest : List ℕ) → Contains (map (λ (row : HubRow). row.digest) early_rows) digest → Contains (map hashes.hash keys) digest
  there digest has =
      let (row, member, is) = map_member (λ (row : HubRow). row.digest) early_rows digest has in
      let (known, hashed) = table_row mapping hub hashes reached row (subst (λ (rows : List HubRow). Contains rows row) the_rows member) in
      let (window, w_in, brings) = some_passes (λ window. is_offered mapping (Hub hub) window (row.key ∷ [])) reached known in
      let (turned, is_early) = (filtered_members early (reverse sealed) window).0 w_in in
      let in_time : Contains (filter early sealed) window = (filtered_members early sealed window).1 ((reverse_member sealed window).0 turned, is_early) in
      let key_in : Contains keys (row.key ∷ []) = Contains-flat_map offered (filter early sealed) window (row.key ∷ []) in_time (offered_member mapping (Hub hub) window (row.key ∷ []) brings) in
      subst (Contains (map hashes.hash keys)) (sym hashed ∙ is) (Contains-map hashes.hash keys (row.key ∷ []) key_in)

  -- a key that windows up to the date bring is one key, which they are known to bring
  key_known : (refs : List Key) → Contains keys refs → (key : Key) × (refs ≡ key ∷ []) × (is_known mapping (Hub hub) reached (key ∷ []) ≡ true)
  key_known refs has =
      let (window, w_in, within) = flat_map_member offered (filter early sealed) refs has in
      let (key, single) = offered_key mapping hub window refs within in
      let (sealed_in, is_early) = (filtered_members early sealed window).0 w_in in
      let turned : Contains reached window = (filtered_members early (reverse sealed) window).1 ((reverse_member sealed window).1 sealed_in, is_early) in
      let brings : is_offered mapping (Hub hub) window (key ∷ []) ≡ true = subst (λ refs. is_offered mapping (Hub hub) window refs ≡ true) single (is_offered-member mapping (Hub hub) window refs within) in
      (key, single, some_passes_at (λ window. is_offered mapping (Hub hub) window (key ∷ [])) reached window turned brings)

  back : (digest : List ℕ) → Contains (map hashes.hash keys) digest → Contains (map (λ (row : HubRow). row.digest) early_rows) digest
  back digest has =
      let (refs, member, is) = map_member hashes.hash keys digest has in
      let (key, single, known) = key_known refs member in
      let (row, row_in, of, hashed) = table_has mapping hub hashes reached reached_apart key known in
      subst (Contains (map (λ (row : HubRow). row.digest) early_rows)) (hashed ∙ ap hashes.hash (sym single) ∙ is)
      (Contains-map (λ (row : HubRow). row.digest) early_rows row (subst (λ (rows : List HubRow). Contains rows row) (sym the_rows) row_in))

  keys_told : known_keys (hub_rows_in hub tables) date ≡ sorted_by digest_cmp (map hashes.hash keys)
  keys_told = sorted_alike (map (λ (row : HubRow). row.digest) early_rows) (map hashes.hash keys) there back

  -- ---- the cells of a key

  module _ (refs : List Key) (refs_in : Contains keys refs) where
    known : is_known mapping (Hub hub) (reverse sealed) refs ≡ true
    known =
        let (window, w_in, within) = flat_map_member offered (filter early sealed) refs refs_in in
        some_passes_at (λ window. is_offered mapping (Hub hub) window refs) (reverse sealed) window ((reverse_member sealed window).1 ((filtered_members early sealed window).0 w_in).0) (is_offered-member mapping (Hub hub) window refs within)

    module _ (feed : ℕ) (definition : FeedDef) (at : slice_get mapping.feeds feed ≡ Some definition) (parent : definition.parent ≡ Hub hub) where
      own : (other : List Key) → Contains (delivered_refs feed sealed) other → hashes.hash other ≡ hashes.hash refs → other ≡ refs
      own other has same =
          let brought = delivered_known mapping hashes sealed (whole mapping hashes sealed windows_valid) feed definition at other has in
          known_apart mapping hashes sealed (Hub hub) apart other refs (subst (λ (p : Parent). is_known mapping p (reverse sealed) other ≡ true) parent brought) known same

      lists_apart : IsApart hashes (delivered_refs feed sealed)
      lists_apart = feed_apart mapping hashes sealed feed definition valid windows_valid at

      present : present_at (status_rows_in feed tables) (hashes.hash refs) date ≡ delivers (content feed sealed date) refs
      present =
          status_tells mapping hashes feed sealed (status_rows_in feed tables) (ap Statuses (sym (vault_status mapping hashes sealed feed definition at))) (load_order mapping hashes sealed windows_valid) lists_apart refs own date

      single : HasOneRowPerSub feed sealed
      single extract has = (rows_of_extract mapping hashes sealed feed definition valid windows_valid at extract has).single

      no_sub : definition.sub ≡ [] → HasOneRowEach feed sealed
      no_sub none extract has a b a_in b_in same =
          let rows = rows_of_extract mapping hashes sealed feed definition valid windows_valid at extract has in
          rows.single a b a_in b_in same (nil_from_length a.sub ((rows.forms a a_in).subs ∙ ap length none) ∙ sym (nil_from_length b.sub ((rows.forms b b_in).subs ∙ ap length none)))

      plain_load : definition.sub ≡ [] → (length definition.attrs == 0) ≡ false → option_map (λ (row : SatRow). row.load) (valid_at (sat_rows_in feed tables) (hashes.hash refs) date) ≡ changed_at (up_to date (history feed (reverse sealed))) refs
      plain_load none some =
          sat_cells mapping hashes feed sealed (sat_rows_in feed tables) (ap Sats (sym (vault_sat mapping hashes sealed feed definition at none some))) (load_order mapping hashes sealed windows_valid) (no_sub none) lists_apart refs own date

      multi_load : (length definition.sub == 0) ≡ false → (length definition.attrs == 0) ≡ false
          → option_map (λ (row : MultiRow). row.load) (slice_get (all_valid_at (multi_rows_in feed tables) (hashes.hash refs) date) 0) ≡ changed_at (up_to date (history feed (reverse sealed))) refs
      multi_load some_sub some =
          first_load (all_valid_at (multi_rows_in feed tables) (hashes.hash refs) date) (changed_at (up_to date (history feed (reverse sealed))) refs)
          (multi_cells mapping hashes feed sealed (multi_rows_in feed tables) (ap Multis (sym (vault_multi mapping hashes sealed feed definition at some_sub some))) (load_order mapping hashes sealed windows_valid) single lists_apart refs own date)

      cell_told : cell_read tables date (hashes.hash refs) (feed, definition) ≡ pit_cell sealed date refs (feed, definition)
      cell_told = by (length definition.attrs == 0) (length definition.sub == 0) refl refl
        where
          by : (bare plain : Bool) → (length definition.attrs == 0) ≡ bare → (length definition.sub == 0) ≡ plain → cell_read tables date (hashes.hash refs) (feed, definition) ≡ pit_cell sealed date refs (feed, definition)
          by true plain none e = rw none (λ i. record { load = None; present = present i })
          by false true some none = let load = plain_load (nil_from_length definition.sub (eqb-true (length definition.sub) 0 none)) some in rw (some, none) (λ i. record { load = load i; present = present i })
          by false false some some_sub = let load = multi_load some_sub some in rw (some, some_sub) (λ i. record { load = load i; present = present i })

    row_told : row_read mapping tables hub date (hashes.hash refs) ≡ pit_row mapping hashes sealed hub date refs
    row_told =
        ap (λ cells. record { key = hashes.hash refs; cells = cells })
        (map_alike (cell_read tables date (hashes.hash refs)) (pit_cell sealed date refs) (hub_feeds mapping hub) (λ feed has.
        let (at, parent) = feed_of_hub mapping hub feed has in cell_told feed.0 feed.1 at parent))

  -- ---- the table

  pub pit_tells : pit_read mapping (vault mapping hashes sealed) hub date ≡ pit mapping hashes sealed hub date
  pit_tells =
      ap (map (row_read mapping tables hub date)) keys_told
      ∙ sym (sorted_by-map pit_cmp (row_read mapping tables hub date) (map hashes.hash keys))
      ∙ ap (sorted_by pit_cmp) (sym (map_twice (row_read mapping tables hub date) hashes.hash keys) ∙ map_alike (λ refs. row_read mapping tables hub date (hashes.hash refs)) (pit_row mapping hashes sealed hub date) keys row_told)
