-- The rows of the tables of a snapshot have the form of their table, where the hash keys have the width.
use Rattle.dv_window.proofs.Vocabulary.{Bridge, BridgeRow, Bridges, Contains, Contains-cons_cases, Contains-nil, FeedDef, Hashes, Key, List, Mapping, NRow, None, Option, PathDef, PathRow, Pit, PitRow, Pits, SnapId, Some, State, Window, [], agrees, all_pass, all_refs, and_from, ap}
use Rattle.dv_window.proofs.Vocabulary.{are_windows_valid, arith, as_many, bridge, bridge_cmp, bridge_form, bridge_row, bridges_in, choices, content, content_extract, contents, each_hash, eq-eqb, feed_hubs, filtered_members, flat_map, flat_map_member, flawed_row, has_width, history_member}
use Rattle.dv_window.proofs.Vocabulary.{hub_count, hub_feeds, hubs_by, inl, inr, is_missing, is_sound_bridge, is_sound_pit, keys_up_to, length, length-append, length-map, list_all, list_any, map, map_member, member_before_sort, newest_rows, no_history, not, parent_hubs, path_rows_by, pit}
use Rattle.dv_window.proofs.Vocabulary.{pit_cmp, pit_form, pit_row, pits_in, refl, rows_valid, slice_get, subst, suc, sum_by-cons, sym, true, up_to, whole, whole_refs, ℕ, ◌∙◌, ◌∷◌, ◌≡◌}
use Rattle.dv_window.proofs.{StandingRows.table_rows, StoredPages.unflawed}

-- the path row of some steps
abbrev path_row : List (List Key) → PathRow
path_row steps = record { steps = steps }

module _ (mapping : Mapping) (hashes : Hashes) (sealed : List Window) (date : ℕ) where
  -- the reference lists of a feed's content that miss no reference
  abbrev lists : ℕ → List (List Key)
  lists feed = whole_refs (content feed sealed date)

  -- ---- the reference lists along a path

  module _ (windows_valid : are_windows_valid mapping hashes sealed ≡ true) where
    -- a feed that the mapping hasn't has no rows
    no_row : (feed : ℕ) → slice_get mapping.feeds feed ≡ None → (row : NRow) → Contains (content feed sealed date) row → ⊥
    no_row feed none row has = Contains-nil row (subst (λ extracts. Contains (newest_rows (up_to date extracts)) row) (no_history mapping hashes sealed windows_valid feed none) has)

    row_long : (feed : ℕ) (o : Option FeedDef) → slice_get mapping.feeds feed ≡ o → (row : NRow) → Contains (content feed sealed date) row → length row.refs ≡ length (hubs_by mapping o)
    row_long feed None at row has = absurd (no_row feed at row has)
    row_long feed (Some definition) at row has =
        let (extract, member, within) = content_extract feed sealed date row has in
        let rows = rows_valid mapping hashes sealed (whole mapping hashes sealed windows_valid) feed definition at extract ((history_member feed sealed extract).0 member) in
        as_many mapping (parent_hubs mapping definition.parent) row.refs (rows.forms row within).fits

    refs_long : (feed : ℕ) (refs : List Key) → Contains (lists feed) refs → length refs ≡ length (feed_hubs mapping feed)
    refs_long feed refs has =
        let (among, kept) = (filtered_members (λ refs. not (list_any is_missing refs)) (all_refs (content feed sealed date)) refs).0 has in
        let (row, row_in, same) = map_member (λ (row : NRow). row.refs) (content feed sealed date) refs among in
        ap length (sym same) ∙ row_long feed (slice_get mapping.feeds feed) refl row row_in

    steps_long : (feeds : List ℕ) (steps : List (List Key)) → Contains (choices (map lists feeds)) steps → (length steps ≡ length feeds) × (length (flat_map (each_hash hashes) steps) ≡ hub_count mapping feeds)
    steps_long [] steps has = elim (Contains-cons_cases [] [] steps has) [ inl same ↦ (ap length (sym same), ap (λ steps. length (flat_map (each_hash hashes) steps)) (sym same)) | inr none ↦ Contains-nil steps none ]
    steps_long (feed ∷ feeds) steps has =
        let (refs, refs_in, within) = flat_map_member (λ refs. map (λ chosen. refs ∷ chosen) (choices (map lists feeds))) (lists feed) steps has in
        let (chosen, chosen_in, same) = map_member (λ chosen. refs ∷ chosen) (choices (map lists feeds)) steps within in
        let (links, hubs) = steps_long feeds chosen chosen_in in
        let both = length-append (each_hash hashes refs) (flat_map (each_hash hashes) chosen) in
        let one = length-map refs (λ (key : Key). hashes.hash (key ∷ [])) in
        let sum = sum_by-cons (λ feed. length (feed_hubs mapping feed)) feed feeds in (
          ap length (sym same) ∙ ap suc links,
          ap (λ steps. length (flat_map (each_hash hashes) steps)) (sym same) ∙ omega (arith, both, one, sum, hubs, refs_long feed refs refs_in),
        )

  -- ---- the hash keys of a bridge row

  module _ (width : ℕ) (wide : (refs : List Key) → length (hashes.hash refs) ≡ width) where
    has_its_width : (digest : List ℕ) (refs : List Key) → hashes.hash refs ≡ digest → has_width width digest ≡ true
    has_its_width digest refs same = eq-eqb (length digest) width (ap length (sym same) ∙ wide refs)

    links_wide : (steps : List (List Key)) → list_all (has_width width) (map hashes.hash steps) ≡ true
    links_wide steps = all_pass (has_width width) (map hashes.hash steps) (λ digest has. let (refs, refs_in, same) = map_member hashes.hash steps digest has in has_its_width digest refs same)

    hubs_wide : (steps : List (List Key)) → list_all (has_width width) (flat_map (each_hash hashes) steps) ≡ true
    hubs_wide steps = all_pass (has_width width) (flat_map (each_hash hashes) steps) (λ digest has.
        let (refs, refs_in, within) = flat_map_member (each_hash hashes) steps digest has in
        let (key, key_in, same) = map_member (λ (key : Key). hashes.hash (key ∷ [])) refs digest within in
        has_its_width digest (key ∷ []) same)

    -- ---- tables

    pits_sound : (hub : ℕ) → list_all (is_sound_pit (pit_form mapping width hub)) (pit mapping hashes sealed hub date) ≡ true
    pits_sound hub = all_pass (is_sound_pit (pit_form mapping width hub)) (pit mapping hashes sealed hub date) each
      where
        each : (row : PitRow) → Contains (pit mapping hashes sealed hub date) row → is_sound_pit (pit_form mapping width hub) row ≡ true
        each row has =
            let (refs, within, is) = map_member (pit_row mapping hashes sealed hub date) (keys_up_to mapping sealed hub date) row (member_before_sort pit_cmp _ row has) in
            let cells : length row.cells ≡ length (hub_feeds mapping hub) = ap (λ (r : PitRow). length r.cells) (sym is) ∙ length-map (hub_feeds mapping hub) _ in
            and_from _ _ (eq-eqb (length row.cells) (length (hub_feeds mapping hub)) cells) (has_its_width row.key refs (ap (λ (r : PitRow). r.key) is))

    module _ (windows_valid : are_windows_valid mapping hashes sealed ≡ true) where
      row_sound : (o : Option PathDef) (row : PathRow) → Contains (path_rows_by mapping (contents sealed date) o) row → is_sound_bridge (bridge_form mapping width o) (bridge_row hashes row) ≡ true
      row_sound None row has = Contains-nil row has
      row_sound (Some path) row has =
          let (steps, steps_in, is) = map_member path_row _ row has in
          let (chosen, agreed) = (filtered_members (agrees mapping path.feeds path.via) (choices (map lists path.feeds)) steps).0 (member_before_sort _ _ steps steps_in) in
          let same : steps ≡ row.steps = ap (λ (r : PathRow). r.steps) is in
          let (links, hubs) = steps_long windows_valid path.feeds steps chosen in
          let as_many_links : length (map hashes.hash row.steps) ≡ length path.feeds = length-map row.steps hashes.hash ∙ ap length (sym same) ∙ links in
          let as_many_hubs : length (flat_map (each_hash hashes) row.steps) ≡ hub_count mapping path.feeds = ap (λ steps. length (flat_map (each_hash hashes) steps)) (sym same) ∙ hubs in
          and_from _ _ (and_from _ _ (and_from _ _
          (eq-eqb (length (map hashes.hash row.steps)) (length path.feeds) as_many_links)
          (eq-eqb (length (flat_map (each_hash hashes) row.steps)) (hub_count mapping path.feeds) as_many_hubs))
          (links_wide row.steps)) (hubs_wide row.steps)

      bridges_sound : (path : ℕ) → list_all (is_sound_bridge (bridge_form mapping width (slice_get mapping.paths path))) (bridge mapping hashes sealed path date) ≡ true
      bridges_sound path = all_pass (is_sound_bridge (bridge_form mapping width (slice_get mapping.paths path))) (bridge mapping hashes sealed path date) each
        where
          each : (row : BridgeRow) → Contains (bridge mapping hashes sealed path date) row → is_sound_bridge (bridge_form mapping width (slice_get mapping.paths path)) row ≡ true
          each row has =
              let (along, along_in, is) = map_member (bridge_row hashes) (path_rows_by mapping (contents sealed date) (slice_get mapping.paths path)) row (member_before_sort bridge_cmp _ row has) in
              ap (is_sound_bridge (bridge_form mapping width (slice_get mapping.paths path))) (sym is) ∙ row_sound (slice_get mapping.paths path) along along_in

-- no row of a table of a state's snapshot is flawed
pub unflawed_rows : (mapping : Mapping) (hashes : Hashes) (state : State) (date width : ℕ) → ((refs : List Key) → length (hashes.hash refs) ≡ width) → are_windows_valid mapping hashes state.sealed ≡ true
    → (id : SnapId) → flawed_row mapping width id (table_rows mapping hashes state date id) ≡ None
unflawed_rows mapping hashes state date width wide valid (Pit hub) =
    unflawed pits_in (is_sound_pit (pit_form mapping width hub)) (Pits (pit mapping hashes state.sealed hub date)) (pit mapping hashes state.sealed hub date) refl
    (pits_sound mapping hashes state.sealed date width wide hub)
unflawed_rows mapping hashes state date width wide valid (Bridge path) =
    unflawed bridges_in (is_sound_bridge (bridge_form mapping width (slice_get mapping.paths path))) (Bridges (bridge mapping hashes state.sealed path date)) (bridge mapping hashes state.sealed path date) refl
    (bridges_sound mapping hashes state.sealed date width wide valid path)
