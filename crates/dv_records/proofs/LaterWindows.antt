-- A window that is later than a date leaves the contents, the marts and the snapshot at it.
use Rattle.dv_records.proofs.Vocabulary.{Bridge, Bridges, Contains, Contains-cons_here, Contains-cons_there, Hashes, Hub, List, Mapping, Pit, Pits, Window, [], ap, append-nil, arith, bridge, bridge_cmp, bridge_row, common_steps, delivers, filter, filter-append, flat_map, history, hub_feeds}
use Rattle.dv_records.proofs.Vocabulary.{length, lt-leb, map, nat_le, nat_tests, newest_rows, offered_refs, path_mart, path_rows_by, pit, pit_cmp, range_with_len, refl, reverse, sat_load, slice_get, snap_head, snap_tables, snapshot, sorted_by, up_to, ℕ, ◌++◌, ◌<◌, ◌∷◌, ◌≡◌}

up_to-later : (feed : ℕ) (sealed : List Window) (next : Window) (date : ℕ) → date < next.load → up_to date (history feed (reverse (sealed ++ next ∷ []))) ≡ up_to date (history feed (reverse sealed))
up_to-later feed sealed next date later = grind (arith, common_steps, nat_tests)

windows-later : (sealed : List Window) (next : Window) (date : ℕ) → date < next.load → filter (λ window. nat_le window.load date) (sealed ++ next ∷ []) ≡ filter (λ window. nat_le window.load date) sealed
windows-later sealed next date later = rw (filter-append, lt-leb next.load date later) (append-nil _)

module _ (mapping : Mapping) (hashes : Hashes) (sealed : List Window) (next : Window) (date : ℕ) (later : date < next.load) where
  pub extracts_same : (feed : ℕ) → up_to date (history feed (reverse (sealed ++ next ∷ []))) ≡ up_to date (history feed (reverse sealed))
  extracts_same feed = up_to-later feed sealed next date later

  paths_same : (path : ℕ) → path_mart mapping (sealed ++ next ∷ []) path date ≡ path_mart mapping sealed path date
  paths_same path i = path_rows_by mapping (λ feed. newest_rows (extracts_same feed i)) (slice_get mapping.paths path)

  pits_same : (hub : ℕ) → pit mapping hashes (sealed ++ next ∷ []) hub date ≡ pit mapping hashes sealed hub date
  pits_same hub i =
      sorted_by pit_cmp
      (map
      (λ refs. record {
        key = hashes.hash refs;
        cells = map (λ feed. record { load = sat_load feed.1 (extracts_same feed.0 i) refs; present = delivers (newest_rows (extracts_same feed.0 i)) refs }) (hub_feeds mapping hub);
      })
      (flat_map (offered_refs mapping (Hub hub)) (windows-later sealed next date later i)))

  bridges_same : (path : ℕ) → bridge mapping hashes (sealed ++ next ∷ []) path date ≡ bridge mapping hashes sealed path date
  bridges_same path = ap (λ rows. sorted_by bridge_cmp (map (bridge_row hashes) rows)) (paths_same path)

  tables_same : snap_tables mapping hashes (sealed ++ next ∷ []) date ≡ snap_tables mapping hashes sealed date
  tables_same i =
      map (λ hub. record { id = Pit hub; rows = Pits (pits_same hub i) }) (range_with_len 0 (length mapping.hubs))
      ++ map (λ path. record { id = Bridge path; rows = Bridges (bridges_same path i) }) (range_with_len 0 (length mapping.paths))

  -- the snapshot at the date stays what it is
  pub snapshot_same : snapshot mapping hashes (sealed ++ next ∷ []) date ≡ snapshot mapping hashes sealed date
  snapshot_same = ap (λ tables. record { head = snap_head date tables; tables = tables }) tables_same

-- and so do several, each earlier than the window
pub snapshots_same : (mapping : Mapping) (hashes : Hashes) (sealed : List Window) (next : Window) (dates : List ℕ) → ((date : ℕ) → Contains dates date → date < next.load)
    → map (snapshot mapping hashes (sealed ++ next ∷ [])) dates ≡ map (snapshot mapping hashes sealed) dates
snapshots_same mapping hashes sealed next [] earlier = refl
snapshots_same mapping hashes sealed next (date ∷ dates) earlier =
    let first = snapshot_same mapping hashes sealed next date (earlier date (Contains-cons_here date dates)) in
    let rest = snapshots_same mapping hashes sealed next dates (λ other has. earlier other (Contains-cons_there date dates other has)) in
    λ i. first i ∷ rest i
