-- The content of a feed of keys alone is read back from its hub's table and its status table.
use Rattle.dv_laws.proofs.Vocabulary.{Bool, Contains, Contains-map, Extract, FeedDef, HasKeysAlone, Hashes, Hub, HubRow, HubTable, Hubs, IsApart, IsInLoadOrder, Key, List, Mapping, NRow, None, Parent, Some, Status, StatusRow, Statuses, Window, [], all_refs, ap, appended, backwards}
use Rattle.dv_laws.proofs.Vocabulary.{collision_free, collision_in, content, content_ascends, content_extract, delivered_refs, delivers, extract_of, filter, filter_map_member, filtered_members, flat_map_member, hashed_refs, history, history_member, hub_batch, hub_rows, is_known, is_offered}
use Rattle.dv_laws.proofs.Vocabulary.{key_at_first, key_offered, key_row, keys_at, known_apart, map, map_member, offers_apart, parent_hubs, present_at, present_keys, refs_eq, refs_eq-Decides, reverse, row_cmp-IsAntisymmetric, row_total, slice_get, some_passes, some_passes_at, sorted_by-members}
use Rattle.dv_laws.proofs.Vocabulary.{status_tells, subst, sym, table_after, table_has, table_row, true, ℕ, ◌∙◌, ◌∷◌, ◌≡◌}

-- the row of a key is that of the one key that it has
same_key_row : (row : NRow) (key other : Key) → row ≡ key_row key → row.refs ≡ other ∷ [] → row ≡ key_row other
same_key_row row key other is same = is ∙ ap (λ refs. record { refs = refs; sub = []; attrs = [] }) (ap (λ (row : NRow). row.refs) (sym is) ∙ same)

-- what is said of a hub row's digest is said of its key
said_of_key : (statuses : List StatusRow) (date : ℕ) (digest hash : List ℕ) (told : Bool) → digest ≡ hash → present_at statuses hash date ≡ told → present_at statuses digest date ≡ told
said_of_key statuses date digest hash told same says = ap (λ d. present_at statuses d date) same ∙ says

refs_of_key : (row : NRow) (key : Key) → row ≡ key_row key → refs_eq row.refs (key ∷ []) ≡ true
refs_of_key row key is = (refs_eq-Decides row.refs (key ∷ [])).1 (ap (λ (row : NRow). row.refs) is)

module _ (mapping : Mapping) (hashes : Hashes) (hub feed : ℕ) (definition : FeedDef) (sealed : List Window) (hubs : List HubRow) (statuses : List StatusRow)
    (at : slice_get mapping.feeds feed ≡ Some definition) (parent : definition.parent ≡ Hub hub) (hub_table : table_after mapping hashes (backwards sealed) (HubTable hub) ≡ Hubs hubs)
    (status_table : table_after mapping hashes (backwards sealed) (Status feed) ≡ Statuses statuses) (order : IsInLoadOrder sealed) (keys : HasKeysAlone feed sealed)
    (none : collision_in mapping hashes sealed (Hub hub) ≡ None) where
  all_apart : IsApart hashes (hashed_refs mapping sealed (Hub hub))
  all_apart = (collision_free mapping hashes sealed (Hub hub)).0 none

  apart : (a b : List Key) → is_known mapping (Hub hub) (reverse sealed) a ≡ true → is_known mapping (Hub hub) (reverse sealed) b ≡ true → hashes.hash a ≡ hashes.hash b → a ≡ b
  apart = known_apart mapping hashes sealed (Hub hub) all_apart

  -- a row of an extract of the feed is of a key that is known
  row_known : (extract : Extract) → Contains (history feed (reverse sealed)) extract → (row : NRow) → Contains extract.rows row → (key : Key) × (row ≡ key_row key) × (is_known mapping (Hub hub) (reverse sealed) (key ∷ []) ≡ true)
  row_known extract has row within =
      let (key, is, there) = keys.alone extract ((history_member feed sealed extract).0 has) row within in
      let (window, member, made) = filter_map_member (extract_of feed) (reverse sealed) extract has in
      let at_hub : Contains (keys_at hub (parent_hubs mapping definition.parent) row.refs) key =
      subst (λ (p : Parent). Contains (keys_at hub (parent_hubs mapping p) row.refs) key) (sym parent)
      (subst (λ refs. Contains (keys_at hub (hub ∷ []) refs) key) (ap (λ (row : NRow). row.refs) (sym is)) (key_at_first hub [] key [])) in
      (key, is, some_passes_at (λ window. is_offered mapping (Hub hub) window (key ∷ [])) (reverse sealed) window member (key_offered mapping feed window extract made definition at row within hub key at_hub there))

  -- each list that the feed delivers is known
  delivered_known : (refs : List Key) → Contains (delivered_refs feed sealed) refs → is_known mapping (Hub hub) (reverse sealed) refs ≡ true
  delivered_known refs has =
      let (extract, member, within) = flat_map_member (λ (extract : Extract). all_refs extract.rows) (history feed sealed) refs has in
      let (row, row_in, same) = map_member (λ (row : NRow). row.refs) extract.rows refs within in
      let (key, is, known) = row_known extract ((history_member feed sealed extract).1 member) row row_in in
      subst (λ refs. is_known mapping (Hub hub) (reverse sealed) refs ≡ true) (ap (λ (row : NRow). row.refs) (sym is) ∙ same) known

  -- the status table tells of each key that is known
  key_tells : (key : Key) → is_known mapping (Hub hub) (reverse sealed) (key ∷ []) ≡ true → (date : ℕ) → present_at statuses (hashes.hash (key ∷ [])) date ≡ delivers (content feed sealed date) (key ∷ [])
  key_tells key known =
      status_tells mapping hashes feed sealed statuses status_table order
      (λ a b a_in b_in. apart a b (delivered_known a a_in) (delivered_known b b_in)) (key ∷ [])
      (λ other has same. apart other (key ∷ []) (delivered_known other has) known same)

  the_hubs : hubs ≡ appended (hub_batch mapping hashes hub) (reverse sealed)
  the_hubs = sym (ap hub_rows hub_table)

  -- a row of the content is of a key that is known
  content_known : (date : ℕ) (row : NRow) → Contains (content feed sealed date) row → (key : Key) × (row ≡ key_row key) × (is_known mapping (Hub hub) (reverse sealed) (key ∷ []) ≡ true)
  content_known date row has = let (extract, member, within) = content_extract feed sealed date row has in row_known extract member row within

  -- a row of the content stands in the hub table, present
  there : (date : ℕ) (row : NRow) → Contains (content feed sealed date) row → Contains (map (λ (row : HubRow). key_row row.key) (filter (λ (row : HubRow). present_at statuses row.digest date) hubs)) row
  there date row has =
      let (key, is, known) = content_known date row has in
      let (hub_row, member, same, digest) = table_has mapping hub hashes (reverse sealed) (offers_apart mapping hashes sealed (Hub hub) all_apart) key known in
      let delivered : delivers (content feed sealed date) (key ∷ []) ≡ true = some_passes_at (λ (row : NRow). refs_eq row.refs (key ∷ [])) (content feed sealed date) row has (refs_of_key row key is) in
      let present : present_at statuses hub_row.digest date ≡ true = said_of_key statuses date hub_row.digest (hashes.hash (key ∷ [])) true digest (key_tells key known date ∙ delivered) in
      let in_hubs : Contains hubs hub_row = subst (λ (rows : List HubRow). Contains rows hub_row) (sym the_hubs) member in
      let kept = (filtered_members (λ (row : HubRow). present_at statuses row.digest date) hubs hub_row).1 (in_hubs, present) in
      subst (Contains (map (λ (row : HubRow). key_row row.key) (filter (λ (row : HubRow). present_at statuses row.digest date) hubs))) (ap key_row same ∙ sym is)
      (Contains-map (λ (row : HubRow). key_row row.key) (filter (λ (row : HubRow). present_at statuses row.digest date) hubs) hub_row kept)

  -- and a row that is present there is one of the content
  back : (date : ℕ) (row : NRow) → Contains (map (λ (row : HubRow). key_row row.key) (filter (λ (row : HubRow). present_at statuses row.digest date) hubs)) row → Contains (content feed sealed date) row
  back date row has =
      let (hub_row, member, same) = map_member (λ (row : HubRow). key_row row.key) (filter (λ (row : HubRow). present_at statuses row.digest date) hubs) row has in
      let (in_hubs, present) = (filtered_members (λ (row : HubRow). present_at statuses row.digest date) hubs hub_row).0 member in
      let (known, digest) = table_row mapping hub hashes (reverse sealed) hub_row (subst (λ (rows : List HubRow). Contains rows hub_row) the_hubs in_hubs) in
      let says : present_at statuses (hashes.hash (hub_row.key ∷ [])) date ≡ true = said_of_key statuses date (hashes.hash (hub_row.key ∷ [])) hub_row.digest true (sym digest) present in
      let delivered : delivers (content feed sealed date) (hub_row.key ∷ []) ≡ true = sym (key_tells hub_row.key known date) ∙ says in
      let (found, found_in, found_refs) = some_passes (λ (row : NRow). refs_eq row.refs (hub_row.key ∷ [])) (content feed sealed date) delivered in
      let (key, is, found_known) = content_known date found found_in in
      let whole : found ≡ key_row hub_row.key = same_key_row found key hub_row.key is ((refs_eq-Decides found.refs (hub_row.key ∷ [])).0 found_refs) in
      subst (Contains (content feed sealed date)) same (subst (Contains (content feed sealed date)) whole found_in)

  pub keys_tell : (date : ℕ) → present_keys hubs statuses date ≡ content feed sealed date
  keys_tell date =
      sym
      (sorted_by-members row_total row_cmp-IsAntisymmetric (map (λ (row : HubRow). key_row row.key) (filter (λ (row : HubRow). present_at statuses row.digest date) hubs)) (content feed sealed date)
      (content_ascends feed sealed date keys.ascending) (λ row. (there date row, back date row)))
