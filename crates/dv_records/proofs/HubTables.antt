-- A hub table has a row for each key that the windows bring, and no other one.
use Rattle.dv_records.proofs.Vocabulary.{Bool, Contains, Delivery, Hashes, Hub, HubRow, IsApart, IsHubBatch, Key, List, Mapping, NRow, None, Some, Window, [], ap, appended, deliveries, false, feed_hubs, filtered_members, flat_map, flat_map_member, hub_batch, hub_row, is_known, is_missing}
use Rattle.dv_records.proofs.Vocabulary.{keys_at, list_all, made_of, map, map_member, not, offered_refs, offers, offers_of, only_key, option_map, refl, refs_from, rules, source, subst, sym, table_of, true, ℕ, ◌↔◌, ◌∙◌, ◌∷◌, ◌≡◌}
use Rattle.dv_records.proofs.Delivered.{delivery-offered}
use Rattle.dv_records.proofs.ParentTables as tables

pub the_only : (refs : List Key) (key : Key) → only_key refs ≡ Some key → refs ≡ key ∷ []
the_only refs key h1 = search (rules)

-- the refs of an offer that is made of a key
offer_of_key : (refs : List Key) (offer made : Delivery) (brought : List Key) (key : Key) → offer.refs ≡ refs → made ≡ offer → made.refs ≡ brought → key ∷ [] ≡ brought → refs ≡ key ∷ []
offer_of_key refs offer made brought key is same from single = sym is ∙ ap (λ (d : Delivery). d.refs) (sym same) ∙ from ∙ sym single

module _ (mapping : Mapping) (hub : ℕ) where
  -- a list that is offered to a hub is one key, and isn't missing
  pub offered_key : (window : Window) (refs : List Key) → Contains (offered_refs mapping (Hub hub) window) refs → (key : Key) × (refs ≡ key ∷ [])
  offered_key window refs has =
      let (offer, member, is) = map_member (λ (offer : Delivery). offer.refs) (offers mapping (Hub hub) window) refs has in
      let (within, kept) = (filtered_members (λ (offer : Delivery). not (list_all is_missing offer.refs)) (flat_map (offers_of mapping (Hub hub)) window.extracts) offer).0 member in
      let (staged, there, offered) = flat_map_member (offers_of mapping (Hub hub)) window.extracts offer within in
      let (brought, here, made) = map_member (λ refs. record { table = table_of (Hub hub); refs = refs; feed = staged.feed }) (refs_from mapping (Hub hub) staged) offer offered in
      let (row, row_in, keyed) = flat_map_member (λ (row : NRow). map (λ key. key ∷ []) (keys_at hub (feed_hubs mapping staged.feed) row.refs)) staged.rows brought here in
      let (key, key_in, single) = map_member (λ (key : Key). key ∷ []) (keys_at hub (feed_hubs mapping staged.feed) row.refs) brought keyed in
      (key, offer_of_key refs offer (record { table = table_of (Hub hub); refs = brought; feed = staged.feed }) brought key is made refl single)

  module _ (hashes : Hashes) where
    -- a row is of a list of one key
    abbrev IsRowOf : List Key → HubRow → Type 0
    IsRowOf refs row = (refs ≡ row.key ∷ []) × (row.digest ≡ hashes.hash refs)

    row_made : (older : List Window) (window : Window) (item : Delivery) (row : HubRow) → hub_row mapping hashes hub older window item ≡ Some row → IsRowOf item.refs row
    row_made older window item row gives = by (is_known mapping (Hub hub) older item.refs) refl
      where
        by : (known : Bool) → is_known mapping (Hub hub) older item.refs ≡ known → IsRowOf item.refs row
        by true e = let no : None ≡ Some row = rw e at gives in cc
        by false e =
            let (key, only, made) = made_of _ (only_key item.refs) row (rw e at gives) in
            (the_only item.refs key only ∙ ap (λ (r : HubRow). r.key ∷ []) made, ap (λ (r : HubRow). r.digest) (sym made))

    row_makes : (older : List Window) (window : Window) (item : Delivery) → Contains (deliveries mapping (Hub hub) window) item → is_known mapping (Hub hub) older item.refs ≡ false
        → (row : HubRow) × (hub_row mapping hashes hub older window item ≡ Some row)
    row_makes older window item has new =
        let (key, same) = offered_key window item.refs (delivery-offered mapping (Hub hub) window item has) in
        (record { digest = hashes.hash item.refs; load = window.load; source = source mapping item.feed; key = key }, made_here item key same new)
      where
        made_here : (item : Delivery) (key : Key) → item.refs ≡ key ∷ [] → is_known mapping (Hub hub) older item.refs ≡ false
            → hub_row mapping hashes hub older window item ≡ Some (record { digest = hashes.hash item.refs; load = window.load; source = source mapping item.feed; key = key })
        made_here item key refs new = rw new (ap (option_map (λ key. record { digest = hashes.hash item.refs; load = window.load; source = source mapping item.feed; key = key })) (ap only_key refs))

    pub hub_tied : (older : List Window) (window : Window) → IsApart hashes (offered_refs mapping (Hub hub) window) → (rows : List HubRow)
        → (rows ≡ hub_batch mapping hashes hub older window) ↔ IsHubBatch mapping hashes hub older window rows
    hub_tied = tables.tied mapping (Hub hub) hashes (λ (row : HubRow). row.digest) (hub_row mapping hashes hub) IsRowOf (λ refs row is. is.1) row_made row_makes

    -- each row is of a key that one of the windows brings
    pub table_row : (windows : List Window) (row : HubRow) → Contains (appended (hub_batch mapping hashes hub) windows) row → (is_known mapping (Hub hub) windows (row.key ∷ []) ≡ true) × (row.digest ≡ hashes.hash (row.key ∷ []))
    table_row windows row has =
        let (refs, known, is) = tables.table_row mapping (Hub hub) hashes (λ (row : HubRow). row.digest) (hub_row mapping hashes hub) IsRowOf (λ refs row is. is.1) row_made row_makes windows row has in
        (subst (λ refs. is_known mapping (Hub hub) windows refs ≡ true) is.0 known, is.1 ∙ ap hashes.hash is.0)

    -- and each such key has a row, where no two of them have one hash key
    pub table_has : (windows : List Window) → IsApart hashes (flat_map (offered_refs mapping (Hub hub)) windows) → (key : Key) → is_known mapping (Hub hub) windows (key ∷ []) ≡ true
        → (row : HubRow) × Contains (appended (hub_batch mapping hashes hub) windows) row × (row.key ≡ key) × (row.digest ≡ hashes.hash (key ∷ []))
    table_has windows apart key known =
        let (row, has, is) = tables.table_has mapping (Hub hub) hashes (λ (row : HubRow). row.digest) (hub_row mapping hashes hub) IsRowOf (λ refs row is. is.1) row_made row_makes windows apart (key ∷ []) known in
        let same : row.key ≡ key = cc (sym is.0) in
        (row, has, same, is.1)
