-- What a window of the mapping delivers to a hub or a link is what its table takes.
use Rattle.dv_vault.proofs.Vocabulary.{AreHubItems, AreLinkItems, Delivery, Hub, IsDelivered, IsHubItem, IsItem, Key, Link, List, Mapping, Window, [], and_from, and_parts, ap, are_keys_of, deliveries, deliveries-apart, eq-eqb, eqb-true, false, fit_hubs, fits_hub, is_window, key_parts, length}
use Rattle.dv_vault.proofs.Vocabulary.{parent_hubs, refl, suc, true, ℕ, ◌<◌, ◌∷◌, ◌≡◌}
use Rattle.dv_window_keys.proofs.WindowFacts.{delivered}

-- references that fit one hub are one key
record OneKey (mapping : Mapping) (hub : ℕ) (refs : List Key) : Type 0 where
  key : Key
  single : refs ≡ key ∷ []
  fits : fits_hub mapping hub key ≡ true

one_key : (mapping : Mapping) (hub : ℕ) (refs : List Key) → fit_hubs mapping (hub ∷ []) refs ≡ true → OneKey mapping hub refs
one_key mapping hub [] e = cc
one_key mapping hub (key ∷ []) e = record { key = key; single = refl; fits = (and_parts (fits_hub mapping hub key) true e).0 }
one_key mapping hub (key ∷ other ∷ refs) e = let absent : false ≡ true = (and_parts (fits_hub mapping hub key) false e).1 in cc

-- references that fit hubs are a key of each
keys_fit : (mapping : Mapping) (hubs : List ℕ) (refs : List Key) → fit_hubs mapping hubs refs ≡ true → are_keys_of mapping hubs refs ≡ true
keys_fit mapping [] [] e = refl
keys_fit mapping [] (key ∷ refs) e = let no : false ≡ true = e in cc
keys_fit mapping (hub ∷ hubs) [] e = let no : false ≡ true = e in cc
keys_fit mapping (hub ∷ hubs) (key ∷ refs) e =
    let (here, behind) = and_parts (fits_hub mapping hub key) (fit_hubs mapping hubs refs) e in
    let parts = key_parts mapping hub key here in
    let (as_many, rest) = and_parts _ _ (keys_fit mapping hubs refs behind) in
    and_from _ _ (eq-eqb (suc (length refs)) (suc (length hubs)) (ap suc (eqb-true (length refs) (length hubs) as_many)))
    (and_from _ _ (and_from _ _ (eq-eqb _ _ parts.shape) parts.short) rest)

module _ (mapping : Mapping) (window : Window) (is : is_window mapping window ≡ true) where
  hub_item : (hub : ℕ) (item : Delivery) → IsDelivered mapping window is (Hub hub) item → IsHubItem mapping hub item
  hub_item hub item has =
      let one = one_key mapping hub item.refs has.fits in
      let parts = key_parts mapping hub one.key one.fits in
      record { table = has.table; feed = has.feed; key = one.key; single = one.single; shape = parts.shape; short = parts.short }

  pub hub_items : (hub : ℕ) → hub < length mapping.hubs → AreHubItems mapping (deliveries mapping (Hub hub) window)
  hub_items hub declared = record {
    hub = hub;
    declared = declared;
    each = λ item has. hub_item hub item (delivered mapping window is (Hub hub) item has);
    apart = deliveries-apart mapping (Hub hub) window;
  }

  link_item : (link : ℕ) (item : Delivery) → IsDelivered mapping window is (Link link) item → IsItem mapping (Link link) item
  link_item link item has = record { table = has.table; feed = has.feed; keys = keys_fit mapping (parent_hubs mapping (Link link)) item.refs has.fits }

  pub link_items : (link : ℕ) → link < length mapping.links → AreLinkItems mapping (deliveries mapping (Link link) window)
  link_items link declared = record {
    link = link;
    declared = declared;
    each = λ item has. link_item link item (delivered mapping window is (Link link) item has);
    apart = deliveries-apart mapping (Link link) window;
  }
