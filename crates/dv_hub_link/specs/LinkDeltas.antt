-- The rows that a window adds to a link, told from the rows of its table, the deliveries of the window, and the keys that
-- the hubs name.
use Rattle.std.specs.Prelude.{◌≡◌, ◌<◌, ℕ, true, List, ◌∷◌, ◌++◌, Option, Some, None, Result, Contains, find, length, reverse}
use Rattle.std.specs.List.{list_all}
use Rattle.std.specs.Option.{option_map}
use Rattle.std.specs.Str.{bytes_eq}
use Rattle.dv_text.specs.declared.rows.Key.{Key}
use Rattle.dv_text.specs.declared.rows.Window.{Window}
use Rattle.dv_text.specs.Keys.{Hashes}
use Rattle.dv_catalog.specs.declared.entries.Parent.TheVariants.{Hub, Link}
use Rattle.dv_catalog.specs.Entries.{Mapping}
use Rattle.dv_catalog.specs.Mappings.{is_valid}
use Rattle.dv_records.specs.declared.deliveries.Delivery.{Delivery}
use Rattle.dv_records.specs.declared.deliveries.DeltaFault.{DeltaFault}
use Rattle.dv_records.specs.declared.raw_rows.HubRow.{HubRow}
use Rattle.dv_records.specs.declared.raw_rows.LinkRow.{LinkRow}
use Rattle.dv_records.specs.Batches.{appended}
use Rattle.dv_records.specs.Collisions.{collision_in}
use Rattle.dv_records.specs.Deliveries.{deliveries}
use Rattle.dv_records.specs.Deltas.{Answers, Hashed, brought}
use Rattle.dv_records.specs.History.{IsInLoadOrder}
use Rattle.dv_records.specs.HubNames.{HubName, key_named}
use Rattle.dv_records.specs.Hubs.{hub_batch, link_batch}
use Rattle.dv_records.specs.LinkPlaces.{link_place}
use Rattle.dv_records.specs.States.{is_window}
use Rattle.dv_hub_link.specs.Items.{IsItem}
use Rattle.dv_hub_link.specs.LinkLists.{hubs_of, stored}
use Rattle.dv_hub_link.specs.KeyDeltas.{delta}
use Rattle.dv_hub_link.specs.NewRows.{link_row}

-- deliveries to one link of the mapping, of a key of each of its hubs, no two of one reference list
pub record AreLinkItems (mapping : Mapping) (items : List Delivery) : Type 0 where
  pub link : ℕ
  pub declared : link < length mapping.links
  pub each : (item : Delivery) → Contains items item → IsItem mapping (Link link) item
  pub apart : (a b : Delivery) → Contains items a → Contains items b → a.refs ≡ b.refs → a ≡ b

-- the rows that deliveries under a load date add to a link's rows, by hash key: of each delivered reference list that is
-- not all missing, and whose hash key the table has not
abbrev pub link_delta : Mapping → Hashes → ℕ → List LinkRow → List Delivery → List LinkRow
link_delta mapping hashes load rows items = delta link_place (λ list. Some (link_row mapping hashes load list)) hashes rows items

-- all reference lists with their hash keys: that of missing keys and those of deliveries, and those of a link's rows
abbrev pub link_hashed : Mapping → Hashes → List HubName → List LinkRow → List Delivery → List Hashed
link_hashed mapping hashes names rows items = brought mapping hashes items ++ stored mapping names (hubs_of mapping items) rows

-- the key of the hub row with a digest
abbrev pub key_with : List ℕ → List HubRow → Option Key
key_with digest rows = option_map (λ row. row.key) (find (λ row. bytes_eq row.digest digest) rows)

-- the names of hubs tell the reference lists of windows of a valid mapping: those of each hub are those of its rows after
-- windows of which these are some, and which don't collide in it
pub record TellLists (mapping : Mapping) (hashes : Hashes) (names : List HubName) (windows : List Window) : Type 0 where
  pub named : ℕ → List Window
  pub among : (hub : ℕ) (window : Window) → Contains windows window → Contains (named hub) window
  pub of_rows : (hub : ℕ) (digest : List ℕ) → hub < length mapping.hubs → key_named hub digest names ≡ key_with digest (appended (hub_batch mapping hashes hub) (named hub))
  pub apart : (hub : ℕ) → hub < length mapping.hubs → collision_in mapping hashes (reverse (named hub)) (Hub hub) ≡ None
  pub valid : is_valid mapping ≡ true
  pub whole : list_all (is_window mapping) windows ≡ true

-- a link's rows are those of windows without a collision in the link, and the deliveries are those of a later window
pub record IsNext (mapping : Mapping) (hashes : Hashes) (names : List HubName) (link : ℕ) (older : List Window) (window : Window) (rows : List LinkRow) (load : ℕ) (items : List Delivery) : Type 0 where
  pub in_order : IsInLoadOrder (reverse (window ∷ older))
  pub apart : collision_in mapping hashes (reverse older) (Link link) ≡ None
  pub told : TellLists mapping hashes names older
  pub table : rows ≡ appended (link_batch mapping hashes link) older
  pub loaded : load ≡ window.load
  pub offered : items ≡ deliveries mapping (Link link) window

-- over a link's rows, the deliveries of a later window are answered by the window's batch, or by the collision in the link
abbrev pub AnswersBatch : Mapping → Hashes → List HubName → List LinkRow → ℕ → List Delivery → Result (List LinkRow) DeltaFault → Type 0
AnswersBatch mapping hashes names rows load items result =
    (link : ℕ) (older : List Window) (window : Window) → IsNext mapping hashes names link older window rows load items
    → Answers result (collision_in mapping hashes (reverse (window ∷ older)) (Link link)) (link_batch mapping hashes link older window)

-- a link's rows hold the batch of the window that the deliveries are of, and no window collides in the link
pub record IsHeld (mapping : Mapping) (hashes : Hashes) (names : List HubName) (link : ℕ) (older : List Window) (window : Window) (rows : List LinkRow) (items : List Delivery) : Type 0 where
  pub apart : collision_in mapping hashes (reverse (window ∷ older)) (Link link) ≡ None
  pub told : TellLists mapping hashes names (window ∷ older)
  pub table : rows ≡ appended (link_batch mapping hashes link) (window ∷ older)
  pub offered : items ≡ deliveries mapping (Link link) window
