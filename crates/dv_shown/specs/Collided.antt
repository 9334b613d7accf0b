-- Keys and reference lists with one hash key.
use Rattle.std.specs.Prelude.{◌≡◌, List, [], ◌∷◌, Option, Some, None, codes}
use Rattle.std.specs.declared.cmp.Ordering.TheVariants.{Less, Greater}
use Rattle.dv_text.specs.declared.rows.Key.{Key}
use Rattle.dv_catalog.specs.declared.tables.TableId.{TableId}
use Rattle.dv_catalog.specs.declared.tables.TableId.TheVariants.{Hub, Link}
use Rattle.dv_records.specs.Collisions.{Collision, collision, pair_cmp}
use Rattle.dv_shown.specs.Mappings.{bare, with_drivers, with_names, with_orders, with_sites}
use Rattle.dv_shown.specs.Windows.{all_alike, assignments, begun_alike, departments_alike, keys_alike, letters, lists_alike, one_site, one_text, orders, zero_byte}
use Rattle.dv_shown.specs.Words.{joined_alike, key, plain, tiny}

-- a collision of two reference lists
abbrev pub collides : TableId → List Key → List Key → Option Collision
collides table first second = Some (record { table = table; pair = record { first = first; second = second } })

pub record CollisionsHold : Type 0 where
  -- two keys whose parts join to one text, the lesser one first
  pub two_parts : collision with_sites plain one_text ≡
      collides (Hub 0) (record { parts = codes "A" ∷ codes "B;C" ∷ [] } ∷ []) (record { parts = codes "A;B" ∷ codes "C" ∷ [] } ∷ [])
  -- keys, and not attributes, that have one digest
  pub attributes_alike : collision with_names tiny begun_alike ≡ None
  pub begin_alike : collision with_names tiny keys_alike ≡ collides (Hub 0) (key (codes "A1") ∷ []) (key (codes "A2") ∷ [])
  -- of all pairs the one with the least first key, and then the least second one, whichever windows they are of
  pub least : collision bare tiny letters ≡ collides (Hub 0) (key (codes "A1") ∷ []) (key (codes "A2") ∷ [])
  -- a key with the zero key of the missing one
  pub zero_key : collision bare plain zero_byte ≡ collides (Hub 0) (key [] ∷ []) (key (0 ∷ []) ∷ [])
  -- reference lists of a link, where no hub has a collision
  pub lists : collision with_drivers plain lists_alike ≡
      collides (Link 0) (key (codes "A") ∷ key (codes "B;C") ∷ []) (key (codes "A;B") ∷ key (codes "C") ∷ [])
  -- hubs before links, each in declared order
  pub hub_first : collision with_drivers tiny departments_alike ≡ collides (Hub 1) (key (codes "P1") ∷ []) (key (codes "P2") ∷ [])
  pub first_hub_first : collision with_drivers tiny all_alike ≡ collides (Hub 0) (key (codes "A1") ∷ []) (key (codes "A2") ∷ [])
  -- the missing key has as many parts as the hub's keys, and there is a list of missing keys for a link
  pub missing_parts : collision with_sites joined_alike one_site ≡
      collides (Hub 0) (record { parts = [] ∷ [] ∷ [] } ∷ []) (record { parts = codes "NORTH" ∷ codes "A" ∷ [] } ∷ [])
  pub missing_list : collision with_drivers joined_alike assignments ≡
      collides (Link 0) (key [] ∷ key [] ∷ []) (key (codes "1") ∷ key (codes "P") ∷ [])
  pub none : collision with_orders plain orders ≡ None
  -- pairs by the first one, then by the second
  pub first_decides : pair_cmp (record { first = key (codes "A") ∷ []; second = key (codes "D") ∷ [] }) (record { first = key (codes "B") ∷ []; second = key (codes "C") ∷ [] }) ≡ Less
  pub second_decides : pair_cmp (record { first = key (codes "A") ∷ []; second = key (codes "D") ∷ [] }) (record { first = key (codes "A") ∷ []; second = key (codes "C") ∷ [] }) ≡ Greater
