-- What an open window needs: a place in the vault as it is stored.
use Rattle.std.specs.Prelude.{◌≡◌, ℕ, false, List, ◌∷◌, None, Some, All, Contains, codes, length}
use Rattle.std.specs.List.{list_any}
use Rattle.std.specs.Str.{bytes_eq}
use Rattle.dv_text.specs.declared.rows.Key.{Key}
use Rattle.dv_text.specs.declared.rows.Window.{Window}
use Rattle.dv_text.specs.Keys.{Hashes}
use Rattle.dv_catalog.specs.declared.tables.TableId.TheVariants.{Hub, Link}
use Rattle.dv_catalog.specs.Entries.{Mapping}
use Rattle.dv_records.specs.declared.answers.Damage.{Damage}
use Rattle.dv_records.specs.declared.raw_rows.HubRow.{HubRow}
use Rattle.dv_records.specs.declared.raw_rows.LinkRow.{LinkRow}
use Rattle.dv_records.specs.declared.stores.Rows.TheVariants.{Hubs, Links}
use Rattle.dv_records.specs.declared.stores.TableRows.{TableRows}
use Rattle.dv_records.specs.Deltas.{HasNoClash, Hashed, hashed_by, missing_in}
use Rattle.dv_records.specs.HubNames.{HubName}
use Rattle.dv_records.specs.Outcomes.{full_at}
use Rattle.dv_records.specs.ReadBack.{missing_key}
use Rattle.dv_store_rules.specs.Damages.{damage_at}
use Rattle.dv_store_rules.specs.FormRules.{zero_key}
use Rattle.dv_hub_link.specs.HubRows.{key_with}
use Rattle.dv_vault.specs.Additions.{weight_with}
use Rattle.dv_vault.specs.Vaults.{RawVault, hashed_in, hub_names}

-- the damage of an open window that has no place
abbrev pub broken_window : Damage
broken_window = damage_at (codes "stage") (record { row = 1; rule = 15 })

-- what must have hash keys of its own in a table: what is missing there, also where the window brings nothing, and what the
-- window brings and the table has
abbrev pub compared_in : Mapping → Hashes → List HubName → Window → TableRows → List Hashed
compared_in mapping hashes names window entry = hashed_by hashes (missing_in mapping entry.table) ∷ hashed_in mapping hashes names window entry

-- no hub and no link of a vault has two lists with one hash key
abbrev pub AreAllApart : Hashes → RawVault → Window → Type 0
AreAllApart hashes raw window =
    All (λ entry. HasNoClash (compared_in raw.mapping hashes (hub_names raw.mapping raw.tables) window entry)) raw.tables

-- a window makes no collision in a vault, and there is room for it
pub record HasPlace (hashes : Hashes) (raw : RawVault) (window : Window) : Type 0 where
  pub apart : AreAllApart hashes raw window
  pub room : full_at (weight_with hashes raw window) (length raw.heads) ≡ None

-- ---- the missing key where a window brings nothing

-- another key than the missing one stands under a digest in a hub
pub record IsMisnamed (mapping : Mapping) (digest : List ℕ) (hub : ℕ) (rows : List HubRow) : Type 0 where
  pub key : Key
  pub found : key_with digest rows ≡ Some key
  pub other : key ≡ missing_key mapping hub → ⊥

-- so one does in some hub among tables
pub record HasMisnamed (mapping : Mapping) (digest : List ℕ) (entries : List TableRows) : Type 0 where
  pub hub : ℕ
  pub rows : List HubRow
  pub there : Contains entries (record { table = Hub hub; rows = Hubs rows })
  pub is : IsMisnamed mapping digest hub rows

-- no other key stands under a digest in a hub
abbrev pub IsNamed : Mapping → List ℕ → ℕ → List HubRow → Type 0
IsNamed mapping digest hub rows = (key : Key) → key_with digest rows ≡ Some key → key ≡ missing_key mapping hub

-- and none does in any hub among tables
abbrev pub AreNamed : Mapping → List ℕ → List TableRows → Type 0
AreNamed mapping digest entries =
    (hub : ℕ) (rows : List HubRow) → Contains entries (record { table = Hub hub; rows = Hubs rows }) → IsNamed mapping digest hub rows

-- no link among tables has a row under the zero key
abbrev pub HaveNoZeroLinks : ℕ → List TableRows → Type 0
HaveNoZeroLinks width entries =
    (link : ℕ) (rows : List LinkRow) → Contains entries (record { table = Link link; rows = Links rows })
    → list_any (λ row. bytes_eq row.digest (zero_key width)) rows ≡ false
