-- What is read of the raw tables of a store: the tables, and where their rows keep to the rules of form.
use Rattle.std.specs.Option.{option_map, option_to_list}
use Rattle.std.specs.Prelude.{◌≡◌, ℕ, ◌+◌, ◌-◌, min, List, [], ◌∷◌, ◌++◌, Option, Some, None, length, map}
use Rattle.dv_text.specs.declared.rows.WindowHead.{WindowHead}
use Rattle.dv_text.specs.Keys.{Hashes}
use Rattle.dv_text.specs.Told.{Told}
use Rattle.dv_catalog.specs.declared.tables.TableId.{TableId}
use Rattle.dv_catalog.specs.declared.tables.TableId.TheVariants.{Hub as HubId, Link as LinkId}
use Rattle.dv_catalog.specs.Entries.{Mapping}
use Rattle.dv_catalog.specs.Tables.{table_name}
use Rattle.dv_index.specs.Places.{Indexed}
use Rattle.dv_records.specs.declared.answers.Damage.{Damage}
use Rattle.dv_records.specs.declared.raw_rows.HubRow.{HubRow}
use Rattle.dv_records.specs.declared.raw_rows.LinkRow.{LinkRow}
use Rattle.dv_records.specs.declared.stores.Rows.TheVariants.{Hubs, Links}
use Rattle.dv_records.specs.declared.stores.Store.{Store}
use Rattle.dv_records.specs.declared.stores.TableRows.{TableRows}
use Rattle.dv_records.specs.States.{head_of}
use Rattle.dv_records.specs.Stores.{rows_in}
use Rattle.dv_records.specs.Weights.{tables_weight}
use Rattle.dv_store_rules.specs.declared.flaws.Flaw.{Flaw}
use Rattle.dv_store_rules.specs.declared.known.Known.{Known as KnownTables}
use Rattle.dv_store_rules.specs.declared.pages.Read.{Read}
use Rattle.dv_store_rules.specs.declared.pages.Read.TheVariants.{OtherKind, Rows as AllRows}
use Rattle.dv_store_rules.specs.Damages.{damage_at, raw_damage, stored_entries}
use Rattle.dv_store_rules.specs.FormRules.{Known}
use Rattle.dv_store_rules.specs.KnownTables.{IsKnown}
use Rattle.dv_store_rules.specs.StoredRows.{flaw_in}
use Rattle.dv_vault.specs.declared.tables.Table.{Table}
use Rattle.dv_vault.specs.declared.tables.Table.TheVariants as table
use Rattle.dv_vault.specs.Vaults.{entry_of}
use Rattle.dv_restore.specs.declared.gathered.Gathered.{Gathered}

-- ---- the rules of form

-- no row of these tables breaks a rule of form, each table behind those before it
abbrev pub AreInForm : Known → List TableRows → Type 0
AreInForm known entries = (before : List TableRows) (entry : TableRows) (behind : List TableRows) → entries ≡ before ++ entry ∷ behind
    → flaw_in (record known { tables = before }) entry.table entry.rows ≡ None

-- what is known before the first raw table
abbrev pub known_first : Mapping → Hashes → ℕ → List WindowHead → Known
known_first mapping hashes width heads = record { mapping = mapping; hashes = hashes; width = width; heads = heads; tables = [] }

-- the first flaw of a table, by what was read of it
abbrev pub flaw_read : Known → TableId → Read → Option Flaw
flaw_read known id (AllRows rows) = flaw_in known id rows
flaw_read known id (OtherKind row) = Some (record { row = row; rule = 4 })

-- the damage of a raw table by its flaw, where it has one
abbrev pub flaw_damage : Mapping → TableId → Option Flaw → Option Damage
flaw_damage mapping id = option_map (damage_at (table_name mapping id))

-- this is the damage of a raw table of a store, where it is told, by what is known of the tables before it
abbrev pub IsTableDamage : Mapping → Known → TableId → Option Store → Damage → Type 0
IsTableDamage mapping known id told damage = Told told (λ s. flaw_damage mapping id (flaw_in known id (rows_in id s.tables)) ≡ Some damage)

-- entries are what a store, where it is told, has of these tables, and no row of them breaks a rule of form
pub record AreRead (first : Known) (told : Option Store) (ids : List TableId) (entries : List TableRows) : Type 0 where
  pub ids_are : map (λ entry. entry.table) entries ≡ ids
  pub in_form : AreInForm first entries
  pub stored : Told told (λ s. entries ≡ stored_entries s ids)

-- a store has these heads: those of its sealed windows, and behind them that of the open one
abbrev pub HasHeads : List WindowHead → Store → Type 0
HasHeads heads store = store.windows ++ map head_of (option_to_list store.stage) ≡ heads

-- this is the first damage of the raw tables of a store, where it is told and has the heads that are known
abbrev pub IsRawDamage : Known → Option Store → Damage → Type 0
IsRawDamage first told damage = Told told (λ s. HasHeads first.heads s → raw_damage first.mapping first.hashes first.width s ≡ Some damage)

-- ---- tables that are gathered one after the other

-- the tables of hubs and of links, which are counted from n
abbrev pub hub_entries : ℕ → List (Indexed HubRow) → List TableRows
hub_entries n [] = []
hub_entries n (rows ∷ hubs) = record { table = HubId n; rows = Hubs rows.rows } ∷ hub_entries (n + 1) hubs

abbrev pub link_entries : ℕ → List (Indexed LinkRow) → List TableRows
link_entries n [] = []
link_entries n (rows ∷ links) = record { table = LinkId n; rows = Links rows.rows } ∷ link_entries (n + 1) links

-- all of them, in table order
abbrev pub entries_in : Gathered → List TableRows
entries_in gathered = hub_entries 0 gathered.hubs.items ++ link_entries 0 gathered.links.items ++ map entry_of gathered.feeds.items

-- what is known by a mapping, heads and the tables that were gathered
pub record IsKnownBy (mapping : Mapping) (heads : List WindowHead) (gathered : Gathered) (known : KnownTables) : Type 0 where
  pub catalog_is : known.catalog.now ≡ mapping
  pub heads_are : known.heads.now ≡ heads
  pub hubs_are : known.hubs.now ≡ gathered.hubs.items
  pub links_are : known.links.now ≡ gathered.links.items
  pub weight_is : known.weight ≡ gathered.weight

-- which is what is read of the store
abbrev pub TellsKnown : Known → Gathered → Type 0
TellsKnown first gathered = (known : KnownTables) → IsKnownBy first.mapping first.heads gathered known → IsKnown first.hashes first.width known (record first { tables = entries_in gathered })

-- a table is put behind those of its kind, and all weigh so much with it
pub record HasPut (old : Gathered) (hubs : List (Indexed HubRow)) (links : List (Indexed LinkRow)) (feeds : List Table) (weight : ℕ) (new : Gathered) : Type 0 where
  pub hubs_are : new.hubs.items ≡ old.hubs.items ++ hubs
  pub links_are : new.links.items ≡ old.links.items ++ links
  pub feeds_are : new.feeds.items ≡ old.feeds.items ++ feeds
  pub weight_is : new.weight ≡ weight

abbrev pub IsPut : Gathered → Table → ℕ → Gathered → Type 0
IsPut old (table.Hub hub rows) weight new = HasPut old (rows ∷ []) [] [] weight new
IsPut old (table.Link link rows) weight new = HasPut old [] (rows ∷ []) [] weight new
IsPut old (table.Sat feed rows) weight new = HasPut old [] [] (table.Sat feed rows ∷ []) weight new
IsPut old (table.Multi feed rows) weight new = HasPut old [] [] (table.Multi feed rows ∷ []) weight new
IsPut old (table.Status feed rows) weight new = HasPut old [] [] (table.Status feed rows ∷ []) weight new
IsPut old (table.Effect feed rows) weight new = HasPut old [] [] (table.Effect feed rows ∷ []) weight new

-- as many tables of each kind are gathered as there are among so many first ones of a mapping
pub record AreCounted (mapping : Mapping) (gathered : Gathered) (count : ℕ) : Type 0 where
  pub hubs : length gathered.hubs.items ≡ min count (length mapping.hubs)
  pub links : length gathered.links.items ≡ min (count - length mapping.hubs) (length mapping.links)
  pub feeds : length gathered.feeds.items ≡ count - (length mapping.hubs + length mapping.links)

-- the first tables of a mapping are gathered
pub record AreGathered (first : Known) (told : Option Store) (ids : List TableId) (count : ℕ) (gathered : Gathered) : Type 0 where
  pub read : AreRead first told ids (entries_in gathered)
  pub known : TellsKnown first gathered
  pub weight : gathered.weight ≡ tables_weight (entries_in gathered)
  pub counted : AreCounted first.mapping gathered count
