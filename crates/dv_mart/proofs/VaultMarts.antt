-- What the tables of a vault hold: of each table rows of its kind, and by them its text.
use Rattle.dv_mart.proofs.Vocabulary.{Backwards, Contains, Effects, HasKind, HasSealed, Hashes, Hubs, Links, List, Mapping, Multis, RawVault, Rows, Sats, Statuses, TableId, TableRows, Window, ap, arith, backwards, effect_rows, false≢true, is_of_kind, is_table_of, length, link_rows, multi_rows}
use Rattle.dv_mart.proofs.Vocabulary.{nat_lt, nat_tests, passes_at, raw_text, refl, rows_in, rows_up_to, sat_rows, status_rows, subst, sym, table_after, table_text, tables, tables_in, true, vault_holds, ℕ, ◌<◌, ◌∙◌, ◌≡◌}
use Rattle.dv_records.specs.ReadBack.{hub_rows}
use Rattle.dv_catalog.specs.declared.tables.TableId.TheVariants as ids

-- ---- a table of the mapping

pub of_mapping : (mapping : Mapping) (table : TableId) → Contains (tables mapping) table → is_table_of mapping table ≡ true
of_mapping mapping table has = passes_at (is_table_of mapping) (tables mapping) table (tables_in mapping) has

pub hub_within : (mapping : Mapping) (hub : ℕ) → Contains (tables mapping) (ids.Hub hub) → hub < length mapping.hubs
hub_within mapping hub has = let test : nat_lt hub (length mapping.hubs) ≡ true = of_mapping mapping (ids.Hub hub) has in grind (arith, nat_tests, test)

pub link_within : (mapping : Mapping) (link : ℕ) → Contains (tables mapping) (ids.Link link) → link < length mapping.links
link_within mapping link has = let test : nat_lt link (length mapping.links) ≡ true = of_mapping mapping (ids.Link link) has in grind (arith, nat_tests, test)

pub status_within : (mapping : Mapping) (feed : ℕ) → Contains (tables mapping) (ids.Status feed) → feed < length mapping.feeds
status_within mapping feed has = let test : nat_lt feed (length mapping.feeds) ≡ true = of_mapping mapping (ids.Status feed) has in grind (arith, nat_tests, test)

-- also of a catalog that is the mapping, where the table is this one
pub table_here : (mapping catalog : Mapping) (own table : TableId) → catalog ≡ mapping → table ≡ own → Contains (tables mapping) table → is_table_of catalog own ≡ true
table_here mapping catalog own table is same among =
    subst (λ (m : Mapping). is_table_of m own ≡ true) (sym is) (of_mapping mapping own (subst (Contains (tables mapping)) same among))

-- ---- rows of a table's kind

of_kind : (mapping : Mapping) (hashes : Hashes) (after : Backwards) (table : TableId) → is_of_kind table (table_after mapping hashes after table) ≡ true
of_kind mapping hashes after (ids.Hub hub) = refl
of_kind mapping hashes after (ids.Link link) = refl
of_kind mapping hashes after (ids.Sat feed) = refl
of_kind mapping hashes after (ids.Multi feed) = refl
of_kind mapping hashes after (ids.Status feed) = refl
of_kind mapping hashes after (ids.Effect feed) = refl

-- a table of a vault that has sealed windows has rows of its kind
pub kind_of : (hashes : Hashes) (sealed : List Window) (raw : RawVault) → HasSealed hashes sealed raw → (table : TableId) → Contains (tables raw.mapping) table → HasKind raw.tables table
kind_of hashes sealed raw has_sealed table has =
    ap (λ entries. is_of_kind table (rows_in table entries)) has_sealed.tables_are
    ∙ ap (is_of_kind table) ((vault_holds raw.mapping hashes sealed table).rows has)
    ∙ of_kind raw.mapping hashes (backwards sealed) table

pub hubs_back : (hub : ℕ) (rows : Rows) → is_of_kind (ids.Hub hub) rows ≡ true → Hubs (hub_rows rows) ≡ rows
hubs_back hub (Hubs rows) is = refl
hubs_back hub rows is = absurd (false≢true is)

pub links_back : (link : ℕ) (rows : Rows) → is_of_kind (ids.Link link) rows ≡ true → Links (link_rows rows) ≡ rows
links_back link (Links rows) is = refl
links_back link rows is = absurd (false≢true is)

pub sats_back : (feed : ℕ) (rows : Rows) → is_of_kind (ids.Sat feed) rows ≡ true → Sats (sat_rows rows) ≡ rows
sats_back feed (Sats rows) is = refl
sats_back feed rows is = absurd (false≢true is)

pub multis_back : (feed : ℕ) (rows : Rows) → is_of_kind (ids.Multi feed) rows ≡ true → Multis (multi_rows rows) ≡ rows
multis_back feed (Multis rows) is = refl
multis_back feed rows is = absurd (false≢true is)

pub statuses_back : (feed : ℕ) (rows : Rows) → is_of_kind (ids.Status feed) rows ≡ true → Statuses (status_rows rows) ≡ rows
statuses_back feed (Statuses rows) is = refl
statuses_back feed rows is = absurd (false≢true is)

pub effects_back : (feed : ℕ) (rows : Rows) → is_of_kind (ids.Effect feed) rows ≡ true → Effects (effect_rows rows) ≡ rows
effects_back feed (Effects rows) is = refl
effects_back feed rows is = absurd (false≢true is)

-- ---- the text of a table

-- rows of its kind that are those in the store have its text
pub said : {R : Type 0} (table : TableId) (kind : List R → Rows) (rows_of : Rows → List R) (mapping : Mapping) (entries : List TableRows) (date : ℕ)
    → kind (rows_of (rows_in table entries)) ≡ rows_in table entries → (rows : List R) → rows ≡ rows_of (rows_in table entries) → (catalog : Mapping) → catalog ≡ mapping
    → table_text catalog table (rows_up_to date (kind rows)) ≡ raw_text mapping entries table date
said table kind rows_of mapping entries date back rows rows_are catalog same =
    ap (λ (m : Mapping). table_text m table (rows_up_to date (kind rows))) same
    ∙ ap (λ (rows : Rows). table_text mapping table (rows_up_to date rows)) (ap kind rows_are ∙ back)

-- the same of a table that is this one
pub said_for : {R : Type 0} (own table : TableId) (kind : List R → Rows) (rows_of : Rows → List R) (mapping : Mapping) (entries : List TableRows) (date : ℕ)
    → (HasKind entries own → kind (rows_of (rows_in own entries)) ≡ rows_in own entries) → table ≡ own → (rows : List R) → rows ≡ rows_of (rows_in own entries) → (catalog : Mapping) → catalog ≡ mapping
    → (text : List ℕ) → text ≡ table_text catalog own (rows_up_to date (kind rows)) → HasKind entries table → text ≡ raw_text mapping entries table date
said_for own table kind rows_of mapping entries date back same rows rows_are catalog is text text_is has =
    text_is
    ∙ said own kind rows_of mapping entries date (back (subst (HasKind entries) same has)) rows rows_are catalog is
    ∙ ap (λ (id : TableId). raw_text mapping entries id date) (sym same)
