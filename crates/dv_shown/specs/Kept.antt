-- Tables and snapshots of stores, what the changes of a keeper make of a store, and failures that are planned for one.
use Rattle.std.specs.Prelude.{◌≡◌, ℕ, List, [], ◌∷◌, ◌++◌, Option, Some, None, Bool, true, false, Ok, Err, codes, map}
use Rattle.dv_catalog.specs.declared.tables.TableId.{TableId}
use Rattle.dv_catalog.specs.declared.tables.TableId.TheVariants.{Hub, Link, Sat, Multi, Status, Effect}
use Rattle.dv_records.specs.declared.keepers.KeeperError.TheVariants.{Failed, Memory}
use Rattle.dv_records.specs.declared.raw_rows.Code.TheVariants.{I}
use Rattle.dv_records.specs.declared.snapshots.Snap.{Snap}
use Rattle.dv_records.specs.declared.snapshots.SnapId.{SnapId}
use Rattle.dv_records.specs.declared.snapshots.SnapId.TheVariants.{Pit, Bridge}
use Rattle.dv_records.specs.declared.stores.Rows.{Rows}
use Rattle.dv_records.specs.declared.stores.Rows.TheVariants.{Hubs, Links, Sats, Multis, Statuses, Effects, Pits, Bridges}
use Rattle.dv_records.specs.declared.stores.Store.{Store}
use Rattle.dv_records.specs.declared.stores.TableRows.{TableRows}
use Rattle.dv_records.specs.Changes.{Changes, KeeperCause}
use Rattle.dv_records.specs.MemoryKeepers.{empty_store}
use Rattle.dv_records.specs.Stores.{IsStagedAt, appended_to, are_apart, are_snap_tables_apart, are_snapshots_in_order, have_kinds, is_new_snapshot, is_of_kind, is_well_formed, page}
use Rattle.dv_records.specs.Stores.{row_count, rows_in, rows_then, snap_id_eq, snapshot_rows, table_eq, with_mapping, with_rows, with_seal, with_snapshot, with_stage}
use Rattle.dv_records.specs.PlannedFailures.{after_read, new_plan, next_turn, read_fails, takes_effect, turn_of}
use Rattle.dv_shown.specs.Answered.{first_loaded}
use Rattle.dv_shown.specs.Words.{day, in_effect, in_hub, in_link, in_multi, in_sat, in_status}

-- ---- rows of each kind, one for each text

abbrev pub hubs : List (List ℕ) → Rows
hubs texts = Hubs (map (λ text. in_hub text 1 (codes "crm.customers")) texts)

abbrev pub links : List (List ℕ) → Rows
links texts = Links (map (λ text. in_link text text 1 (codes "crm.customers")) texts)

abbrev pub sats : List (List ℕ) → Rows
sats texts = Sats (map (λ text. in_sat text 1 (codes "crm.customers") text) texts)

abbrev pub multis : List (List ℕ) → Rows
multis texts = Multis (map (λ text. in_multi text 1 (codes "crm.customers") text text) texts)

abbrev pub statuses : List (List ℕ) → Rows
statuses texts = Statuses (map (λ text. in_status text 1 (codes "crm.customers") I) texts)

abbrev pub effects : List (List ℕ) → Rows
effects texts = Effects (map (λ text. in_effect text 1 (codes "crm.customers") (day 1) (day 2)) texts)

abbrev pub pits : List (List ℕ) → Rows
pits texts = Pits (map (λ text. record { key = text; cells = [] }) texts)

abbrev pub bridges : List (List ℕ) → Rows
bridges texts = Bridges (map (λ text. record { links = text ∷ []; hubs = text ∷ text ∷ [] }) texts)

abbrev pub entry : TableId → Rows → TableRows
entry table rows = record { table = table; rows = rows }

-- one text, the next two, and all four
abbrev pub a : List (List ℕ)
a = codes "a" ∷ []

abbrev pub b_c : List (List ℕ)
b_c = codes "b" ∷ codes "c" ∷ []

abbrev pub a_b_c : List (List ℕ)
a_b_c = codes "a" ∷ codes "b" ∷ codes "c" ∷ []

abbrev pub a_to_d : List (List ℕ)
a_to_d = codes "a" ∷ codes "b" ∷ codes "c" ∷ codes "d" ∷ []

-- two tables of each kind, and rows of each kind
abbrev pub each_table : List TableId
each_table =
    Hub 0 ∷ Hub 1 ∷ Link 0 ∷ Link 1 ∷ Sat 0 ∷ Sat 1 ∷ Multi 0 ∷ Multi 1 ∷ Status 0 ∷ Status 1 ∷ Effect 0 ∷ Effect 1 ∷ []

abbrev pub each_kind : List Rows
each_kind = Hubs [] ∷ Links [] ∷ Sats [] ∷ Multis [] ∷ Statuses [] ∷ Effects [] ∷ Pits [] ∷ Bridges [] ∷ []

-- tables of which a table is one, and rows that are of a table's kind
abbrev pub equal_ones : TableId → List Bool
equal_ones table = map (table_eq table) each_table

abbrev pub kinds_of : TableId → List Bool
kinds_of table = map (is_of_kind table) each_kind

-- two hubs and a status table
abbrev pub three_tables : List TableRows
three_tables = entry (Hub 0) (hubs a) ∷ entry (Hub 1) (hubs b_c) ∷ entry (Status 0) (statuses a) ∷ []

-- tables and kinds of rows
pub record TablesKept : Type 0 where
  pub one_hub : equal_ones (Hub 1) ≡ false ∷ true ∷ false ∷ false ∷ false ∷ false ∷ false ∷ false ∷ false ∷ false ∷ false ∷ false ∷ []
  pub one_link : equal_ones (Link 1) ≡ false ∷ false ∷ false ∷ true ∷ false ∷ false ∷ false ∷ false ∷ false ∷ false ∷ false ∷ false ∷ []
  pub one_sat : equal_ones (Sat 0) ≡ false ∷ false ∷ false ∷ false ∷ true ∷ false ∷ false ∷ false ∷ false ∷ false ∷ false ∷ false ∷ []
  pub one_multi : equal_ones (Multi 1) ≡ false ∷ false ∷ false ∷ false ∷ false ∷ false ∷ false ∷ true ∷ false ∷ false ∷ false ∷ false ∷ []
  pub one_status : equal_ones (Status 0) ≡ false ∷ false ∷ false ∷ false ∷ false ∷ false ∷ false ∷ false ∷ true ∷ false ∷ false ∷ false ∷ []
  pub one_effect : equal_ones (Effect 1) ≡ false ∷ false ∷ false ∷ false ∷ false ∷ false ∷ false ∷ false ∷ false ∷ false ∷ false ∷ true ∷ []
  pub kind_of_hub : kinds_of (Hub 1) ≡ true ∷ false ∷ false ∷ false ∷ false ∷ false ∷ false ∷ false ∷ []
  pub kind_of_link : kinds_of (Link 0) ≡ false ∷ true ∷ false ∷ false ∷ false ∷ false ∷ false ∷ false ∷ []
  pub kind_of_sat : kinds_of (Sat 0) ≡ false ∷ false ∷ true ∷ false ∷ false ∷ false ∷ false ∷ false ∷ []
  pub kind_of_multi : kinds_of (Multi 0) ≡ false ∷ false ∷ false ∷ true ∷ false ∷ false ∷ false ∷ false ∷ []
  pub kind_of_status : kinds_of (Status 0) ≡ false ∷ false ∷ false ∷ false ∷ true ∷ false ∷ false ∷ false ∷ []
  pub kind_of_effect : kinds_of (Effect 0) ≡ false ∷ false ∷ false ∷ false ∷ false ∷ true ∷ false ∷ false ∷ []
  pub hubs_then : rows_then (hubs a) (hubs b_c) ≡ hubs a_b_c
  pub links_then : rows_then (links a) (links b_c) ≡ links a_b_c
  pub sats_then : rows_then (sats a) (sats b_c) ≡ sats a_b_c
  pub multis_then : rows_then (multis a) (multis b_c) ≡ multis a_b_c
  pub statuses_then : rows_then (statuses a) (statuses b_c) ≡ statuses a_b_c
  pub effects_then : rows_then (effects a) (effects b_c) ≡ effects a_b_c
  pub pits_then : rows_then (pits a) (pits b_c) ≡ pits a_b_c
  pub bridges_then : rows_then (bridges a) (bridges b_c) ≡ bridges a_b_c
  pub other_kind_then : rows_then (hubs a) (links b_c) ≡ hubs a
  pub page_of_hubs : page 1 2 (hubs a_to_d) ≡ hubs b_c
  pub page_of_links : page 1 2 (links a_to_d) ≡ links b_c
  pub page_of_sats : page 1 2 (sats a_to_d) ≡ sats b_c
  pub page_of_multis : page 1 2 (multis a_to_d) ≡ multis b_c
  pub page_of_statuses : page 1 2 (statuses a_to_d) ≡ statuses b_c
  pub page_of_effects : page 1 2 (effects a_to_d) ≡ effects b_c
  pub page_of_pits : page 1 2 (pits a_to_d) ≡ pits b_c
  pub page_of_bridges : page 1 2 (bridges a_to_d) ≡ bridges b_c
  pub last_page : page 1 9 (hubs a_b_c) ≡ hubs b_c
  pub counts :
      map row_count (hubs a ∷ links b_c ∷ sats a ∷ multis b_c ∷ statuses a ∷ effects b_c ∷ pits a ∷ bridges b_c ∷ [])
      ≡ 1 ∷ 2 ∷ 1 ∷ 2 ∷ 1 ∷ 2 ∷ 1 ∷ 2 ∷ []
  pub first_hub : rows_in (Hub 0) three_tables ≡ hubs a
  pub second_hub : rows_in (Hub 1) three_tables ≡ hubs b_c
  pub status : rows_in (Status 0) three_tables ≡ statuses a
  pub no_entry :
      map (λ table. rows_in table three_tables) (Hub 2 ∷ Link 0 ∷ Sat 0 ∷ Multi 0 ∷ Status 1 ∷ Effect 0 ∷ [])
      ≡ Hubs [] ∷ Links [] ∷ Sats [] ∷ Multis [] ∷ Statuses [] ∷ Effects [] ∷ []
  pub first_rows : appended_to (Link 0) (links a) three_tables ≡ three_tables ++ entry (Link 0) (links a) ∷ []
  pub more_rows :
      appended_to (Status 0) (statuses b_c) three_tables
      ≡ entry (Hub 0) (hubs a) ∷ entry (Hub 1) (hubs b_c) ∷ entry (Status 0) (statuses a_b_c) ∷ []
  pub apart : are_apart three_tables ≡ true
  pub first_again : are_apart (three_tables ++ entry (Hub 0) (hubs b_c) ∷ []) ≡ false
  pub last_again : are_apart (three_tables ++ entry (Status 0) (statuses b_c) ∷ []) ≡ false
  pub kinds : have_kinds (entry (Hub 0) (Hubs []) ∷ entry (Link 0) (links a) ∷ []) ≡ true
  pub rows_of_other_kind : have_kinds (entry (Hub 0) (links a) ∷ []) ≡ true
  pub other_kind : have_kinds (entry (Hub 0) (hubs a) ∷ entry (Link 0) (Hubs []) ∷ []) ≡ false

-- a snapshot of tables without rows
abbrev pub snap : ℕ → List SnapId → Snap
snap n ids = record { head = record { date = day n; rows = 0; weight = 0 }; tables = map (λ id. record { id = id; rows = Pits [] }) ids }

-- a store with these tables and snapshots
abbrev pub holding : List TableRows → List Snap → Store
holding tables snapshots = record empty_store { tables = tables; snapshots = snapshots }

-- the order of snapshots and their tables
pub record SnapshotsKept : Type 0 where
  pub one_pit : map (snap_id_eq (Pit 1)) (Pit 0 ∷ Pit 1 ∷ Bridge 0 ∷ Bridge 1 ∷ []) ≡ false ∷ true ∷ false ∷ false ∷ []
  pub one_bridge : map (snap_id_eq (Bridge 1)) (Pit 0 ∷ Pit 1 ∷ Bridge 0 ∷ Bridge 1 ∷ []) ≡ false ∷ false ∷ false ∷ true ∷ []
  pub tables_apart : are_snap_tables_apart (snap 1 (Pit 0 ∷ Pit 1 ∷ Bridge 0 ∷ [])).tables ≡ true
  pub first_again : are_snap_tables_apart (snap 1 (Pit 0 ∷ Bridge 0 ∷ Pit 0 ∷ [])).tables ≡ false
  pub last_again : are_snap_tables_apart (snap 1 (Pit 0 ∷ Bridge 0 ∷ Bridge 0 ∷ [])).tables ≡ false
  pub ascending : are_snapshots_in_order (snap 1 (Pit 0 ∷ []) ∷ snap 2 (Pit 0 ∷ []) ∷ snap 4 (Pit 0 ∷ []) ∷ []) ≡ true
  pub one_date : are_snapshots_in_order (snap 1 [] ∷ snap 1 [] ∷ []) ≡ false
  pub later_first : are_snapshots_in_order (snap 1 [] ∷ snap 3 [] ∷ snap 2 [] ∷ []) ≡ false
  pub table_again : are_snapshots_in_order (snap 1 [] ∷ snap 2 (Pit 0 ∷ Pit 0 ∷ []) ∷ []) ≡ false
  pub well_formed : is_well_formed (holding three_tables (snap 1 (Pit 0 ∷ []) ∷ [])) ≡ true
  pub table_twice : is_well_formed (holding (entry (Hub 0) (hubs a) ∷ entry (Hub 0) (hubs b_c) ∷ []) []) ≡ false
  pub of_other_kind : is_well_formed (holding (entry (Hub 0) (Links []) ∷ []) []) ≡ false
  pub date_twice : is_well_formed (holding [] (snap 1 [] ∷ snap 1 [] ∷ [])) ≡ false

-- two snapshots whose tables have rows
abbrev pub two_snaps : List Snap
two_snaps =
    record {
      head = record { date = day 1; rows = 7; weight = 0 };
      tables = record { id = Pit 0; rows = pits a } ∷ record { id = Pit 1; rows = pits a_to_d } ∷ record { id = Bridge 0; rows = bridges b_c } ∷ [];
    }
    ∷ record { head = record { date = day 3; rows = 2; weight = 0 }; tables = record { id = Pit 1; rows = pits b_c } ∷ [] }
    ∷ []

-- the rows of stored snapshots
pub record SnapshotsRead : Type 0 where
  -- notices another table of the snapshot, and another kind of table with the same number
  pub first_pit : snapshot_rows (day 1) (Pit 0) two_snaps ≡ pits a
  pub second_pit : snapshot_rows (day 1) (Pit 1) two_snaps ≡ pits a_to_d
  pub a_bridge : snapshot_rows (day 1) (Bridge 0) two_snaps ≡ bridges b_c
  -- notices the table of another date
  pub later_date : snapshot_rows (day 3) (Pit 1) two_snaps ≡ pits b_c
  -- notices the rows of the snapshot before the date, and those of another kind
  pub no_snapshot : map (λ id. snapshot_rows (day 2) id two_snaps) (Pit 1 ∷ Bridge 0 ∷ []) ≡ Pits [] ∷ Bridges [] ∷ []
  pub no_table : map (λ id. snapshot_rows (day 3) id two_snaps) (Pit 0 ∷ Bridge 0 ∷ []) ≡ Pits [] ∷ Bridges [] ∷ []
  -- from a place on, at most so many
  pub a_page : page 1 2 (snapshot_rows (day 1) (Pit 1) two_snaps) ≡ pits b_c
  pub past_the_end : page 9 2 (snapshot_rows (day 1) (Bridge 0) two_snaps) ≡ Bridges []
  -- notices a date or a table that may come again
  pub new : is_new_snapshot (snap 2 (Pit 0 ∷ Pit 1 ∷ Bridge 0 ∷ [])) two_snaps ≡ true
  pub date_again : is_new_snapshot (snap 3 (Pit 0 ∷ [])) two_snaps ≡ false
  pub table_again : is_new_snapshot (snap 2 (Pit 0 ∷ Pit 1 ∷ Pit 0 ∷ [])) two_snaps ≡ false

-- what the changes make of a store
pub record StoresChanged : Type 0 where
  pub mapped : with_mapping (codes "m") (holding three_tables []) ≡ record (holding three_tables []) { mapping = Some (codes "m") }
  pub staged : with_stage first_loaded (holding three_tables []) ≡ record (holding three_tables []) { stage = Some first_loaded }
  pub filled : with_rows (Link 0) (links a) (holding three_tables []) ≡ holding (three_tables ++ entry (Link 0) (links a) ∷ []) []
  pub sealed :
      with_seal (record { load = day 2; feeds = 0 ∷ [] }) (record empty_store { stage = Some first_loaded; windows = record { load = day 1; feeds = 1 ∷ [] } ∷ [] })
      ≡ record empty_store { windows = record { load = day 1; feeds = 1 ∷ [] } ∷ record { load = day 2; feeds = 0 ∷ [] } ∷ [] }
  -- a snapshot stands in its place by date: notices one that is put last, and one that takes another's place
  pub snapped : with_snapshot (snap 1 (Pit 0 ∷ [])) (holding three_tables []) ≡ holding three_tables (snap 1 (Pit 0 ∷ []) ∷ [])
  pub snapped_first : with_snapshot (snap 1 (Pit 0 ∷ [])) (holding three_tables (snap 2 [] ∷ snap 3 [] ∷ [])) ≡ holding three_tables (snap 1 (Pit 0 ∷ []) ∷ snap 2 [] ∷ snap 3 [] ∷ [])
  pub snapped_between : with_snapshot (snap 2 (Pit 0 ∷ [])) (holding three_tables (snap 1 [] ∷ snap 3 [] ∷ [])) ≡ holding three_tables (snap 1 [] ∷ snap 2 (Pit 0 ∷ []) ∷ snap 3 [] ∷ [])
  pub snapped_last : with_snapshot (snap 3 (Pit 0 ∷ [])) (holding three_tables (snap 1 [] ∷ snap 2 [] ∷ [])) ≡ holding three_tables (snap 1 [] ∷ snap 2 [] ∷ snap 3 (Pit 0 ∷ []) ∷ [])
  pub staged_at : IsStagedAt (day 1) (Some first_loaded)
  pub staged_later : IsStagedAt (day 2) (Some first_loaded) → ⊥
  pub not_staged : IsStagedAt (day 1) None → ⊥

-- the storing of a mapping, and the store that it makes of an empty one
abbrev pub put : Store → Store
put = with_mapping (codes "m")

abbrev pub made : Option Store
made = Some (record empty_store { mapping = Some (codes "m") })

abbrev pub other : Option Store
other = Some (record empty_store { mapping = Some (codes "n") })

-- what a changing call does, by its answer
pub record ChangesMade : Type 0 where
  pub works : Changes {T = Unit {0}} put (Some empty_store) made (Ok tt)
  pub works_not : Changes {T = Unit {0}} put (Some empty_store) (Some empty_store) (Ok tt) → ⊥
  pub untold : Changes {T = Unit {0}} put None None (Ok tt)
  pub lacks_memory : Changes {T = Unit {0}} put (Some empty_store) (Some empty_store) (Err Memory)
  pub lacks_memory_not : Changes {T = Unit {0}} put (Some empty_store) made (Err Memory) → ⊥
  pub fails_before : Changes {T = Unit {0}} put (Some empty_store) (Some empty_store) (Err Failed)
  pub fails_after : Changes {T = Unit {0}} put (Some empty_store) made (Err Failed)
  pub fails_otherwise : Changes {T = Unit {0}} put (Some empty_store) other (Err Failed) → ⊥
  pub counted : KeeperCause {T = Unit {0}} 1 2 (Err Failed)
  pub not_counted : KeeperCause {T = Unit {0}} 1 1 (Err Failed) → ⊥
  pub count_fell : KeeperCause {T = Unit {0}} 2 1 (Ok tt) → ⊥
  pub lacks_memory_uncounted : KeeperCause {T = Unit {0}} 1 1 (Err Memory)

-- how calls go for which a failure is planned
pub record TurnsPlanned : Type 0 where
  -- the second changing call alone fails, and its change is made
  pub second_change :
      map (λ changes. next_turn (record { fails = record { change = 2; done = true } ∷ []; changes = changes; faults = 0 })) (0 ∷ 1 ∷ 2 ∷ [])
      ≡ turn_of None ∷ turn_of (Some (record { change = 2; done = true })) ∷ turn_of None ∷ []
  pub change_made : map (λ done. takes_effect (turn_of (Some (record { change = 2; done = done })))) (true ∷ false ∷ []) ≡ true ∷ false ∷ []
  -- the next reading call fails, and the one after it doesn't
  pub next_reading : read_fails (record { change = 0; done = false } ∷ []) ≡ true
  pub once : after_read (new_plan (record { change = 0; done = false } ∷ [])) ≡ record { fails = []; changes = 0; faults = 1 }
