-- The kinds of rows of tables, and of what a window adds to them.
use Rattle.dv_restore.proofs.Vocabulary.{Bool, Bridges, Effects, Extract, Hashes, Hubs, Links, List, Mapping, Multis, NRow, None, Option, Pits, Rows, Sats, Some, Statuses, Table, TableId, Window, [], added, and_from, ap, drop, entry_of, extract_added, is_of_kind, kind_of, map, refl, row_count}
use Rattle.dv_restore.proofs.Vocabulary.{rows_loaded, rows_then, rules, sym, true, ℕ, ◌∙◌, ◌∷◌, ◌≡◌}
use Rattle.dv_restore.proofs.{RowLoads.are_of_kinds, PartedRows.drop_exactly}

-- ---- kinds

pub loaded_kind : (id : TableId) (test : ℕ → Bool) (rows : Rows) → is_of_kind id (rows_loaded test rows) ≡ is_of_kind id rows
loaded_kind id test rows = search rules

pub kinds_of : (tables : List Table) → are_of_kinds (map entry_of tables) ≡ true
kinds_of [] = refl
kinds_of (t ∷ tables) = and_from _ _ (kind_of t) (kinds_of tables)

extract_kind : (id : TableId) (by : ℕ → List NRow → Rows) (none : Rows) (found : Option Extract) → is_of_kind id none ≡ true → ((load : ℕ) (staged : List NRow) → is_of_kind id (by load staged) ≡ true) → is_of_kind id (extract_added by none found) ≡ true
extract_kind id by none None kind each = kind
extract_kind id by none (Some extract) kind each = each extract.load extract.rows

-- what a window adds to a table is of its kind
pub added_kind : (mapping : Mapping) (hashes : Hashes) (window : Window) (id : TableId) (rows : Rows) → is_of_kind id rows ≡ true → is_of_kind id (added mapping hashes window id rows) ≡ true
added_kind mapping hashes window id rows kind = search (rules, extract_kind)

-- ---- rows behind others

drop_rows : ℕ → Rows → Rows
drop_rows n (Hubs rows) = Hubs (drop n rows)
drop_rows n (Links rows) = Links (drop n rows)
drop_rows n (Sats rows) = Sats (drop n rows)
drop_rows n (Multis rows) = Multis (drop n rows)
drop_rows n (Statuses rows) = Statuses (drop n rows)
drop_rows n (Effects rows) = Effects (drop n rows)
drop_rows n (Pits rows) = Pits (drop n rows)
drop_rows n (Bridges rows) = Bridges (drop n rows)

-- rows behind others, told from all of them
behind_is : (id : TableId) (a b : Rows) → is_of_kind id a ≡ true → is_of_kind id b ≡ true → drop_rows (row_count a) (rows_then a b) ≡ b
unfolding drop_rows
behind_is id a b k l = search (rules, drop_exactly)

pub same_behind : (id : TableId) (a b c : Rows) → is_of_kind id a ≡ true → is_of_kind id b ≡ true → is_of_kind id c ≡ true → rows_then a b ≡ rows_then a c → b ≡ c
same_behind id a b c k l m e = sym (behind_is id a b k l) ∙ ap (drop_rows (row_count a)) e ∙ behind_is id a c k m
