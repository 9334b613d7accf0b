-- Marts of the sealed windows at a date. Each is selected from the contents of the feeds, a period mart from the
-- extracts of its feed; they know no hash key.
use Rattle.std.specs.Prelude.{ℕ, ◌-◌, ◌==◌, nat_lt, Bool, true, not, ◌&&◌, List, [], ◌∷◌, Option, Some, None, map, reverse, length, replicate, filter, if◌then◌else◌, find, take, slice_get}
use Rattle.std.specs.List.{enumerate_from, flat_map, list_any, range_with_len}
use Rattle.std.specs.Ordering.{nat_cmp, ordering_then}
use Rattle.std.specs.Cmp.Lexicographic.{pointwise, slice_cmp}
use Rattle.std.specs.declared.cmp.Ordering.{Ordering}
use Rattle.dv_text.specs.declared.rows.Key.{Key}
use Rattle.dv_text.specs.declared.rows.NRow.{NRow}
use Rattle.dv_text.specs.declared.rows.Window.{Window}
use Rattle.dv_text.specs.Keys.{is_missing, key_eq, refs_eq}
use Rattle.dv_text.specs.Orders.{key_cmp, refs_cmp}
use Rattle.dv_text.specs.Sorting.{sorted_by}
use Rattle.dv_catalog.specs.declared.entries.FeedDef.{FeedDef}
use Rattle.dv_catalog.specs.declared.entries.Parent.TheVariants.{Hub}
use Rattle.dv_catalog.specs.declared.entries.PathDef.{PathDef}
use Rattle.dv_catalog.specs.Entries.{Mapping}
use Rattle.dv_catalog.specs.Feeds.{feed_hubs, is_fed_by, keys_at}
use Rattle.dv_records.specs.declared.mart_rows.HubCell.{HubCell}
use Rattle.dv_records.specs.declared.mart_rows.HubMartRow.{HubMartRow}
use Rattle.dv_records.specs.declared.mart_rows.PathRow.{PathRow}
use Rattle.dv_records.specs.declared.mart_rows.PeriodRow.{PeriodRow}
use Rattle.dv_records.specs.History.{Extract, all_refs, content, delivers, history, up_to}
use Rattle.dv_records.specs.Runs.{runs}

-- the content of each feed at a date, by the feed's place
abbrev pub contents : List Window → ℕ → ℕ → List NRow
contents sealed date feed = content feed sealed date

-- ---- a feed

-- the feed mart: the feed's content, in the order of an extract's rows, by references, then sub, then attributes
abbrev pub feed_mart : List Window → ℕ → ℕ → List NRow
feed_mart sealed feed date = content feed sealed date

-- ---- a hub

-- the feeds of a hub with their places, in declared order
abbrev pub hub_feeds : Mapping → ℕ → List (ℕ × FeedDef)
hub_feeds mapping hub = filter (λ feed. is_fed_by (Hub hub) (Some feed.1)) (enumerate_from 0 mapping.feeds)

-- a row's attributes; as many blanks where there is no row
abbrev pub attrs_or_blanks : ℕ → Option NRow → List (List ℕ)
attrs_or_blanks width None = replicate width []
attrs_or_blanks width (Some row) = row.attrs

-- what a hub mart shows of a feed's rows for a key: the attributes or blanks, and nothing of a feed with a sub, which
-- may have several rows
abbrev pub shown_attrs : FeedDef → List NRow → List Key → List (List ℕ)
shown_attrs feed rows refs =
    if length feed.sub == 0 then attrs_or_blanks (length feed.attrs) (find (λ row. refs_eq row.refs refs) rows) else []

-- a cell: whether the feed's content has the key, and what it shows of it
abbrev pub hub_cell : (ℕ → List NRow) → Key → ℕ × FeedDef → HubCell
hub_cell contents key feed = record {
  present = delivers (contents feed.0) (key ∷ []);
  attrs = shown_attrs feed.1 (contents feed.0) (key ∷ []);
}

-- the keys in the contents of feeds, in order, each once
abbrev pub keys_in : (ℕ → List NRow) → List (ℕ × FeedDef) → List Key
keys_in contents feeds = sorted_by key_cmp (flat_map (λ feed. flat_map (λ row. row.refs) (contents feed.0)) feeds)

-- a row for each key in the content of at least one feed of the hub, by key, with a cell for each feed of the hub in
-- declared order
abbrev pub hub_rows : Mapping → (ℕ → List NRow) → ℕ → List HubMartRow
hub_rows mapping contents hub =
    map
    (λ key. record { key = key; cells = map (hub_cell contents key) (hub_feeds mapping hub) })
    (keys_in contents (hub_feeds mapping hub))

-- the hub mart: that of the contents at the date
abbrev pub hub_mart : Mapping → List Window → ℕ → ℕ → List HubMartRow
hub_mart mapping sealed hub date = hub_rows mapping (contents sealed date) hub

-- ---- a path

-- each way to take one item from each list
abbrev pub choices : {X : Type 0} → List (List X) → List (List X)
choices [] = [] ∷ []
choices (xs ∷ rest) = flat_map (λ x. map (λ chosen. x ∷ chosen) (choices rest)) xs

-- whether the reference lists of neighbouring feeds have the same key at the hub that the feeds share
abbrev pub agrees : Mapping → List ℕ → List ℕ → List (List Key) → Bool
agrees mapping (f ∷ g ∷ feeds) (hub ∷ via) (a ∷ b ∷ steps) =
    pointwise key_eq (keys_at hub (feed_hubs mapping f) a) (keys_at hub (feed_hubs mapping g) b)
    && agrees mapping (g ∷ feeds) via (b ∷ steps)
agrees mapping feeds via steps = true

-- the reference lists of rows that have no missing reference
abbrev pub whole_refs : List NRow → List (List Key)
whole_refs rows = filter (λ refs. not (list_any is_missing refs)) (all_refs rows)

-- the rows of a path: each choice of one reference list from the content of each feed in which neighbours agree, in
-- order, each once
abbrev pub path_rows : Mapping → (ℕ → List NRow) → List ℕ → List ℕ → List PathRow
path_rows mapping contents feeds via =
    map
    (λ steps. record { steps = steps })
    (sorted_by (slice_cmp refs_cmp) (filter (agrees mapping feeds via) (choices (map (λ feed. whole_refs (contents feed)) feeds))))

-- the rows of a path's first n feeds
abbrev pub prefix_rows : Mapping → (ℕ → List NRow) → PathDef → ℕ → List PathRow
prefix_rows mapping contents path n = path_rows mapping contents (take n path.feeds) (take (n - 1) path.via)

-- the rows of a path, if there is one
abbrev pub path_rows_by : Mapping → (ℕ → List NRow) → Option PathDef → List PathRow
path_rows_by mapping contents None = []
path_rows_by mapping contents (Some path) = path_rows mapping contents path.feeds path.via

-- the path mart: the rows of the path with this place in the contents at the date
abbrev pub path_mart : Mapping → List Window → ℕ → ℕ → List PathRow
path_mart mapping sealed path date = path_rows_by mapping (contents sealed date) (slice_get mapping.paths path)

-- whether some prefix of a path, the whole of it too, has more rows than the limit; a later feed may make them fewer again
abbrev pub is_larger : ℕ → Mapping → (ℕ → List NRow) → PathDef → Bool
is_larger limit mapping contents path =
    list_any (λ n. nat_lt limit (length (prefix_rows mapping contents path n))) (range_with_len 1 (length path.feeds))

-- ---- the periods of a feed

-- by references, then by begin
abbrev pub period_cmp : PeriodRow → PeriodRow → Ordering
period_cmp a b = ordering_then (refs_cmp a.refs b.refs) (nat_cmp a.begin b.begin)

-- a reference list with each of its runs
abbrev pub periods_of : List Extract → List Key → List PeriodRow
periods_of extracts refs = map (λ span. record { refs = refs; begin = span.begin; end = span.end }) (runs extracts refs)

-- each reference list of the extracts with each of its runs, in order
abbrev pub periods : List Extract → List PeriodRow
periods extracts = sorted_by period_cmp (flat_map (periods_of extracts) (flat_map (λ extract. all_refs extract.rows) extracts))

-- the period mart: the runs in the windows that are not later than the date, so that a run that ends later is open
abbrev pub period_mart : List Window → ℕ → ℕ → List PeriodRow
period_mart sealed feed date = periods (up_to date (history feed (reverse sealed)))
