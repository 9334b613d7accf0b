-- Rows that get one cell after another.
use Rattle.dv_pit.proofs.Vocabulary.{FeedDef, HubFeed, HubRow, List, Mapping, PitCell, PitRow, TableRows, [], ap, append-nil, append_assoc, bare_row, cell_read, get_or, hub_feeds, hub_rows_in, known_keys, length, map, map-append, pit_read, refl, sym, take, take_more, told, with_cell, with_cells}
use Rattle.dv_pit.proofs.Vocabulary.{ℕ, ◌++◌, ◌+◌, ◌<◌, ◌∙◌, ◌∷◌, ◌≡◌}

-- no cell more leaves the rows
pub none_more : (rows : List PitRow) → map (with_cells (λ key. [])) rows ≡ rows
none_more [] = refl
none_more (row ∷ rows) =
    let first : with_cells (λ key. []) row ≡ row = ap (λ cells. record { key = row.key; cells = cells }) (append-nil row.cells) in
    let rest = none_more rows in
    λ i. first i ∷ rest i

-- one cell behind others
pub one_more : (cells : List ℕ → List PitCell) (cell : List ℕ → PitCell) (rows : List PitRow) → map (with_cell cell) (map (with_cells cells) rows) ≡ map (with_cells (λ key. cells key ++ cell key ∷ [])) rows
one_more cells cell [] = refl
one_more cells cell (row ∷ rows) =
    let first : with_cell cell (with_cells cells row) ≡ with_cells (λ key. cells key ++ cell key ∷ []) row = ap (λ cells. record { key = row.key; cells = cells }) (append_assoc row.cells (cells row.key) (cell row.key ∷ [])) in
    let rest = one_more cells cell rows in
    λ i. first i ∷ rest i

-- the cells of one feed more
pub cells_grow : (read : List ℕ → ℕ × FeedDef → PitCell) (feeds : List HubFeed) (i : ℕ) (item : HubFeed) (start before after : List PitRow) → i < length feeds → item ≡ get_or feeds i item
    → before ≡ map (with_cells (λ key. map (read key) (map told (take i feeds)))) start → after ≡ map (with_cell (λ key. read key (told item))) before
    → after ≡ map (with_cells (λ key. map (read key) (map told (take (i + 1) feeds)))) start
cells_grow read feeds i item start before after at is so_far step =
    step
    ∙ ap (map (with_cell (λ key. read key (told item)))) so_far
    ∙ one_more (λ key. map (read key) (map told (take i feeds))) (λ key. read key (told item)) start
    ∙ (λ j. map (with_cells (λ key. grown key j)) start)
  where
    more : take (i + 1) feeds ≡ take i feeds ++ item ∷ []
    more = take_more feeds i item at ∙ ap (λ x. take i feeds ++ x ∷ []) (sym is)

    grown : (key : List ℕ) → map (read key) (map told (take i feeds)) ++ read key (told item) ∷ [] ≡ map (read key) (map told (take (i + 1) feeds))
    grown key =
        sym
        (ap (λ xs. map (read key) (map told xs)) more
        ∙ ap (map (read key)) (map-append told (take i feeds) (item ∷ []))
        ∙ map-append (read key) (map told (take i feeds)) (told item ∷ []))

-- the rows of keys
pub of_keys : (cells : List ℕ → List PitCell) (keys : List (List ℕ)) → map (with_cells cells) (map bare_row keys) ≡ map (λ key. record { key = key; cells = cells key }) keys
of_keys cells [] = refl
of_keys cells (key ∷ keys) = ap (λ rest. record { key = key; cells = cells key } ∷ rest) (of_keys cells keys)

-- a hub's keys with the cells of its feeds are what the tables say
pub table_of : (mapping : Mapping) (tables : List TableRows) (hub date : ℕ) (hubs : List HubRow) (feeds : List (ℕ × FeedDef)) (bare after : List PitRow) → hubs ≡ hub_rows_in hub tables → bare ≡ map bare_row (known_keys hubs date)
    → feeds ≡ hub_feeds mapping hub → after ≡ map (with_cells (λ key. map (cell_read tables date key) feeds)) bare → after ≡ pit_read mapping tables hub date
table_of mapping tables hub date hubs feeds bare after hubs_are bare_are feeds_are made =
    made
    ∙ ap (map (with_cells (λ key. map (cell_read tables date key) feeds))) (bare_are ∙ ap (λ rows. map bare_row (known_keys rows date)) hubs_are)
    ∙ of_keys (λ key. map (cell_read tables date key) feeds) (known_keys (hub_rows_in hub tables) date)
    ∙ ap (λ feeds. map (λ key. record { key = key; cells = map (cell_read tables date key) feeds }) (known_keys (hub_rows_in hub tables) date)) feeds_are
