-- The entries of tables that are gathered, with one table more.
use Rattle.dv_restore.proofs.Vocabulary.{Effect, Gathered, HasPut, HubId, HubRow, Hubs, Indexed, IsPut, LinkId, LinkRow, Links, List, Multi, Sat, Status, Table, TableId, TableRows, [], ap, append-nil, append_assoc, arith, entries_in, entry_of, hub_entries, length, link_entries, map, map-append}
use Rattle.dv_restore.proofs.Vocabulary.{nil_from_length, suc, sym, zero-add, ℕ, ◌++◌, ◌+◌, ◌∙◌, ◌∷◌, ◌≡◌}
use Rattle.dv_vault.specs.declared.tables.Table.TheVariants as table

-- ---- one table more behind those of its kind

hubs_push : (n : ℕ) (hubs : List (Indexed HubRow)) (rows : Indexed HubRow) → hub_entries n (hubs ++ rows ∷ []) ≡ hub_entries n hubs ++ record { table = HubId (n + length hubs); rows = Hubs rows.rows } ∷ []
hubs_push n [] rows = let number : n ≡ n + 0 = omega arith in ap (λ k. record { table = HubId k; rows = Hubs rows.rows } ∷ []) number
hubs_push n (first ∷ hubs) rows =
    let number : n + 1 + length hubs ≡ n + suc (length hubs) = omega arith in
    ap (λ (l : List TableRows). record { table = HubId n; rows = Hubs first.rows } ∷ l) (hubs_push (n + 1) hubs rows ∙ ap (λ k. hub_entries (n + 1) hubs ++ record { table = HubId k; rows = Hubs rows.rows } ∷ []) number)

links_push : (n : ℕ) (links : List (Indexed LinkRow)) (rows : Indexed LinkRow) → link_entries n (links ++ rows ∷ []) ≡ link_entries n links ++ record { table = LinkId (n + length links); rows = Links rows.rows } ∷ []
links_push n [] rows = let number : n ≡ n + 0 = omega arith in ap (λ k. record { table = LinkId k; rows = Links rows.rows } ∷ []) number
links_push n (first ∷ links) rows =
    let number : n + 1 + length links ≡ n + suc (length links) = omega arith in
    ap (λ (l : List TableRows). record { table = LinkId n; rows = Links first.rows } ∷ l) (links_push (n + 1) links rows ∙ ap (λ k. link_entries (n + 1) links ++ record { table = LinkId k; rows = Links rows.rows } ∷ []) number)

-- counted from the first
hubs_end : (hubs : List (Indexed HubRow)) (rows : Indexed HubRow) → hub_entries 0 (hubs ++ rows ∷ []) ≡ hub_entries 0 hubs ++ record { table = HubId (length hubs); rows = Hubs rows.rows } ∷ []
hubs_end hubs rows = hubs_push 0 hubs rows ∙ ap (λ k. hub_entries 0 hubs ++ record { table = HubId k; rows = Hubs rows.rows } ∷ []) (zero-add (length hubs))

links_end : (links : List (Indexed LinkRow)) (rows : Indexed LinkRow) → link_entries 0 (links ++ rows ∷ []) ≡ link_entries 0 links ++ record { table = LinkId (length links); rows = Links rows.rows } ∷ []
links_end links rows = links_push 0 links rows ∙ ap (λ k. link_entries 0 links ++ record { table = LinkId k; rows = Links rows.rows } ∷ []) (zero-add (length links))

-- ---- tables of one kind that are put behind others

pub hubs_more : (before : List TableRows) (tables pushed : List Table) (hubs : List (Indexed HubRow)) (hub : ℕ) (rows : Indexed HubRow) → map entry_of tables ≡ before ++ hub_entries 0 hubs → hub ≡ length hubs → pushed ≡ tables ++ table.Hub hub rows ∷ []
    → map entry_of pushed ≡ before ++ hub_entries 0 (hubs ++ rows ∷ [])
hubs_more before tables pushed hubs hub rows so_far place push =
    ap (map entry_of) push ∙ map-append entry_of tables (table.Hub hub rows ∷ [])
    ∙ (λ i. so_far i ++ record { table = HubId (place i); rows = Hubs rows.rows } ∷ [])
    ∙ append_assoc before (hub_entries 0 hubs) (record { table = HubId (length hubs); rows = Hubs rows.rows } ∷ [])
    ∙ ap (λ (l : List TableRows). before ++ l) (sym (hubs_end hubs rows))

pub links_more : (before : List TableRows) (tables pushed : List Table) (links : List (Indexed LinkRow)) (link : ℕ) (rows : Indexed LinkRow) → map entry_of tables ≡ before ++ link_entries 0 links → link ≡ length links → pushed ≡ tables ++ table.Link link rows ∷ []
    → map entry_of pushed ≡ before ++ link_entries 0 (links ++ rows ∷ [])
links_more before tables pushed links link rows so_far place push =
    ap (map entry_of) push ∙ map-append entry_of tables (table.Link link rows ∷ [])
    ∙ (λ i. so_far i ++ record { table = LinkId (place i); rows = Links rows.rows } ∷ [])
    ∙ append_assoc before (link_entries 0 links) (record { table = LinkId (length links); rows = Links rows.rows } ∷ [])
    ∙ ap (λ (l : List TableRows). before ++ l) (sym (links_end links rows))

-- ---- one table more behind all

abbrev of_lists : List (Indexed HubRow) → List (Indexed LinkRow) → List Table → List TableRows
of_lists hubs links feeds = hub_entries 0 hubs ++ link_entries 0 links ++ map entry_of feeds

hub_behind : (hubs : List (Indexed HubRow)) (rows : Indexed HubRow) → of_lists (hubs ++ rows ∷ []) [] [] ≡ of_lists hubs [] [] ++ record { table = HubId (length hubs); rows = Hubs rows.rows } ∷ []
hub_behind hubs rows =
    alone (hubs ++ rows ∷ []) ∙ hubs_end hubs rows
    ∙ ap (λ (l : List TableRows). l ++ record { table = HubId (length hubs); rows = Hubs rows.rows } ∷ []) (sym (alone hubs))
  where
    alone : (hubs : List (Indexed HubRow)) → of_lists hubs [] [] ≡ hub_entries 0 hubs
    alone hubs = append-nil (hub_entries 0 hubs ++ []) ∙ append-nil (hub_entries 0 hubs)

link_behind : (hubs : List (Indexed HubRow)) (links : List (Indexed LinkRow)) (rows : Indexed LinkRow)
    → of_lists hubs (links ++ rows ∷ []) [] ≡ of_lists hubs links [] ++ record { table = LinkId (length links); rows = Links rows.rows } ∷ []
link_behind hubs links rows =
    let entry : TableRows = record { table = LinkId (length links); rows = Links rows.rows } in
    append-nil (hub_entries 0 hubs ++ link_entries 0 (links ++ rows ∷ []))
    ∙ ap (λ (l : List TableRows). hub_entries 0 hubs ++ l) (links_end links rows)
    ∙ sym (append_assoc (hub_entries 0 hubs) (link_entries 0 links) (entry ∷ []))
    ∙ ap (λ (l : List TableRows). l ++ entry ∷ []) (sym (append-nil (hub_entries 0 hubs ++ link_entries 0 links)))

feed_behind : (hubs : List (Indexed HubRow)) (links : List (Indexed LinkRow)) (feeds : List Table) (next : Table) → of_lists hubs links (feeds ++ next ∷ []) ≡ of_lists hubs links feeds ++ entry_of next ∷ []
feed_behind hubs links feeds next =
    ap (λ (l : List TableRows). hub_entries 0 hubs ++ link_entries 0 links ++ l) (map-append entry_of feeds (next ∷ []))
    ∙ sym (append_assoc (hub_entries 0 hubs ++ link_entries 0 links) (map entry_of feeds) (entry_of next ∷ []))

-- ---- a table that is put

-- a table is the next one: it has the next place of its kind, and none of a later kind is gathered
abbrev pub IsNext : Gathered → TableId → Type 0
IsNext gathered (HubId n) = (n ≡ length gathered.hubs.items) × (length gathered.links.items ≡ 0) × (length gathered.feeds.items ≡ 0)
IsNext gathered (LinkId n) = (n ≡ length gathered.links.items) × (length gathered.feeds.items ≡ 0)
IsNext gathered (Sat n) = Unit {0}
IsNext gathered (Multi n) = Unit {0}
IsNext gathered (Status n) = Unit {0}
IsNext gathered (Effect n) = Unit {0}

module _ (old new : Gathered) (weight : ℕ) where
  feed_put : (next : Table) → HasPut old [] [] (next ∷ []) weight new → entries_in new ≡ entries_in old ++ entry_of next ∷ []
  feed_put next put =
      (λ i. of_lists ((put.hubs_are ∙ append-nil old.hubs.items) i) ((put.links_are ∙ append-nil old.links.items) i) (put.feeds_are i))
      ∙ feed_behind old.hubs.items old.links.items old.feeds.items next

  -- the next table stands behind all that are gathered
  pub entries_put : (next : Table) → IsPut old next weight new → IsNext old (entry_of next).table → entries_in new ≡ entries_in old ++ entry_of next ∷ []
  entries_put (table.Hub hub rows) put (place, no_links, no_feeds) =
      let old_links = nil_from_length old.links.items no_links in
      let old_feeds = nil_from_length old.feeds.items no_feeds in
      (λ i. of_lists (put.hubs_are i) ((put.links_are ∙ append-nil old.links.items ∙ old_links) i) ((put.feeds_are ∙ append-nil old.feeds.items ∙ old_feeds) i))
      ∙ hub_behind old.hubs.items rows
      ∙ (λ i. of_lists old.hubs.items (sym old_links i) (sym old_feeds i) ++ record { table = HubId (sym place i); rows = Hubs rows.rows } ∷ [])
  entries_put (table.Link link rows) put (place, no_feeds) =
      let old_feeds = nil_from_length old.feeds.items no_feeds in
      (λ i. of_lists ((put.hubs_are ∙ append-nil old.hubs.items) i) (put.links_are i) ((put.feeds_are ∙ append-nil old.feeds.items ∙ old_feeds) i))
      ∙ link_behind old.hubs.items old.links.items rows
      ∙ (λ i. of_lists old.hubs.items old.links.items (sym old_feeds i) ++ record { table = LinkId (sym place i); rows = Links rows.rows } ∷ [])
  entries_put (table.Sat feed rows) put next = feed_put (table.Sat feed rows) put
  entries_put (table.Multi feed rows) put next = feed_put (table.Multi feed rows) put
  entries_put (table.Status feed rows) put next = feed_put (table.Status feed rows) put
  entries_put (table.Effect feed rows) put next = feed_put (table.Effect feed rows) put
