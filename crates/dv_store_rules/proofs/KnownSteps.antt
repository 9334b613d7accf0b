-- What the code knows of a store, with one table more.
use Rattle.dv_store_rules.proofs.Vocabulary.{Hashes, HubRow, Hubs, Indexed, IsKnown, Known, KnownTables, LinkRow, Links, List, Rows, TableId, TableRows, [], ap, arith, cases_eq, eq-eqb, eqb-true, false, false_from_ne_true, hub_rows, if◌then◌else◌, inl, inr, is_of_feed, length, link_rows}
use Rattle.dv_store_rules.proofs.Vocabulary.{list_any, or_parts, refl, rows_in, rows_weight, rules, suc, sum_by_push, sym, table_eq, true, zero, ℕ, ◌++◌, ◌+◌, ◌==◌, ◌∙◌, ◌∷◌, ◌≡◌}
use Rattle.dv_store_rules.specs.KnownTables.{rows_at}
use Rattle.dv_catalog.specs.declared.tables.TableId.TheVariants.{Hub, Link}

-- ---- one entry more

-- its rows are those of its table, where the table had no entry
own_rows : (id : TableId) (tables : List TableRows) (entry : TableRows) → list_any (λ other. table_eq other.table id) tables ≡ false → table_eq entry.table id ≡ true → rows_in id (tables ++ entry ∷ []) ≡ entry.rows
own_rows id [] entry none same = rw same refl
own_rows id (first ∷ tables) entry none same =
    let (here, rest) = or_parts (table_eq first.table id) _ none in
    rw here (own_rows id tables entry rest same)

-- other tables have the rows that they had
other_rows : (id : TableId) (tables : List TableRows) (entry : TableRows) → table_eq entry.table id ≡ false → rows_in id (tables ++ entry ∷ []) ≡ rows_in id tables
other_rows id [] entry differs = rw differs refl
other_rows id (first ∷ tables) entry differs = ap (λ (rows : Rows). if table_eq first.table id then first.rows else rows) (other_rows id tables entry differs)

-- ---- one table more

last_at : {R : Type 0} (tables : List (Indexed R)) (table : Indexed R) → rows_at (tables ++ table ∷ []) (length tables) ≡ table.rows
last_at [] table = refl
last_at (first ∷ tables) table = last_at tables table

others_at : {R : Type 0} (tables : List (Indexed R)) (table : Indexed R) (place : ℕ) → (place ≡ length tables → ⊥) → rows_at (tables ++ table ∷ []) place ≡ rows_at tables place
others_at [] table zero differs = absurd (differs refl)
others_at [] table (suc place) differs = refl
others_at (first ∷ tables) table zero differs = refl
others_at (first ∷ tables) table (suc place) differs = others_at tables table place (λ same. differs (omega (arith, same)))

differ : (a b : ℕ) → (b ≡ a → ⊥) → (a == b) ≡ false
differ a b other = false_from_ne_true (a == b) (λ same. other (sym (eqb-true a b same)))

-- a table of a feed is none of a hub or a link
no_hub : (id : TableId) → is_of_feed id ≡ true → (hub : ℕ) → table_eq id (Hub hub) ≡ false
no_hub id e hub = search rules

no_link : (id : TableId) → is_of_feed id ≡ true → (link : ℕ) → table_eq id (Link link) ≡ false
no_link id e link = search rules

module _ (hashes : Hashes) (width : ℕ) (known : KnownTables) (read : Known) (is : IsKnown hashes width known read) (next : KnownTables) (catalog : next.catalog.now ≡ known.catalog.now) (heads : next.heads.now ≡ known.heads.now) where
  -- with the table of the next hub
  pub hub_known : (table : Indexed HubRow) → next.hubs.now ≡ known.hubs.now ++ table ∷ [] → next.links.now ≡ known.links.now → next.weight ≡ known.weight + rows_weight (Hubs table.rows)
      → list_any (λ other. table_eq other.table (Hub (length known.hubs.now))) read.tables ≡ false
      → IsKnown hashes width next (record read { tables = read.tables ++ record { table = Hub (length known.hubs.now); rows = Hubs table.rows } ∷ [] })
  hub_known table hubs links weight none =
      let count = length known.hubs.now in
      let entry : TableRows = record { table = Hub count; rows = Hubs table.rows } in
      record {
        mapping = is.mapping ∙ sym catalog;
        hashes = is.hashes;
        width = is.width;
        heads = is.heads ∙ sym heads;
        hubs = λ hub. rw hubs (elim (cases_eq hub count) [
          | inl same ↦ rw same (ap hub_rows (own_rows (Hub count) read.tables entry none (eq-eqb count count refl)) ∙ sym (last_at known.hubs.now table))
          | inr other ↦ ap hub_rows (other_rows (Hub hub) read.tables entry (differ count hub other)) ∙ is.hubs hub ∙ sym (others_at known.hubs.now table hub other)
        ]);
        links = λ link. rw links (ap link_rows (other_rows (Link link) read.tables entry refl) ∙ is.links link);
        weight = rw (sum_by_push (λ (other : TableRows). rows_weight other.rows) read.tables entry, is.weight) (sym weight);
      }

  -- with the table of the next link
  pub link_known : (table : Indexed LinkRow) → next.hubs.now ≡ known.hubs.now → next.links.now ≡ known.links.now ++ table ∷ [] → next.weight ≡ known.weight + rows_weight (Links table.rows)
      → list_any (λ other. table_eq other.table (Link (length known.links.now))) read.tables ≡ false
      → IsKnown hashes width next (record read { tables = read.tables ++ record { table = Link (length known.links.now); rows = Links table.rows } ∷ [] })
  link_known table hubs links weight none =
      let count = length known.links.now in
      let entry : TableRows = record { table = Link count; rows = Links table.rows } in
      record {
        mapping = is.mapping ∙ sym catalog;
        hashes = is.hashes;
        width = is.width;
        heads = is.heads ∙ sym heads;
        hubs = λ hub. rw hubs (ap hub_rows (other_rows (Hub hub) read.tables entry refl) ∙ is.hubs hub);
        links = λ link. rw links (elim (cases_eq link count) [
          | inl same ↦ rw same (ap link_rows (own_rows (Link count) read.tables entry none (eq-eqb count count refl)) ∙ sym (last_at known.links.now table))
          | inr other ↦ ap link_rows (other_rows (Link link) read.tables entry (differ count link other)) ∙ is.links link ∙ sym (others_at known.links.now table link other)
        ]);
        weight = rw (sum_by_push (λ (other : TableRows). rows_weight other.rows) read.tables entry, is.weight) (sym weight);
      }

  -- with a table of a feed
  pub feed_known : (entry : TableRows) → is_of_feed entry.table ≡ true → next.hubs.now ≡ known.hubs.now → next.links.now ≡ known.links.now
      → next.weight ≡ known.weight + rows_weight entry.rows → IsKnown hashes width next (record read { tables = read.tables ++ entry ∷ [] })
  feed_known entry of_feed hubs links weight = record {
    mapping = is.mapping ∙ sym catalog;
    hashes = is.hashes;
    width = is.width;
    heads = is.heads ∙ sym heads;
    hubs = λ hub. rw hubs (ap hub_rows (other_rows (Hub hub) read.tables entry (no_hub entry.table of_feed hub)) ∙ is.hubs hub);
    links = λ link. rw links (ap link_rows (other_rows (Link link) read.tables entry (no_link entry.table of_feed link)) ∙ is.links link);
    weight = rw (sum_by_push (λ (other : TableRows). rows_weight other.rows) read.tables entry, is.weight) (sym weight);
  }
