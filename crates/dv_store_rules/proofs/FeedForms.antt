-- What the rules of a feed's rows look up is what is read of a store.
use Rattle.dv_store_rules.proofs.Vocabulary.{Bool, FeedDef, Hashes, Hub, IsKnown, Known, KnownTables, Link, List, Mapping, None, Option, Parent, Some, and_from, and_parts, are_texts, arith, attrs_fit, bytes_eq, eqb-true, false, has_number, has_parent, is_among, is_delivered, is_in_parent}
use Rattle.dv_store_rules.proofs.Vocabulary.{is_source, is_under, is_valid, le-leb, length, list_any, map, option_map, option_map_or, refl, slice_get, source_by, sum_by, sym, true, valid_feed, ℕ, ◌+◌, ◌==◌, ◌∙◌, ◌≡◌, ◌≤◌}
use Rattle.dv_store_rules.proofs.RuleParts.{source_told}

-- what the rules of a feed's rows look up is what was read
pub record LooksUp (read : Known) (feed : ℕ) (loads : List ℕ) (sources : List (List ℕ)) (under : List ℕ → Bool) : Type 0 where
  pub parent : (digest : List ℕ) → has_parent read feed digest ≡ under digest
  pub loaded : (load : ℕ) → is_delivered read.heads feed load ≡ has_number loads load
  pub source : (source : List ℕ) → is_source read.mapping source ≡ is_among sources source

module _ (hashes : Hashes) (width : ℕ) (known : KnownTables) (read : Known) (is : IsKnown hashes width known read) where
  parent_is : (parent : Parent) (digest : List ℕ) → is_in_parent read.tables parent digest ≡ is_under known.hubs.now known.links.now (Some parent) digest
  parent_is (Hub hub) digest = λ i. list_any (λ row. bytes_eq row.digest digest) (is.hubs hub i)
  parent_is (Link link) digest = λ i. list_any (λ row. bytes_eq row.digest digest) (is.links link i)

  by_parent : (def : Option FeedDef) (digest : List ℕ)
      → option_map_or (λ feed. is_in_parent read.tables feed.parent digest) def false ≡ is_under known.hubs.now known.links.now (option_map (λ feed. feed.parent) def) digest
  by_parent None digest = refl
  by_parent (Some def) digest = parent_is def.parent digest

  pub looks_up : (feed : ℕ) (loads : List ℕ) (sources : List (List ℕ)) (under : List ℕ → Bool) → ((load : ℕ) → has_number loads load ≡ is_delivered known.heads.now feed load) → sources ≡ map (λ feed. source_by (Some feed)) known.catalog.now.feeds
      → ((digest : List ℕ) → under digest ≡ is_under known.hubs.now known.links.now (option_map (λ def. def.parent) (slice_get known.catalog.now.feeds feed)) digest) → LooksUp read feed loads sources under
  looks_up feed loads sources under told from beneath = record {
    parent = λ digest. rw is.mapping (by_parent (slice_get known.catalog.now.feeds feed) digest) ∙ sym (beneath digest);
    loaded = λ load. rw is.heads (sym (told load));
    source = λ source. rw is.mapping (source_told known.catalog.now sources source from);
  }

-- ---- how many texts there are

fewer : (keys sub attrs : ℕ) → keys + sub + attrs ≤ 32 → attrs ≤ 32
fewer keys sub attrs few = omega arith

pub few_attrs : (mapping : Mapping) (feed : ℕ) (def : FeedDef) → is_valid mapping ≡ true → slice_get mapping.feeds feed ≡ Some def → length def.attrs ≤ 32
few_attrs mapping feed def valid there = fewer (sum_by length def.keys) (length def.sub) (length def.attrs) (valid_feed mapping valid feed def there).few_columns

-- few texts, none of them too long, fit a room
pub texts_fit : (count : ℕ) (texts : List (List ℕ)) → count ≤ 32 → are_texts count texts ≡ true → attrs_fit texts ≡ true
texts_fit count texts few form =
    let (counted, short) = and_parts (length texts == count) _ form in
    let is : length texts ≡ count = eqb-true (length texts) count counted in
    and_from _ _ (le-leb (length texts) 32 (omega arith)) short
