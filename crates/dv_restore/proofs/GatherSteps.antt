-- One raw table more that is gathered, behind those before it in table order.
use Rattle.dv_restore.proofs.Vocabulary.{AreGathered, AreRead, Damage, Gathered, HasPut, HubId, Hubs, IsKnown, IsKnownBy, IsPut, IsRawDamage, Known, KnownTables, LinkId, Links, List, None, Option, Some, Store, Table, TableId, TableRows, TellsKnown, Told, [], add-one, ap, append-nil, damage_at}
use Rattle.dv_restore.proofs.Vocabulary.{drop, drop-cons, entries_in, entry_of, false, feed_known, flaw_in, get_or, hub_known, is_of_feed, length, link_known, list_any, option_map, refl, rows_in, rows_weight, rules, subst, suc, sum_by_push, sym, table_eq, table_name, tables, tables_weight, take}
use Rattle.dv_restore.proofs.Vocabulary.{take-append-drop, take_more, true, ℕ, ◌++◌, ◌+◌, ◌<◌, ◌∙◌, ◌∷◌, ◌≡◌}
use Rattle.dv_restore.proofs.{GatheredEntries.IsNext, GatheredEntries.entries_put, ReadSteps.more_read, ReadSteps.read_damaged, TablePlaces.IsPlaced, TablePlaces.counted_put, TablePlaces.next_of, TablePlaces.none_before, TablePlaces.placed}
use Rattle.dv_vault.specs.declared.tables.Table.TheVariants as table

-- ---- what is known

module _ (first : Known) (old new : Gathered) (weight : ℕ) (known : KnownTables) (is : IsKnownBy first.mapping first.heads old known) (tells : TellsKnown first old) where
  abbrev read : Known
  read = record first { tables = entries_in old }

  feed_tells : (next : Table) → is_of_feed (entry_of next).table ≡ true → HasPut old [] [] (next ∷ []) weight new → weight ≡ known.weight + rows_weight (entry_of next).rows
      → entries_in new ≡ entries_in old ++ entry_of next ∷ [] → TellsKnown first new
  feed_tells next of put sum entries known' is' =
      subst (λ l. IsKnown first.hashes first.width known' (record first { tables = l })) (sym entries)
      (feed_known first.hashes first.width known read (tells known is) known' (is'.catalog_is ∙ sym is.catalog_is) (is'.heads_are ∙ sym is.heads_are) (entry_of next) of
      (is'.hubs_are ∙ put.hubs_are ∙ append-nil old.hubs.items ∙ sym is.hubs_are) (is'.links_are ∙ put.links_are ∙ append-nil old.links.items ∙ sym is.links_are) (is'.weight_is ∙ put.weight_is ∙ sum))

  known_put : (next : Table) → IsPut old next weight new → IsNext old (entry_of next).table → list_any (λ other. table_eq other.table (entry_of next).table) (entries_in old) ≡ false
      → weight ≡ known.weight + rows_weight (entry_of next).rows → TellsKnown first new
  known_put (table.Hub hub rows) put next none sum known' is' =
      let place : length known.hubs.now ≡ hub = ap length is.hubs_are ∙ sym next.0 in
      let entries : entries_in old ++ record { table = HubId (length known.hubs.now); rows = Hubs rows.rows } ∷ [] ≡ entries_in new =
      ap (λ n. entries_in old ++ record { table = HubId n; rows = Hubs rows.rows } ∷ []) place ∙ sym (entries_put old new weight (table.Hub hub rows) put next) in
      subst (λ l. IsKnown first.hashes first.width known' (record first { tables = l })) entries
      (hub_known first.hashes first.width known read (tells known is) known' (is'.catalog_is ∙ sym is.catalog_is) (is'.heads_are ∙ sym is.heads_are) rows
      (is'.hubs_are ∙ put.hubs_are ∙ ap (λ l. l ++ rows ∷ []) (sym is.hubs_are)) (is'.links_are ∙ put.links_are ∙ append-nil old.links.items ∙ sym is.links_are) (is'.weight_is ∙ put.weight_is ∙ sum)
      (ap (λ n. list_any (λ other. table_eq other.table (HubId n)) (entries_in old)) place ∙ none))
  known_put (table.Link link rows) put next none sum known' is' =
      let place : length known.links.now ≡ link = ap length is.links_are ∙ sym next.0 in
      let entries : entries_in old ++ record { table = LinkId (length known.links.now); rows = Links rows.rows } ∷ [] ≡ entries_in new =
      ap (λ n. entries_in old ++ record { table = LinkId n; rows = Links rows.rows } ∷ []) place ∙ sym (entries_put old new weight (table.Link link rows) put next) in
      subst (λ l. IsKnown first.hashes first.width known' (record first { tables = l })) entries
      (link_known first.hashes first.width known read (tells known is) known' (is'.catalog_is ∙ sym is.catalog_is) (is'.heads_are ∙ sym is.heads_are) rows
      (is'.hubs_are ∙ put.hubs_are ∙ append-nil old.hubs.items ∙ sym is.hubs_are) (is'.links_are ∙ put.links_are ∙ ap (λ l. l ++ rows ∷ []) (sym is.links_are)) (is'.weight_is ∙ put.weight_is ∙ sum)
      (ap (λ n. list_any (λ other. table_eq other.table (LinkId n)) (entries_in old)) place ∙ none))
  known_put (table.Sat feed rows) put next none sum known' is' = feed_tells (table.Sat feed rows) refl put sum (entries_put old new weight (table.Sat feed rows) put next) known' is'
  known_put (table.Multi feed rows) put next none sum known' is' = feed_tells (table.Multi feed rows) refl put sum (entries_put old new weight (table.Multi feed rows) put next) known' is'
  known_put (table.Status feed rows) put next none sum known' is' = feed_tells (table.Status feed rows) refl put sum (entries_put old new weight (table.Status feed rows) put next) known' is'
  known_put (table.Effect feed rows) put next none sum known' is' = feed_tells (table.Effect feed rows) refl put sum (entries_put old new weight (table.Effect feed rows) put next) known' is'

put_weight : (old new : Gathered) (weight : ℕ) (next : Table) → IsPut old next weight new → new.weight ≡ weight
put_weight old new weight next put = search rules

-- ---- one table more

module _ (first : Known) (told : Option Store) (items : List TableId) (all : items ≡ tables first.mapping) (i : ℕ) (id : TableId) (within : i < length items) (here : get_or items i id ≡ id)
    (old : Gathered) (is : AreGathered first told (take i items) i old) where
  split : tables first.mapping ≡ take i items ++ id ∷ drop (i + 1) items
  split =
      sym all ∙ sym (take-append-drop i items)
      ∙ ap (λ l. take i items ++ l) (drop-cons items i id within ∙ ap (λ t. t ∷ drop (suc i) items) here ∙ ap (λ n. id ∷ drop n items) (sym (add-one i)))

  pub gathered_more : (new : Gathered) (next : Table) (weight : ℕ) (known : KnownTables) → IsKnownBy first.mapping first.heads old known → IsPut old next weight new → (entry_of next).table ≡ id → weight ≡ known.weight + rows_weight (entry_of next).rows
      → flaw_in (record first { tables = entries_in old }) id (entry_of next).rows ≡ None → Told told (λ s. (entry_of next).rows ≡ rows_in id s.tables) → AreGathered first told (take (i + 1) items) (i + 1) new
  gathered_more new next weight known by put same sum clear stored =
      let at : IsPlaced first.mapping i id = placed first.mapping i id (subst (λ l. i < length l) all within) (subst (λ l. get_or l i id ≡ id) all here) in
      let place : IsPlaced first.mapping i (entry_of next).table = subst (IsPlaced first.mapping i) (sym same) at in
      let behind : IsNext old (entry_of next).table = next_of first.mapping i old is.counted (entry_of next).table place in
      let none : list_any (λ other. table_eq other.table (entry_of next).table) (entries_in old) ≡ false =
      none_before first.mapping (entries_in old) (entry_of next).table (drop (i + 1) items) ((λ j. is.read.ids_are j ++ same j ∷ drop (i + 1) items) ∙ sym split) in
      let entries : entries_in new ≡ entries_in old ++ entry_of next ∷ [] = entries_put old new weight next put behind in
      let taken : take (i + 1) items ≡ take i items ++ id ∷ [] = take_more items i id within ∙ ap (λ t. take i items ++ t ∷ []) here in
      record {
        read = subst (λ l. AreRead first told l (entries_in new)) (sym taken)
            (subst (AreRead first told (take i items ++ id ∷ [])) (sym entries) (more_read first told (take i items) (entries_in old) is.read id (entry_of next) same clear stored));
        known = known_put first old new weight known by is.known next put behind none sum;
        weight =
            put_weight old new weight next put ∙ sum ∙ ap (λ n. n + rows_weight (entry_of next).rows) (by.weight_is ∙ is.weight)
            ∙ sym (sum_by_push (λ (other : TableRows). rows_weight other.rows) (entries_in old) (entry_of next)) ∙ ap tables_weight (sym entries);
        counted = counted_put first.mapping i old is.counted weight new next put place;
      }

  pub gathered_damaged : (damage : Damage) → Told told (λ s. option_map (damage_at (table_name first.mapping id)) (flaw_in (record first { tables = entries_in old }) id (rows_in id s.tables)) ≡ Some damage) → IsRawDamage first told damage
  gathered_damaged damage found = read_damaged first told (take i items) (entries_in old) is.read id (drop (i + 1) items) split damage found
