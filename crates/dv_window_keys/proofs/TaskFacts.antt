-- The tasks of a window: how many they are, that their tables are in the mapping, and what holds of all their results.
use Rattle.dv_window_keys.proofs.Vocabulary.{All, AreResults, Batch, Contains, Contains-append_left, Contains-append_right, Contains-cons_cases, Contains-cons_here, Contains-cons_there, Contains-nil, FeedDef, HashedExtract, Hashes, IsHashedAt, Keys, List, Mapping, None, Option, Some, Staged}
use Rattle.dv_window_keys.proofs.Vocabulary.{TableId, Window, [], and_parts, ap, arith, ascends, effect_tables, ext_get_or, feed_block, feed_tables, feed_tasks, flat_map, flat_map_member, get_or, get_or_from_slice_get, got_from, inl, inr, is_valid, is_window, length, length-append, length-map}
use Rattle.dv_window_keys.proofs.Vocabulary.{list_all, map, map_member, nat_lt, nat_tests, nil_from_length, option_map, option_map_or, passes_at, range_with_len, refl, same_Some, sat_tables, slice_get, slice_get-get_or, slice_get-map, slice_get_within, subst, suc, sym, tables, tables_of_feed}
use Rattle.dv_window_keys.proofs.Vocabulary.{tasks, true, valid_parts, window_parts, zero, ℕ, ◌*◌, ◌++◌, ◌+◌, ◌<◌, ◌∙◌, ◌∷◌, ◌≡◌, ◌≤◌}
use Rattle.dv_window_keys.proofs.WindowFacts.{rows_of_staged}
use Rattle.dv_catalog.specs.declared.tables.TableId.TheVariants as ids

-- ---- how many tasks there are

few_ascending : (ns : List ℕ) (low high : ℕ) → ascends ns ≡ true → low ≤ high → ((n : ℕ) → Contains ns n → (low ≤ n) × (n < high)) → low + length ns ≤ high
few_ascending [] low high up le within = omega (arith, le)
few_ascending (n ∷ ns) low high up le within =
    let before = and_parts (list_all (nat_lt n) ns) (ascends ns) up in
    let first = within n (Contains-cons_here n ns) in
    let from = first.0 in
    let under = first.1 in
    let rest = few_ascending ns (n + 1) high before.1 (omega (arith, under)) (λ m has. (above m (passes_at (nat_lt n) ns m before.0 has), (within m (Contains-cons_there n ns m has)).1)) in
    omega (arith, rest, from)
  where
    above : (m : ℕ) → nat_lt n m ≡ true → n + 1 ≤ m
    above m e = grind (arith, nat_tests, e)

few_sats : (n : ℕ) (sub attrs : List (List ℕ)) → length (sat_tables n sub attrs) ≤ 1
few_sats n sub [] = omega arith
few_sats n [] (a ∷ attrs) = omega arith
few_sats n (s ∷ sub) (a ∷ attrs) = omega arith

few_effects : (n : ℕ) (driver : List ℕ) → length (effect_tables n driver) ≤ 1
few_effects n [] = omega arith
few_effects n (d ∷ driver) = omega arith

few_of_feed : (mapping : Mapping) (n : ℕ) → length (feed_tasks mapping n) ≤ 4
few_of_feed mapping n = let many = length-map (tables_of_feed mapping n) (λ table. Batch table) in let few = by (slice_get mapping.feeds n) refl in omega (arith, many, few)
  where
    by : (found : Option FeedDef) → slice_get mapping.feeds n ≡ found → length (tables_of_feed mapping n) ≤ 3
    by None got = rw got (omega arith)
    by (Some feed) got =
        let long = length-append (sat_tables n feed.sub feed.attrs) (ids.Status n ∷ effect_tables n feed.driver) in
        let sats = few_sats n feed.sub feed.attrs in
        let effects = few_effects n feed.driver in
        rw got (omega (arith, long, sats, effects))

four_each : (mapping : Mapping) (extracts : List Staged) → length (flat_map (λ staged. feed_tasks mapping staged.feed) extracts) ≤ 4 * length extracts
four_each mapping [] = omega arith
four_each mapping (staged ∷ extracts) =
    let long = length-append (feed_tasks mapping staged.feed) (flat_map (λ staged. feed_tasks mapping staged.feed) extracts) in
    let here = few_of_feed mapping staged.feed in
    let rest = four_each mapping extracts in
    omega (arith, long, here, rest)

-- a window has no more extracts than the mapping may have feeds
pub few_extracts : (mapping : Mapping) → is_valid mapping ≡ true → (window : Window) → is_window mapping window ≡ true → length window.extracts ≤ 64
few_extracts mapping valid window whole =
    let feeds = few_ascending (map (λ staged. staged.feed) window.extracts) 0 (length mapping.feeds) (window_parts mapping window whole).ascending (omega arith) within in
    let many = length-map window.extracts (λ (staged : Staged). staged.feed) in
    let most = (valid_parts mapping valid).few_feeds in
    omega (arith, feeds, many, most)
  where
    within : (n : ℕ) → Contains (map (λ staged. staged.feed) window.extracts) n → (0 ≤ n) × (n < length mapping.feeds)
    within n has =
        let (staged, member, is) = map_member (λ (staged : Staged). staged.feed) window.extracts n has in
        let (feed, got, are) = rows_of_staged mapping window whole staged member in
        (omega arith, subst (λ n. n < length mapping.feeds) is (slice_get_within mapping.feeds staged.feed feed got))

pub few_tasks : (mapping : Mapping) → is_valid mapping ≡ true → (window : Window) → is_window mapping window ≡ true → length (tasks mapping window) ≤ 256
few_tasks mapping valid window whole = let few = few_extracts mapping valid window whole in let each = four_each mapping window.extracts in omega (arith, few, each)

-- ---- the tables of tasks

block_in : (feeds : List FeedDef) (n i k : ℕ) (feed : FeedDef) → k ≡ n + i → slice_get feeds i ≡ Some feed → (table : TableId) → Contains (feed_block k feed) table → Contains (feed_tables n feeds) table
block_in [] n i k feed is got table has = let no : None ≡ Some feed = got in cc
block_in (first ∷ feeds) n zero k feed is got table has =
    let same : k ≡ n = omega (arith, is) in
    Contains-append_left (feed_block n first) (feed_tables (n + 1) feeds) table
    (subst (λ m. Contains (feed_block m first) table) same (subst (λ f. Contains (feed_block k f) table) (sym (same_Some first feed got)) has))
block_in (first ∷ feeds) n (suc i) k feed is got table has =
    Contains-append_right (feed_block n first) (feed_tables (n + 1) feeds) table (block_in feeds (n + 1) i k feed (omega (arith, is)) got table has)

of_mapping : (mapping : Mapping) (feed : ℕ) (table : TableId) → Contains (tables_of_feed mapping feed) table → Contains (tables mapping) table
of_mapping mapping feed table has = by (slice_get mapping.feeds feed) refl has
  where
    by : (found : Option FeedDef) → slice_get mapping.feeds feed ≡ found → Contains (option_map_or (feed_block feed) found []) table → Contains (tables mapping) table
    by None got has = Contains-nil table has
    by (Some definition) got has =
        Contains-append_right (map (λ n. ids.Hub n) (range_with_len 0 (length mapping.hubs)) ++ map (λ n. ids.Link n) (range_with_len 0 (length mapping.links))) (feed_tables 0 mapping.feeds) table
        (block_in mapping.feeds 0 feed feed definition (omega arith) got table has)

-- the table of a task is one of the mapping
pub task_table : (mapping : Mapping) (window : Window) (table : TableId) → Contains (tasks mapping window) (Batch table) → Contains (tables mapping) table
task_table mapping window table has =
    let (staged, member, of) = flat_map_member (λ (staged : Staged). feed_tasks mapping staged.feed) window.extracts (Batch table) has in
    elim (Contains-cons_cases (Keys staged.feed) (map (λ table. Batch table) (tables_of_feed mapping staged.feed)) (Batch table) of) [
      | inl is ↦ cc
      | inr more ↦ (
          let (other, there, same) = map_member (λ (table : TableId). Batch table) (tables_of_feed mapping staged.feed) (Batch table) more in
          of_mapping mapping staged.feed table (subst (Contains (tables_of_feed mapping staged.feed)) (same_table_of other same) there))
    ]
  where
    same_table_of : (other : TableId) → Batch other ≡ Batch table → other ≡ table
    same_table_of other is = cc

-- ---- results

-- what each task gives holds of all results
pub of_results : {X : Type 0} (P : X → Type 0) (gives : ℕ → X → Type 0) (count : ℕ) (results : List X) → AreResults gives count results → ((place : ℕ) (out : X) → gives place out → P out) → All P results
of_results P gives count results are each i d under = each i (get_or results i d) (are.each i (get_or results i d) (slice_get-get_or results i d under))

-- extracts with their hash keys, laid out by place, are the extracts
pub extracts_laid_out : (hashes : Hashes) (extracts : List Staged) (count : ℕ) (made : List HashedExtract) → count ≡ length extracts → AreResults (IsHashedAt hashes extracts) count made
    → map (λ extract. extract.staged.now) made ≡ extracts
extracts_laid_out hashes [] count made counted are = let as_many = are.as_many in nil_from_length (map (λ (e : HashedExtract). e.staged.now) made) (length-map made (λ (e : HashedExtract). e.staged.now) ∙ as_many ∙ counted)
extracts_laid_out hashes (first ∷ rest) count made counted are = ext_get_or first (map (λ (e : HashedExtract). e.staged.now) made) (first ∷ rest) (length-map made (λ (e : HashedExtract). e.staged.now) ∙ are.as_many ∙ counted) here
  where
    here : (i : ℕ) → i < length (map (λ (e : HashedExtract). e.staged.now) made) → get_or (map (λ (e : HashedExtract). e.staged.now) made) i first ≡ get_or (first ∷ rest) i first
    here i under =
        let long = length-map made (λ (e : HashedExtract). e.staged.now) in
        let (extract, got) = got_from made i (omega (arith, under, long)) in
        get_or_from_slice_get (map (λ (e : HashedExtract). e.staged.now) made) i extract.staged.now first (slice_get-map (λ (e : HashedExtract). e.staged.now) made i ∙ ap (option_map (λ (e : HashedExtract). e.staged.now)) got)
        ∙ sym (get_or_from_slice_get (first ∷ rest) i extract.staged.now first (are.each i extract got).0)
