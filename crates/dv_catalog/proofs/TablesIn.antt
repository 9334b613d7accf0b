-- The tables of a mapping are of its hubs, links and feeds, and so is the table with a name.
use Rattle.dv_catalog.proofs.Vocabulary.{Contains, Contains-get_or, FeedDef, Hub, Link, List, Mapping, Status, TableId, [], all_pass, all_pass_both, and_from, ap, arith, effect_tables, feed_tables, get_or, get_or-range_with_len, is_table_of, length, length-range_with_len, list_all, map}
use Rattle.dv_catalog.proofs.Vocabulary.{map_member, nat_lt, nat_tests, passes_at, range_with_len, refl, sat_tables, sym, tables, true, ℕ, ◌++◌, ◌+◌, ◌<◌, ◌∙◌, ◌∷◌, ◌≡◌, ◌≤◌}

below : (n k : ℕ) → Contains (range_with_len 0 n) k → nat_lt k n ≡ true
below n k (i, under, there) =
    let few : i < n = rw (length-range_with_len 0 n) at under in
    let is : k ≡ 0 + i = sym there ∙ get_or-range_with_len 0 n i k few in
    grind (arith, nat_tests)

numbered : (f : ℕ → TableId) (m : Mapping) (count : ℕ) → ((n : ℕ) → is_table_of m (f n) ≡ nat_lt n count) → list_all (is_table_of m) (map f (range_with_len 0 count)) ≡ true
numbered f m count of =
    all_pass (is_table_of m) (map f (range_with_len 0 count))
    (λ table has.
    let (n, member, is) = map_member f (range_with_len 0 count) table has in
    ap (is_table_of m) (sym is) ∙ of n ∙ below count n member)

sat_in : (m : Mapping) (n : ℕ) (sub attrs : List (List ℕ)) → nat_lt n (length m.feeds) ≡ true → list_all (is_table_of m) (sat_tables n sub attrs) ≡ true
sat_in m n sub [] e = refl
sat_in m n [] (a ∷ attrs) e = and_from _ _ e refl
sat_in m n (s ∷ sub) (a ∷ attrs) e = and_from _ _ e refl

effect_in : (m : Mapping) (n : ℕ) (driver : List ℕ) → nat_lt n (length m.feeds) ≡ true → list_all (is_table_of m) (effect_tables n driver) ≡ true
effect_in m n [] e = refl
effect_in m n (d ∷ driver) e = and_from _ _ e refl

feeds_in : (m : Mapping) (n : ℕ) (feeds : List FeedDef) → n + length feeds ≤ length m.feeds → list_all (is_table_of m) (feed_tables n feeds) ≡ true
feeds_in m n [] few = refl
feeds_in m n (feed ∷ feeds) few =
    let here : n < length m.feeds = omega arith in
    let in_range : nat_lt n (length m.feeds) ≡ true = grind (arith, nat_tests, here) in
    let rest = feeds_in m (n + 1) feeds (omega arith) in
    all_pass_both (is_table_of m) (sat_tables n feed.sub feed.attrs ++ Status n ∷ effect_tables n feed.driver) (feed_tables (n + 1) feeds)
    (all_pass_both (is_table_of m) (sat_tables n feed.sub feed.attrs) (Status n ∷ effect_tables n feed.driver) (sat_in m n feed.sub feed.attrs in_range) (and_from _ _ in_range (effect_in m n feed.driver in_range)))
    rest

pub tables_in : (m : Mapping) → list_all (is_table_of m) (tables m) ≡ true
tables_in m =
    all_pass_both (is_table_of m) (map (λ n. Hub n) (range_with_len 0 (length m.hubs)) ++ map (λ n. Link n) (range_with_len 0 (length m.links))) (feed_tables 0 m.feeds)
    (all_pass_both (is_table_of m) (map (λ n. Hub n) (range_with_len 0 (length m.hubs))) (map (λ n. Link n) (range_with_len 0 (length m.links)))
    (numbered (λ n. Hub n) m (length m.hubs) (λ n. refl)) (numbered (λ n. Link n) m (length m.links) (λ n. refl)))
    (feeds_in m 0 m.feeds (omega arith))

-- also at a place
pub table_at : (m : Mapping) (items : List TableId) (i : ℕ) (d : TableId) → items ≡ tables m → i < length items → is_table_of m (get_or items i d) ≡ true
table_at m items i d e at =
    passes_at (is_table_of m) items (get_or items i d) (ap (list_all (is_table_of m)) e ∙ tables_in m) (Contains-get_or items i d at)
