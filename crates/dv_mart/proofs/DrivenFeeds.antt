-- A feed with a driver has an effectivity table.
use Rattle.dv_mart.proofs.Vocabulary.{Contains, Contains-append_left, Contains-append_right, Contains-cons_here, Contains-cons_there, Effect, FeedDef, List, Mapping, TableId, [], arith, effect_tables, false, feed_tables, has_driver, length, map, not, range_with_len, sat_tables, slice_get, subst}
use Rattle.dv_mart.proofs.Vocabulary.{suc, tables, true, zero, ℕ, ◌++◌, ◌+◌, ◌==◌, ◌∷◌, ◌≡◌}
use Rattle.dv_catalog.specs.declared.tables.TableId.TheVariants as ids

effect_there : (feed : ℕ) (driver : List ℕ) → not (length driver == 0) ≡ true → Contains (effect_tables feed driver) (Effect feed)
effect_there feed [] some = let no : false ≡ true = some in cc
effect_there feed (d ∷ driver) some = Contains-cons_here (Effect feed) []

-- the tables of one feed, of which the effectivity table is the last
abbrev tables_of : FeedDef → ℕ → List TableId
tables_of feed n = sat_tables n feed.sub feed.attrs ++ ids.Status n ∷ effect_tables n feed.driver

effect_of : (feed : FeedDef) (n : ℕ) → not (length feed.driver == 0) ≡ true → Contains (tables_of feed n) (Effect n)
effect_of feed n some =
    Contains-append_right (sat_tables n feed.sub feed.attrs) (ids.Status n ∷ effect_tables n feed.driver) (Effect n)
    (Contains-cons_there (ids.Status n) (effect_tables n feed.driver) (Effect n) (effect_there n feed.driver some))

effect_among : (n i : ℕ) (feeds : List FeedDef) → has_driver (slice_get feeds i) ≡ true → Contains (feed_tables n feeds) (Effect (n + i))
effect_among n i [] some = let no : false ≡ true = some in cc
effect_among n zero (feed ∷ feeds) some =
    let place : n ≡ n + 0 = omega arith in
    subst (λ k. Contains (feed_tables n (feed ∷ feeds)) (Effect k)) place (Contains-append_left (tables_of feed n) (feed_tables (n + 1) feeds) (Effect n) (effect_of feed n some))
effect_among n (suc i) (feed ∷ feeds) some =
    let place : (n + 1) + i ≡ n + suc i = omega arith in
    Contains-append_right (tables_of feed n) (feed_tables (n + 1) feeds) (Effect (n + suc i))
    (subst (λ k. Contains (feed_tables (n + 1) feeds) (Effect k)) place (effect_among (n + 1) i feeds some))

pub has_effect : (mapping : Mapping) (feed : ℕ) → has_driver (slice_get mapping.feeds feed) ≡ true → Contains (tables mapping) (Effect feed)
has_effect mapping feed some =
    let place : 0 + feed ≡ feed = omega arith in
    Contains-append_right (map (λ n. ids.Hub n) (range_with_len 0 (length mapping.hubs)) ++ map (λ n. ids.Link n) (range_with_len 0 (length mapping.links))) (feed_tables 0 mapping.feeds) (Effect feed)
    (subst (λ k. Contains (feed_tables 0 mapping.feeds) (Effect k)) place (effect_among 0 feed mapping.feeds some))
