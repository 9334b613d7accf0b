-- How many feeds a hub has.
use Rattle.dv_window.proofs.Vocabulary.{Bool, FeedDef, Hub, List, Mapping, Some, [], ap, cond, count_by, enumerate_from, hub_feeds, is_fed_by, length, length-filter, refl, sum_by-cons, sym, ℕ, ◌+◌, ◌∙◌, ◌∷◌, ◌≡◌}

-- a test of items that are counted
placed_alike : {X : Type 0} (p : X → Bool) (n : ℕ) (xs : List X) → count_by (λ x. p x.1) (enumerate_from n xs) ≡ count_by p xs
placed_alike p n [] = refl
placed_alike {X} p n (x ∷ xs) =
    sum_by-cons (λ (y : ℕ × X). cond (p y.1) 1 0) (n, x) (enumerate_from (n + 1) xs)
    ∙ ap (λ count. cond (p x) 1 0 + count) (placed_alike p (n + 1) xs)
    ∙ sym (sum_by-cons (λ (y : X). cond (p y) 1 0) x xs)

pub feeds_counted : (mapping : Mapping) (hub : ℕ) → length (hub_feeds mapping hub) ≡ count_by (λ (feed : FeedDef). is_fed_by (Hub hub) (Some feed)) mapping.feeds
feeds_counted mapping hub =
    length-filter (λ (feed : ℕ × FeedDef). is_fed_by (Hub hub) (Some feed.1)) (enumerate_from 0 mapping.feeds)
    ∙ placed_alike (λ (feed : FeedDef). is_fed_by (Hub hub) (Some feed)) 0 mapping.feeds
