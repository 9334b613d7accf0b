-- Names that stood earlier, the last of them first.
use Rattle.dv_window_rules.proofs.Vocabulary.{Bool, ExtractIn, FeedDef, IsPermutation-reverse, List, Mapping, Some, [], ap, bytes_eq, cond, drop, drop_more, false, get_or, is_feed, is_placed, is_some, length, list_any, list_any-IsPermutation, list_any-map, map, map-append, position}
use Rattle.dv_window_rules.proofs.Vocabulary.{repeated_name, reverse, reverse-append, rules, sym, take, take_more, true, ℕ, ◌+◌, ◌<◌, ◌∙◌, ◌≡◌}

-- the feeds of extracts, the last first
abbrev pub feeds_back : List ExtractIn → List (List ℕ)
feeds_back extracts = reverse (map (λ extract. extract.feed) extracts)

seen : (name : List ℕ) (extracts : List ExtractIn) → list_any (bytes_eq name) (feeds_back extracts) ≡ list_any (λ extract. bytes_eq name extract.feed) extracts
seen name extracts =
    sym (list_any-IsPermutation (bytes_eq name) (map (λ (extract : ExtractIn). extract.feed) extracts) (feeds_back extracts) (IsPermutation-reverse (map (λ (extract : ExtractIn). extract.feed) extracts)))
    ∙ list_any-map (bytes_eq name) (λ (extract : ExtractIn). extract.feed) extracts

-- one extract more
turn : (xs : List ExtractIn) (i : ℕ) (d : ExtractIn) → i < length xs
    → repeated_name (feeds_back (take i xs)) (map (λ extract. extract.feed) (drop i xs))
    ≡ cond (list_any (λ extract. bytes_eq (get_or xs i d).feed extract.feed) (take i xs)) (Some (get_or xs i d).feed)
    (repeated_name (feeds_back (take (i + 1) xs)) (map (λ extract. extract.feed) (drop (i + 1) xs)))
turn xs i d at = search (rules, take_more, map-append, reverse-append, drop_more, seen, take_more xs i d at, drop_more xs i d at)

-- a feed that stands among those before is the answer
pub name_found : (xs : List ExtractIn) (i : ℕ) (x : ExtractIn) (r : Bool) → i < length xs → x ≡ get_or xs i x
    → r ≡ list_any (λ extract. bytes_eq x.feed extract.feed) (take i xs) → r ≡ true
    → repeated_name (feeds_back (take i xs)) (map (λ extract. extract.feed) (drop i xs)) ≡ repeated_name [] (map (λ extract. extract.feed) xs)
    → Some x.feed ≡ repeated_name [] (map (λ extract. extract.feed) xs)
name_found xs i x r at is found passes invariant =
    let again : list_any (λ extract. bytes_eq (get_or xs i x).feed extract.feed) (take i xs) ≡ true = rw (← is) (sym found ∙ passes) in
    let rest = rw again at (turn xs i x at) in
    ap (λ (e : ExtractIn). Some e.feed) is ∙ sym rest ∙ invariant

-- and any other is passed over
pub name_passed : (xs : List ExtractIn) (i : ℕ) (x : ExtractIn) (r : Bool) → i < length xs → x ≡ get_or xs i x
    → r ≡ list_any (λ extract. bytes_eq x.feed extract.feed) (take i xs) → r ≡ false
    → repeated_name (feeds_back (take i xs)) (map (λ extract. extract.feed) (drop i xs)) ≡ repeated_name [] (map (λ extract. extract.feed) xs)
    → repeated_name (feeds_back (take (i + 1) xs)) (map (λ extract. extract.feed) (drop (i + 1) xs)) ≡ repeated_name [] (map (λ extract. extract.feed) xs)
name_passed xs i x r at is found fails invariant =
    let again : list_any (λ extract. bytes_eq (get_or xs i x).feed extract.feed) (take i xs) ≡ false = rw (← is) (sym found ∙ fails) in
    let rest = rw again at (turn xs i x at) in
    sym rest ∙ invariant

pub feed_place : (mapping : Mapping) (name : List ℕ) → is_some (position (λ feed. bytes_eq feed.name name) mapping.feeds) ≡ is_feed mapping name
feed_place mapping name = is_placed (λ (feed : FeedDef). bytes_eq feed.name name) mapping.feeds
