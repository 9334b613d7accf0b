-- The bridge that the vault's tables say is that of the sealed windows, and so are the sizes of its prefixes.
use Rattle.dv_bridge.proofs.Vocabulary.{Bool, Contains, HasZeroKeys, Hashes, Key, LinkRow, List, Mapping, PathDef, PathRow, Some, Window, [], agrees, and_from, and_parts, ap, are_joined_by, are_linked, are_windows_valid, arith, bridge, bridge_cmp, bridge_read, bridge_row, choices, contents, drop}
use Rattle.dv_bridge.proofs.Vocabulary.{feed_hubs, feed_links, filter, is_link_feed, is_place_of_step, is_valid, length, length-map, length-take-le, list_all, list_all-append, map, map-map, passes_at, path_rows, path_rows_by, place_of, prefix_rows, refl, refs_cmp, row_over, slice_cmp, slice_get}
use Rattle.dv_bridge.proofs.Vocabulary.{sorted_by, suc, sym, take, take-append-drop, true, valid_path, vault, whole_refs, zero, ℕ, ◌&&◌, ◌+◌, ◌-◌, ◌∙◌, ◌∷◌, ◌≡◌, ◌≤◌}
use Rattle.dv_bridge.proofs.{FeedLinks.LinkFeed, FeedLinks.feed_links_tell, FeedLinks.feeds_apart, FeedLinks.link_feed, Joined.joined, Joined.joined_long, LinkedFeeds.AreKeysApart, LinkedFeeds.AreLinksOf}

-- ---- paths

-- the first feeds of a path are joined by the first hubs
first_joined : (mapping : Mapping) (n : ℕ) (feeds via : List ℕ) → are_joined_by mapping feeds via ≡ true → are_joined_by mapping (take (suc n) feeds) (take n via) ≡ true
first_joined mapping zero [] via together = refl
first_joined mapping zero (feed ∷ feeds) via together = refl
first_joined mapping (suc n) [] via together = refl
first_joined mapping (suc n) (feed ∷ []) via together = refl
first_joined mapping (suc n) (feed ∷ next ∷ feeds) [] together = refl
first_joined mapping (suc n) (feed ∷ next ∷ feeds) (hub ∷ via) together =
    let (ends, later) = and_parts (is_place_of_step mapping hub feed && is_place_of_step mapping hub next) (are_joined_by mapping (next ∷ feeds) via) together in
    and_from (is_place_of_step mapping hub feed && is_place_of_step mapping hub next) (are_joined_by mapping (take (suc n) (next ∷ feeds)) (take n via)) ends (first_joined mapping n (next ∷ feeds) via later)

first_pass : {X : Type 0} (p : X → Bool) (n : ℕ) (xs : List X) → list_all p xs ≡ true → list_all p (take n xs) ≡ true
first_pass p n xs all =
    (and_parts (list_all p (take n xs)) (list_all p (drop n xs)) (sym (list_all-append p (take n xs) (drop n xs)) ∙ ap (list_all p) (take-append-drop n xs) ∙ all)).0

-- ---- the tables of valid windows

module _ (mapping : Mapping) (hashes : Hashes) (sealed : List Window) (zeros : HasZeroKeys hashes) (valid : is_valid mapping ≡ true) (windows_valid : are_windows_valid mapping hashes sealed ≡ true) (date : ℕ) where
  abbrev links : ℕ → List LinkRow
  links = feed_links mapping (vault mapping hashes sealed) date

  abbrev lists : ℕ → List (List Key)
  lists feed = whole_refs (contents sealed date feed)

  abbrev steps : List ℕ → List ℕ → List (List (List Key))
  steps feeds via = sorted_by (slice_cmp refs_cmp) (filter (agrees mapping feeds via) (choices (map lists feeds)))

  module _ (feeds via : List ℕ) (of_links : list_all (λ feed. is_link_feed (slice_get mapping.feeds feed)) feeds ≡ true) (one_less : length via + 1 ≡ length feeds) (joined_by : are_joined_by mapping feeds via ≡ true) where
    link_feed_in : (feed : ℕ) → Contains feeds feed → LinkFeed mapping feed
    link_feed_in feed has = link_feed mapping feed (passes_at (λ feed. is_link_feed (slice_get mapping.feeds feed)) feeds feed of_links has)

    links_of : (feed : ℕ) → Contains feeds feed → AreLinksOf hashes (feed_hubs mapping feed) (links feed) (lists feed)
    links_of feed has = feed_links_tell mapping hashes sealed valid windows_valid date feed (link_feed_in feed has) zeros

    apart : (f g hub : ℕ) → Contains feeds f → Contains feeds g → Contains (feed_hubs mapping f) hub → Contains (feed_hubs mapping g) hub
        → AreKeysApart hashes (place_of mapping f hub) (lists f) (place_of mapping g hub) (lists g)
    apart f g hub f_in g_in f_has g_has = feeds_apart mapping hashes sealed valid windows_valid date f g hub (link_feed_in f f_in) (link_feed_in g g_in)

    rows_tell : bridge_read mapping (vault mapping hashes sealed) date feeds via ≡ sorted_by bridge_cmp (map (bridge_row hashes) (path_rows mapping (contents sealed date) feeds via))
    rows_tell =
        sym (joined mapping hashes links lists feeds via valid of_links one_less joined_by links_of apart)
        ∙ ap (sorted_by bridge_cmp) (sym (map-map (bridge_row hashes) (λ steps. record { steps = steps }) (steps feeds via)))

    as_many : length (bridge_read mapping (vault mapping hashes sealed) date feeds via) ≡ length (path_rows mapping (contents sealed date) feeds via)
    as_many =
        length-map (filter (are_linked mapping feeds via) (choices (map links feeds))) row_over
        ∙ sym (joined_long mapping hashes links lists feeds via valid of_links one_less joined_by links_of apart)
        ∙ sym (length-map {B = PathRow} (steps feeds via) (λ steps. record { steps = steps }))

  -- ---- a path

  module _ (place : ℕ) (path : PathDef) (at : slice_get mapping.paths place ≡ Some path) where
    of_links : list_all (λ feed. is_link_feed (slice_get mapping.feeds feed)) path.feeds ≡ true
    of_links = (valid_path mapping valid place path at).of_links

    one_less : length path.via + 1 ≡ length path.feeds
    one_less = (valid_path mapping valid place path at).one_less

    joined_by : are_joined_by mapping path.feeds path.via ≡ true
    joined_by = (valid_path mapping valid place path at).joined

    -- the bridge by the tables is that of the path mart
    pub bridges_tell : bridge_read mapping (vault mapping hashes sealed) date path.feeds path.via ≡ bridge mapping hashes sealed place date
    bridges_tell =
        rows_tell path.feeds path.via of_links one_less joined_by
        ∙ ap (λ o. sorted_by bridge_cmp (map (bridge_row hashes) (path_rows_by mapping (contents sealed date) o))) (sym at)

    -- the first feeds of a path are joined by its first hubs
    pub first_path : (n : ℕ) → 1 ≤ n → n ≤ length path.feeds
        → (list_all (λ feed. is_link_feed (slice_get mapping.feeds feed)) (take n path.feeds) ≡ true) × (length (take (n - 1) path.via) + 1 ≡ length (take n path.feeds)) × (are_joined_by mapping (take n path.feeds) (take (n - 1) path.via) ≡ true)
    first_path zero some within = absurd (omega (arith, some))
    first_path (suc n) some within = (first_pass _ (suc n) path.feeds of_links, still_less, first)
      where
        less : suc n - 1 ≡ n
        less = omega arith

        still_less : length (take (suc n - 1) path.via) + 1 ≡ length (take (suc n) path.feeds)
        still_less =
            let hubs : length (take (suc n - 1) path.via) ≡ suc n - 1 = length-take-le (suc n - 1) path.via (omega (arith, one_less, within)) in
            let feeds : length (take (suc n) path.feeds) ≡ suc n = length-take-le (suc n) path.feeds within in
            omega (arith, hubs, feeds)

        first : are_joined_by mapping (take (suc n) path.feeds) (take (suc n - 1) path.via) ≡ true
        first = ap (λ k. are_joined_by mapping (take (suc n) path.feeds) (take k path.via)) less ∙ first_joined mapping n path.feeds path.via joined_by

    -- and that of its first feeds has as many rows as the path mart of these
    pub prefixes_tell : (n : ℕ) → 1 ≤ n → n ≤ length path.feeds
        → length (bridge_read mapping (vault mapping hashes sealed) date (take n path.feeds) (take (n - 1) path.via)) ≡ length (prefix_rows mapping (contents sealed date) path n)
    prefixes_tell n some within =
        let (links, less, together) = first_path n some within in
        as_many (take n path.feeds) (take (n - 1) path.via) links less together
