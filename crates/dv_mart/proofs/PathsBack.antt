-- The mart of a path is told by the ways along its feeds: their links, in the order of their keys, have the reference
-- lists of the contents.
use Rattle.dv_mart.proofs.Vocabulary.{AreAlike, AreHubsApart, AreLinksOf, AreMatching, Contains, Contains-map, Equal, HasZeroKeys, Hashes, IsAntisymmetric, IsMatch, IsRowOf, IsStrictlySortedBy, IsStrictlySortedBy-filter, IsTotalOrder, Key, KeyedRow, LinkFeed, LinkRow, List, Mapping, NRow, Parent}
use Rattle.dv_mart.proofs.Vocabulary.{Some, TableRows, Window, agrees, alike_choice, alike_turned, all_refs, ap, are_joined_by, are_linked, are_windows_valid, ascending-choices, ascending-map, ascending-sorted_by, choices, content, content_row, contents, digest_cmp, each_hash, feed_hubs}
use Rattle.dv_mart.proofs.Vocabulary.{feed_links, feed_links_tell, feeds_apart, filter, filtered_members, is_declared, is_known, is_link_feed, is_missing, is_valid, keyed_cmp, keyed_links, keyed_row, keyed_total, keys_read, length, lex_map, link_apart, link_feed, link_row_by, link_rows_in}
use Rattle.dv_mart.proofs.Vocabulary.{linked_alike, list_all, list_any, list_found, lists_total, ltb-true, map, map-map, map_member, member_after_sort, member_before_sort, more, nat_list_cmp_total, none, not, on_total, one_of_ties, one_value, option_map, parent_hubs, passes_at, path_row}
use Rattle.dv_mart.proofs.Vocabulary.{path_rows, refl, refs_cmp, refs_exact, refs_read, refs_total, reverse, row_form, row_known, row_refs, slice_cmp, slice_cmp-IsAntisymmetric, slice_get, sorted_by-members, steps_along, subst, sym, tied_itself, true, valid_feed, vault, vault_link, whole_refs, ℕ}
use Rattle.dv_mart.proofs.Vocabulary.{◌+◌, ◌<◌, ◌∙◌, ◌∷◌, ◌≡◌}
use Rattle.dv_catalog.specs.declared.entries.Parent.TheVariants.{Link}

-- ---- the orders

steps_total : IsTotalOrder (slice_cmp refs_cmp)
steps_total = lists_total refs_total

steps_exact : IsAntisymmetric (slice_cmp refs_cmp)
steps_exact = slice_cmp-IsAntisymmetric refs_exact

module _ (mapping : Mapping) (hashes : Hashes) (sealed : List Window) (zeros : HasZeroKeys hashes) (valid : is_valid mapping ≡ true) (windows_valid : are_windows_valid mapping hashes sealed ≡ true) (date : ℕ) where
  abbrev tables : List TableRows
  tables = vault mapping hashes sealed

  abbrev lists : ℕ → List (List Key)
  lists feed = whole_refs (contents sealed date feed)

  abbrev links : ℕ → List KeyedRow
  links = keyed_links mapping tables date

  -- ---- a feed

  module _ (feed : ℕ) (its : LinkFeed mapping feed) where
    abbrev hubs : List ℕ
    hubs = parent_hubs mapping (Link its.link)

    hubs_are : hubs ≡ feed_hubs mapping feed
    hubs_are = rw its.at (ap (parent_hubs mapping) (sym its.parent))

    link_under : its.link < length mapping.links
    link_under = ltb-true its.link (length mapping.links) (subst (λ (p : Parent). is_declared mapping p ≡ true) its.parent (valid_feed mapping valid feed its.definition its.at).declared)

    -- the references of a row of its content are read back from the hash keys of their keys
    row_told : (row : NRow) → Contains (content feed sealed date) row → keys_read mapping tables (feed_hubs mapping feed) (each_hash hashes row.refs) ≡ row.refs
    row_told row has = subst (λ hubs. keys_read mapping tables hubs (each_hash hashes row.refs) ≡ row.refs) hubs_are keys_told
      where
        known : is_known mapping (Link its.link) (reverse sealed) row.refs ≡ true
        known =
            let (extract, in_history, row_in) = content_row mapping hashes sealed feed its.definition valid windows_valid its.at date row has in
            let form = row_form mapping hashes sealed feed its.definition valid windows_valid its.at date row has in
            subst (λ (p : Parent). is_known mapping p (reverse sealed) row.refs ≡ true) its.parent (row_known mapping sealed feed its.definition its.at extract in_history row row_in form)

        read : refs_read mapping tables (Link its.link) (hashes.hash row.refs) ≡ Some row.refs
        read =
            subst (λ (p : Parent). refs_read mapping tables p (hashes.hash row.refs) ≡ Some row.refs) its.parent
            (row_refs mapping hashes sealed feed its.definition valid windows_valid its.at date row has)

        keys_told : keys_read mapping tables hubs (each_hash hashes row.refs) ≡ row.refs
        keys_told =
            let (found, is, hubs_of) = list_found mapping hashes sealed its.link (link_apart mapping hashes sealed windows_valid its.link link_under) row.refs known in
            let there : link_row_by (link_rows_in its.link tables) (hashes.hash row.refs) ≡ Some found =
            ap (λ all. link_row_by all (hashes.hash row.refs)) (vault_link mapping hashes sealed its.link link_under) ∙ is in
            let of_row : Some (keys_read mapping tables hubs found.hubs) ≡ Some row.refs = ap (option_map (λ (link : LinkRow). keys_read mapping tables hubs link.hubs)) (sym there) ∙ read in
            ap (keys_read mapping tables hubs) (sym hubs_of) ∙ one_value (Some row.refs) (keys_read mapping tables hubs found.hubs) row.refs (sym of_row) refl

    -- so are its reference lists that miss none
    list_told : (refs : List Key) → Contains (lists feed) refs → keys_read mapping tables (feed_hubs mapping feed) (each_hash hashes refs) ≡ refs
    list_told refs has =
        let (within, whole) = (filtered_members (λ (refs : List Key). not (list_any is_missing refs)) (all_refs (content feed sealed date)) refs).0 has in
        let (row, row_in, same) = map_member (λ (row : NRow). row.refs) (content feed sealed date) refs within in
        subst (λ refs. keys_read mapping tables (feed_hubs mapping feed) (each_hash hashes refs) ≡ refs) same (row_told row row_in)

    -- a link with the keys of a reference list
    record IsOf (refs : List Key) (link : KeyedRow) : Type 0 where
      pub matches : IsMatch mapping hashes lists feed refs link.row
      pub keys : link.keys ≡ refs

    abbrev of_row : LinkRow → KeyedRow
    of_row = keyed_row mapping tables (feed_hubs mapping feed)

    abbrev rows : List LinkRow
    rows = feed_links mapping tables date feed

    tell : AreLinksOf hashes (feed_hubs mapping feed) (feed_links mapping (vault mapping hashes sealed) date feed) (lists feed)
    tell = feed_links_tell mapping hashes sealed valid windows_valid date feed its zeros

    of_refs : (refs : List Key) (row : LinkRow) → Contains (lists feed) refs → IsRowOf hashes refs row → IsOf refs (of_row row)
    of_refs refs row has is = record {
      matches = record { within = has; is = is; long = tell.long refs has };
      keys = ap (keys_read mapping tables (feed_hubs mapping feed)) is.hubs ∙ list_told refs has;
    }

    -- links with equal keys are one
    one_link : (row : LinkRow) → Contains rows row → (other : KeyedRow) → Contains (map of_row rows) other → keyed_cmp other (of_row row) ≡ Equal → other ≡ of_row row
    one_link row row_in other other_in tie =
        let (second, second_in, is) = map_member of_row rows other other_in in
        let (refs, refs_in, of) = tell.refs_of row row_in in
        let (others, others_in, of_second) = tell.refs_of second second_in in
        let same : others ≡ refs = sym (of_refs others second others_in of_second).keys ∙ ap (λ (link : KeyedRow). link.keys) is ∙ refs_exact other.keys (of_row row).keys tie ∙ (of_refs refs row refs_in of).keys in
        let digests : second.digest ≡ row.digest = of_second.digest ∙ ap hashes.hash same ∙ sym of.digest in
        let one : second ≡ row = one_of_ties (on_total (λ (link : LinkRow). link.digest) nat_list_cmp_total) rows tell.ascending second row second_in row_in (ap (λ digest. digest_cmp digest row.digest) digests ∙ tied_itself nat_list_cmp_total row.digest) in
        sym is ∙ ap of_row one

    link_of : (refs : List Key) → Contains (lists feed) refs → (link : KeyedRow) × Contains (links feed) link × IsOf refs link
    link_of refs has =
        let (row, row_in, is) = tell.link_of refs has in
        (of_row row, member_after_sort keyed_cmp (map of_row rows) (of_row row) (one_link row row_in) (Contains-map of_row rows row row_in), of_refs refs row has is)

    refs_of : (link : KeyedRow) → Contains (links feed) link → (refs : List Key) × Contains (lists feed) refs × IsOf refs link
    refs_of link has =
        let (row, row_in, is) = map_member of_row rows link (member_before_sort keyed_cmp (map of_row rows) link has) in
        let (refs, refs_in, of) = tell.refs_of row row_in in
        (refs, refs_in, subst (IsOf refs) is (of_refs refs row refs_in of))

  -- ---- several feeds

  abbrev IsAlike : ℕ → List Key → KeyedRow → Type 0
  IsAlike feed refs link = IsMatch mapping hashes lists feed refs link.row × (link.keys ≡ refs)

  rows_alike : {feeds : List ℕ} {steps : List (List Key)} {way : List KeyedRow} → AreAlike IsAlike feeds steps way → AreMatching mapping hashes lists feeds steps (map (λ (link : KeyedRow). link.row) way)
  rows_alike none = none
  rows_alike (more first rest) = more first.0 (rows_alike rest)

  keys_alike : {feeds : List ℕ} {steps : List (List Key)} {way : List KeyedRow} → AreAlike IsAlike feeds steps way → steps_along way ≡ steps
  keys_alike none = refl
  keys_alike (more first rest) = λ i. first.1 i ∷ keys_alike rest i

  module _ (feeds via : List ℕ) (of_links : list_all (λ feed. is_link_feed (slice_get mapping.feeds feed)) feeds ≡ true) (one_less : length via + 1 ≡ length feeds) (joined_by : are_joined_by mapping feeds via ≡ true) where
    its_link : (feed : ℕ) → Contains feeds feed → LinkFeed mapping feed
    its_link feed has = link_feed mapping feed (passes_at (λ feed. is_link_feed (slice_get mapping.feeds feed)) feeds feed of_links has)

    apart : AreHubsApart mapping hashes lists feeds
    apart f g hub f_in g_in f_has g_has = feeds_apart mapping hashes sealed valid windows_valid date f g hub (its_link f f_in) (its_link g g_in)

    abbrev agreeing : List (List (List Key))
    agreeing = filter (agrees mapping feeds via) (choices (map lists feeds))

    abbrev joined : List (List KeyedRow)
    joined = filter (λ way. are_linked mapping feeds via (map (λ (link : KeyedRow). link.row) way)) (choices (map links feeds))

    linked_as : {steps : List (List Key)} {way : List KeyedRow} → AreAlike IsAlike feeds steps way → agrees mapping feeds via steps ≡ are_linked mapping feeds via (map (λ (link : KeyedRow). link.row) way)
    linked_as alike = linked_alike mapping hashes lists valid via (rows_alike alike) joined_by apart

    there : (steps : List (List Key)) → Contains agreeing steps → Contains (map steps_along joined) steps
    there steps has =
        let (within, agree) = (filtered_members (agrees mapping feeds via) (choices (map lists feeds)) steps).0 has in
        let (way, way_in, alike) =
        alike_choice IsAlike lists links feeds (λ feed feed_in refs refs_in.
        let (link, link_in, of) = link_of feed (its_link feed feed_in) refs refs_in in
        (link, link_in, (of.matches, of.keys))) steps within in
        let kept = (filtered_members (λ way. are_linked mapping feeds via (map (λ (link : KeyedRow). link.row) way)) (choices (map links feeds)) way).1 (way_in, sym (linked_as alike) ∙ agree) in
        subst (Contains (map steps_along joined)) (keys_alike alike) (Contains-map steps_along joined way kept)

    back : (steps : List (List Key)) → Contains (map steps_along joined) steps → Contains agreeing steps
    back steps has =
        let (way, way_in, is) = map_member steps_along joined steps has in
        let (within, link) = (filtered_members (λ way. are_linked mapping feeds via (map (λ (link : KeyedRow). link.row) way)) (choices (map links feeds)) way).0 way_in in
        let (chosen, chosen_in, turned) =
        alike_choice (λ feed link refs. IsAlike feed refs link) links lists feeds (λ feed feed_in link link_in.
        let (refs, refs_in, of) = refs_of feed (its_link feed feed_in) link link_in in
        (refs, refs_in, (of.matches, of.keys))) way within in
        let alike = alike_turned turned in
        let kept = (filtered_members (agrees mapping feeds via) (choices (map lists feeds)) chosen).1 (chosen_in, linked_as alike ∙ link) in
        subst (Contains agreeing) (sym (keys_alike alike) ∙ is) kept

    ascend : IsStrictlySortedBy (slice_cmp refs_cmp) (map steps_along joined)
    ascend =
        let chosen = ascending-choices keyed_cmp keyed_total links feeds (λ feed feed_in. ascending-sorted_by keyed_cmp keyed_total (map (keyed_row mapping tables (feed_hubs mapping feed)) (feed_links mapping tables date feed))) in
        ascending-map (slice_cmp keyed_cmp) (slice_cmp refs_cmp) steps_along (λ a b less. lex_map (λ (link : KeyedRow). link.keys) refs_cmp a b ∙ less) joined
        (IsStrictlySortedBy-filter (slice_cmp keyed_cmp) (λ way. are_linked mapping feeds via (map (λ (link : KeyedRow). link.row) way)) (choices (map links feeds)) chosen)

    -- the rows along the ways are those of the mart
    pub ways_tell : map (λ way. path_row (steps_along way)) (filter (λ way. are_linked mapping feeds via (map (λ (link : KeyedRow). link.row) way)) (choices (map (keyed_links mapping (vault mapping hashes sealed) date) feeds)))
        ≡ path_rows mapping (contents sealed date) feeds via
    ways_tell = sym (map-map path_row steps_along joined) ∙ ap (map path_row) (sorted_by-members steps_total steps_exact agreeing (map steps_along joined) ascend (λ steps. (back steps, there steps)))
