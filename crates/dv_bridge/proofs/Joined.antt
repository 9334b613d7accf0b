-- The join on hash keys, over the link rows of feeds, is the join on keys, over the reference lists of their contents.
use Rattle.dv_bridge.proofs.Vocabulary.{BridgeRow, Contains, Contains-map, Equal, Greater, Hashes, IsAntisymmetric, IsStrictlySortedBy, IsStrictlySortedBy-filter, IsTotalOrder, Key, Less, LinkRow, List, Mapping, Ordering, [], agrees, ap, are_joined_by, are_linked, ascending-sorted_by, bridge_cmp}
use Rattle.dv_bridge.proofs.Vocabulary.{bridge_row, choices, digest_cmp, feed_hubs, filter, filtered_members, is_link_feed, is_valid, length, length-map, link_cmp, list_all, lists_total, map, map_member, member_after_sort, member_before_sort, nat_list_cmp_total, on_total, ordering_then, refl}
use Rattle.dv_bridge.proofs.Vocabulary.{refs_cmp, refs_exact, refs_total, row_over, slice_cmp, slice_cmp-IsAntisymmetric, slice_get, sorted_by, sorted_by-members, subst, sym, text_cmp-IsAntisymmetric, then_total, true, ℕ, ◌+◌, ◌∙◌, ◌∷◌, ◌≡◌}
use Rattle.dv_bridge.proofs.{Choices.alike_choice, Choices.alike_turned, Choices.ascending-choices, Choices.ascending-map, Choices.choices_apart, LinkedFeeds.AreLinksOf, MatchingRows.AreHubsApart, MatchingRows.IsMatch, MatchingRows.linked_alike, MatchingRows.row_alike, SortedLengths.as_long}

-- ---- the orders

digests_total : IsTotalOrder (slice_cmp digest_cmp)
digests_total = lists_total nat_list_cmp_total

digests_exact : IsAntisymmetric (slice_cmp digest_cmp)
digests_exact = slice_cmp-IsAntisymmetric text_cmp-IsAntisymmetric

steps_total : IsTotalOrder (slice_cmp refs_cmp)
steps_total = lists_total refs_total

steps_exact : IsAntisymmetric (slice_cmp refs_cmp)
steps_exact = slice_cmp-IsAntisymmetric refs_exact

bridge_total : IsTotalOrder bridge_cmp
bridge_total = then_total (on_total (λ (row : BridgeRow). row.links) digests_total) (on_total (λ (row : BridgeRow). row.hubs) digests_total)

bridge_exact : IsAntisymmetric bridge_cmp
bridge_exact a b e = by (slice_cmp digest_cmp a.links b.links) refl e
  where
    by : (r : Ordering) → slice_cmp digest_cmp a.links b.links ≡ r → ordering_then r (slice_cmp digest_cmp a.hubs b.hubs) ≡ Equal → a ≡ b
    by Less is e = cc
    by Equal is e = λ i. record { links = digests_exact a.links b.links is i; hubs = digests_exact a.hubs b.hubs e i }
    by Greater is e = cc

-- bridge rows over link rows stand in the order of these
links_order : (a b : List LinkRow) → slice_cmp digest_cmp (row_over a).links (row_over b).links ≡ slice_cmp link_cmp a b
links_order [] [] = refl
links_order [] (y ∷ b) = refl
links_order (x ∷ a) [] = refl
links_order (x ∷ a) (y ∷ b) = ap (ordering_then (link_cmp x y)) (links_order a b)

rows_rise : (a b : List LinkRow) → slice_cmp link_cmp a b ≡ Less → bridge_cmp (row_over a) (row_over b) ≡ Less
rows_rise a b less = ap (λ r. ordering_then r (slice_cmp digest_cmp (row_over a).hubs (row_over b).hubs)) (links_order a b ∙ less)

-- ---- the theorem

module _ (mapping : Mapping) (hashes : Hashes) (links : ℕ → List LinkRow) (lists : ℕ → List (List Key)) (feeds via : List ℕ) (valid : is_valid mapping ≡ true)
    (of_links : list_all (λ feed. is_link_feed (slice_get mapping.feeds feed)) feeds ≡ true) (one_less : length via + 1 ≡ length feeds) (joined_by : are_joined_by mapping feeds via ≡ true)
    (links_of : (feed : ℕ) → Contains feeds feed → AreLinksOf hashes (feed_hubs mapping feed) (links feed) (lists feed)) (apart : AreHubsApart mapping hashes lists feeds) where
  abbrev all_steps : List (List (List Key))
  all_steps = choices (map lists feeds)

  abbrev all_rows : List (List LinkRow)
  all_rows = choices (map links feeds)

  -- the reference lists that agree, and the rows that are linked
  abbrev agreeing : List (List (List Key))
  agreeing = filter (agrees mapping feeds via) all_steps

  abbrev linked : List (List LinkRow)
  linked = filter (are_linked mapping feeds via) all_rows

  abbrev path_steps : List (List (List Key))
  path_steps = sorted_by (slice_cmp refs_cmp) agreeing

  abbrev step_row : List (List Key) → BridgeRow
  step_row steps = bridge_row hashes (record { steps = steps })

  -- ---- each has the other one

  rows_of_steps : (steps : List (List Key)) → Contains agreeing steps → (rows : List LinkRow) × Contains linked rows × (step_row steps ≡ row_over rows)
  rows_of_steps steps has =
      let (within, agree) = (filtered_members (agrees mapping feeds via) all_steps steps).0 has in
      let (rows, rows_in, alike) =
      alike_choice (IsMatch mapping hashes lists) lists links feeds (λ feed feed_in refs refs_in.
      let (row, row_in, is) = (links_of feed feed_in).link_of refs refs_in in
      (row, row_in, record { within = refs_in; is = is; long = (links_of feed feed_in).long refs refs_in })) steps within in
      let link : are_linked mapping feeds via rows ≡ true = sym (linked_alike mapping hashes lists valid via alike joined_by apart) ∙ agree in
      (rows, (filtered_members (are_linked mapping feeds via) all_rows rows).1 (rows_in, link), row_alike mapping hashes lists alike)

  steps_of_rows : (rows : List LinkRow) → Contains linked rows → (steps : List (List Key)) × Contains agreeing steps × (step_row steps ≡ row_over rows)
  steps_of_rows rows has =
      let (within, link) = (filtered_members (are_linked mapping feeds via) all_rows rows).0 has in
      let (steps, steps_in, turned) =
      alike_choice (λ feed row refs. IsMatch mapping hashes lists feed refs row) links lists feeds (λ feed feed_in row row_in.
      let (refs, refs_in, is) = (links_of feed feed_in).refs_of row row_in in
      (refs, refs_in, record { within = refs_in; is = is; long = (links_of feed feed_in).long refs refs_in })) rows within in
      let alike = alike_turned turned in
      let agree : agrees mapping feeds via steps ≡ true = linked_alike mapping hashes lists valid via alike joined_by apart ∙ link in
      (steps, (filtered_members (agrees mapping feeds via) all_steps steps).1 (steps_in, agree), row_alike mapping hashes lists alike)

  row_of_steps : (row : BridgeRow) → Contains (map step_row path_steps) row → Contains (map row_over linked) row
  row_of_steps row has =
      let (steps, steps_in, is) = map_member step_row path_steps row has in
      let (rows, rows_in, same) = rows_of_steps steps (member_before_sort (slice_cmp refs_cmp) agreeing steps steps_in) in
      subst (Contains (map row_over linked)) (sym same ∙ is) (Contains-map row_over linked rows rows_in)

  row_of_links : (row : BridgeRow) → Contains (map row_over linked) row → Contains (map step_row path_steps) row
  row_of_links row has =
      let (rows, rows_in, is) = map_member row_over linked row has in
      let (steps, steps_in, same) = steps_of_rows rows rows_in in
      let kept = member_after_sort (slice_cmp refs_cmp) agreeing steps (λ other other_in. steps_exact other steps) steps_in in
      subst (Contains (map step_row path_steps)) (same ∙ is) (Contains-map step_row path_steps steps kept)

  -- ---- so they are as many, and in one order

  rows_ascend : IsStrictlySortedBy bridge_cmp (map row_over linked)
  rows_ascend =
      let chosen = ascending-choices link_cmp (on_total (λ (link : LinkRow). link.digest) nat_list_cmp_total) links feeds (λ feed feed_in. (links_of feed feed_in).ascending) in
      ascending-map (slice_cmp link_cmp) bridge_cmp row_over rows_rise linked (IsStrictlySortedBy-filter (slice_cmp link_cmp) (are_linked mapping feeds via) all_rows chosen)

  pub joined : sorted_by bridge_cmp (map (λ steps. bridge_row hashes (record { steps = steps })) (sorted_by (slice_cmp refs_cmp) (filter (agrees mapping feeds via) (choices (map lists feeds)))))
      ≡ map row_over (filter (are_linked mapping feeds via) (choices (map links feeds)))
  joined = sym (sorted_by-members bridge_total bridge_exact (map step_row path_steps) (map row_over linked) rows_ascend (λ row. (row_of_links row, row_of_steps row)))

  steps_chosen : (steps : List (List Key)) → Contains path_steps steps → Contains all_steps steps
  steps_chosen steps has = ((filtered_members (agrees mapping feeds via) all_steps steps).0 (member_before_sort (slice_cmp refs_cmp) agreeing steps has)).0

  steps_apart : (a b : List (List Key)) → Contains path_steps a → Contains path_steps b → bridge_cmp (step_row a) (step_row b) ≡ Equal → a ≡ b
  steps_apart a b a_in b_in tie =
      choices_apart lists hashes.hash feeds (λ feed feed_in. (links_of feed feed_in).apart) a b (steps_chosen a a_in) (steps_chosen b b_in)
      (ap (λ (row : BridgeRow). row.links) (bridge_exact (step_row a) (step_row b) tie))

  pub joined_long : length (sorted_by (slice_cmp refs_cmp) (filter (agrees mapping feeds via) (choices (map lists feeds)))) ≡ length (filter (are_linked mapping feeds via) (choices (map links feeds)))
  joined_long =
      sym (as_long bridge_cmp steps_total step_row path_steps (ascending-sorted_by (slice_cmp refs_cmp) steps_total agreeing) steps_apart)
      ∙ ap length joined ∙ length-map linked row_over
