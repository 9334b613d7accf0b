-- The rows of a feed's status table after valid windows break no rule of form.
use Rattle.dv_store_rules.proofs.Vocabulary.{Contains, Contains-append_right, Extract, IsApart, IsStrictlySortedBy, IsTotalOrder, Key, Known, List, None, Option, Some, Status, StatusRow, Statuses, Window, [], all_refs, ap, appended, appended-history, ascending-sorted_by, both_lists, code_of}
use Rattle.dv_store_rules.proofs.Vocabulary.{feed_apart, filter_map, history, is_light, last_code, lists_of, lists_reversed, made_of, nat_list_cmp_total, newest_rows, on_total, refl, reverse, source, status_batch, status_cmp, status_place, status_row, status_rule, subst, sym, takes_turn, true, ℕ}
use Rattle.dv_store_rules.proofs.Vocabulary.{◌++◌, ◌+◌, ◌∙◌, ◌∷◌, ◌≡◌}
use Rattle.dv_store_rules.proofs.{Around.Around, Around.HaveParents, Around.IsFlawless, BatchRows.IsOfBatch, FeedRows.FeedFacts, FeedRows.IsFeedMade, FeedRows.feed_facts, FeedRows.its_feed, KeyRows.digests_differ, SoundRows.sound_rows, Splits.less_before, CodeTurns.lists_of_more}
use Rattle.dv_store_rules.proofs.{CodeTurns.turn_taken}

module _ (known : Known) (feed : ℕ) where
  abbrev things : List Extract → Extract → List (List Key)
  things older newest = all_refs (newest_rows older) ++ all_refs newest.rows

  abbrev row_of : List Extract → Extract → List Key → Option StatusRow
  row_of = status_row known.hashes (source known.mapping feed)

  -- a row has the code that the list got
  abbrev Own : List Extract → Extract → List Key → StatusRow → Type 0
  Own older newest refs row = code_of older newest refs ≡ Some row.code

  made : (older : List Extract) (newest : Extract) (refs : List Key) (row : StatusRow) → row_of older newest refs ≡ Some row → IsFeedMade known feed status_cmp status_place (λ row. row.source) (λ (refs : List Key). refs) Own older newest refs row
  made older newest refs row gives =
      let (code, found, is) = made_of _ (code_of older newest refs) row gives in
      record { parent = ap (λ (r : StatusRow). r.parent) (sym is); load = ap (λ (r : StatusRow). r.load) (sym is); source = ap (λ (r : StatusRow). r.source) (sym is); own = found ∙ ap (λ (r : StatusRow). Some r.code) is }

  total : IsTotalOrder status_cmp
  total = on_total (λ (row : StatusRow). row.parent) nat_list_cmp_total

  module _ (windows : List Window) (around : Around known windows) (parents : HaveParents known windows) (before : List StatusRow) (row : StatusRow)
      (is : IsOfBatch (status_batch known.hashes (source known.mapping feed)) (history feed (reverse windows)) before row) where
    facts : FeedFacts known feed status_cmp status_place (λ row. row.source) (λ (refs : List Key). refs) Own total things row_of made (λ older newest refs has. has) windows around parents before row is
    facts = feed_facts known feed status_cmp status_place (λ row. row.source) (λ (refs : List Key). refs) Own total things row_of made (λ older newest refs has. has) windows around parents before row is

    -- no two lists of the feed's extracts up to the row's have one hash key
    apart : IsApart known.hashes (lists_of (is.newest ∷ is.older))
    apart a b a_in b_in =
        let found = its_feed known windows around feed is.newest facts.extract_in in
        feed_apart known.mapping known.hashes windows feed found.definition around.mapping_valid around.valid found.got a b (lists_reversed feed windows a (more a a_in)) (lists_reversed feed windows b (more b b_in))
      where
        more : (refs : List Key) → Contains (lists_of (is.newest ∷ is.older)) refs → Contains (lists_of (history feed (reverse windows))) refs
        more = lists_of_more (is.newest ∷ is.older) (history feed (reverse windows)) (λ extract has. subst (λ all. Contains all extract) (sym is.events_are) (Contains-append_right is.newer (is.newest ∷ is.older) extract has))

    -- no row between has its parent
    others : (other : StatusRow) → Contains is.between other → other.parent ≡ known.hashes.hash facts.thing → ⊥
    others other has same =
        let up = ascending-sorted_by status_cmp total (filter_map (row_of is.older is.newest) (things is.older is.newest)) in
        let less = less_before status_cmp is.between row is.after (subst (IsStrictlySortedBy status_cmp) is.batch_is up) other has in
        digests_differ other.parent row.parent less (same ∙ sym facts.row_is.parent)

    turns : takes_turn (last_code before row.parent) row.code ≡ true
    turns =
        let in_lists = both_lists is.newest is.older facts.thing facts.thing_in in
        let taken = turn_taken known.hashes (source known.mapping feed) is.newest is.older facts.order apart facts.thing in_lists is.between others row.code facts.row_is.own in
        subst (λ rows. takes_turn (last_code rows row.parent) row.code ≡ true) (sym is.before_are)
        (subst (λ parent. takes_turn (last_code (appended (status_batch known.hashes (source known.mapping feed)) is.older ++ is.between) parent) row.code ≡ true) (sym facts.row_is.parent) taken)

    sound_row : is_light known (Statuses (before ++ row ∷ [])) ≡ true → status_rule known feed before row ≡ None
    sound_row light = rw (facts.wide, facts.loaded, facts.ordered, facts.sourced, facts.parented, turns, light) refl

  -- no row of the table breaks a rule
  pub sound_status : (windows : List Window) → Around known windows → HaveParents known windows → IsFlawless known windows (Status feed)
  sound_status windows around parents light =
      let batch = status_batch known.hashes (source known.mapping feed) in
      sound_rows batch (history feed (reverse windows)) (status_rule known feed) _ _ _ _ (appended-history feed batch (reverse windows)) light (sound_row windows around parents)
