-- The rows of a feed's multi-active satellite after valid windows break no rule of form.
use Rattle.dv_store_rules.proofs.Vocabulary.{Contains, Contains-append_right, Contains-map, Extract, FeedDef, Known, List, Multi, MultiRow, Multis, NRow, None, Option, Some, Window, [], all_refs, and_from, ap, appended-history, are_texts, attr_count, bytes_eq-Decides, history, if_so, is_changed}
use Rattle.dv_store_rules.proofs.Vocabulary.{is_diff_of, is_light, is_multi_row, length, multi_batch, multi_cmp, multi_place, multi_row, multi_rule, multi_total, newest_rows, option_map_or, refl, reverse, source, sub_count, subst, sym, true, ℕ, ◌++◌, ◌+◌, ◌∙◌, ◌∷◌, ◌≡◌}
use Rattle.dv_store_rules.proofs.{Around.Around, Around.HaveParents, Around.IsFlawless, Around.fields_fit, Around.is_wide, BatchRows.IsOfBatch, FeedRows.IsFeedMade, FeedRows.feed_facts, FeedRows.its_feed, FeedRows.rows_formed, SoundRows.sound_rows}

module _ (known : Known) (feed : ℕ) where
  abbrev row_of : List Extract → Extract → NRow → Option MultiRow
  row_of = multi_row known.hashes (source known.mapping feed)

  -- what a row has of the extract's row that it is made of
  abbrev Own : List Extract → Extract → NRow → MultiRow → Type 0
  Own older newest thing row = (row.diff ≡ known.hashes.diff thing.attrs) × (row.sub ≡ thing.sub) × (row.attrs ≡ thing.attrs)

  made : (older : List Extract) (newest : Extract) (thing : NRow) (row : MultiRow) → row_of older newest thing ≡ Some row → IsFeedMade known feed multi_cmp multi_place (λ row. row.source) (λ (thing : NRow). thing.refs) Own older newest thing row
  made older newest thing row gives =
      let is = sym (if_so (is_changed older newest thing.refs) _ row gives) in
      record { parent = ap (λ (r : MultiRow). r.parent) is; load = ap (λ (r : MultiRow). r.load) is; source = ap (λ (r : MultiRow). r.source) is; own = (ap (λ (r : MultiRow). r.diff) is, ap (λ (r : MultiRow). r.sub) is, ap (λ (r : MultiRow). r.attrs) is) }

  listed : (older : List Extract) (newest : Extract) (thing : NRow) → Contains newest.rows thing → Contains (all_refs (newest_rows older) ++ all_refs newest.rows) thing.refs
  listed older newest thing has = Contains-append_right (all_refs (newest_rows older)) (all_refs newest.rows) thing.refs (Contains-map (λ (thing : NRow). thing.refs) newest.rows thing has)

  sound_row : (windows : List Window) → Around known windows → HaveParents known windows → (before : List MultiRow) (row : MultiRow) → IsOfBatch (multi_batch known.hashes (source known.mapping feed)) (history feed (reverse windows)) before row
      → is_light known (Multis (before ++ row ∷ [])) ≡ true → multi_rule known feed before row ≡ None
  sound_row windows around parents before row is light =
      let facts = feed_facts known feed multi_cmp multi_place (λ row. row.source) (λ (thing : NRow). thing.refs) Own multi_total (λ older newest. newest.rows) row_of made listed windows around parents before row is in
      let (diff, sub, attrs) = facts.row_is.own in
      let found = its_feed known windows around feed is.newest facts.extract_in in
      let form = rows_formed known windows around feed is.newest facts.extract_in facts.thing facts.thing_in in
      let count : attr_count known.mapping feed ≡ length found.definition.attrs = ap (λ (o : Option FeedDef). option_map_or (λ (def : FeedDef). length def.attrs) o 0) found.got in
      let subs : sub_count known.mapping feed ≡ length found.definition.sub = ap (λ (o : Option FeedDef). option_map_or (λ (def : FeedDef). length def.sub) o 0) found.got in
      let texts = fields_fit (attr_count known.mapping feed) facts.thing.attrs (form.attributes ∙ sym count) form.attr_fields in
      let sub_texts = fields_fit (sub_count known.mapping feed) facts.thing.sub (form.subs ∙ sym subs) form.sub_fields in
      let wide = is_wide known.width row.diff (ap length diff ∙ around.wide.diff facts.thing.attrs) in
      let formed : is_multi_row known feed row ≡ true = and_from _ _ (and_from _ _ (and_from _ _ facts.wide wide) (subst (λ sub. are_texts (sub_count known.mapping feed) sub ≡ true) (sym sub) sub_texts)) (subst (λ attrs. are_texts (attr_count known.mapping feed) attrs ≡ true) (sym attrs) texts) in
      let differs : is_diff_of known.hashes row.diff row.attrs ≡ true = (bytes_eq-Decides row.diff (known.hashes.diff row.attrs)).1 (diff ∙ ap known.hashes.diff (sym attrs)) in
      rw (formed, facts.loaded, facts.ordered, differs, facts.sourced, facts.parented, light) refl

  -- no row of the table breaks a rule
  pub sound_multi : (windows : List Window) → Around known windows → HaveParents known windows → IsFlawless known windows (Multi feed)
  sound_multi windows around parents light =
      let batch = multi_batch known.hashes (source known.mapping feed) in
      sound_rows batch (history feed (reverse windows)) (multi_rule known feed) _ _ _ _ (appended-history feed batch (reverse windows)) light (sound_row windows around parents)
