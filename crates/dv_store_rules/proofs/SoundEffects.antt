-- The rows of a feed's effectivity table after valid windows break no rule of form.
use Rattle.dv_store_rules.proofs.Vocabulary.{Bool, Effect, EffectRow, Effects, Extract, Key, Known, List, None, Option, Some, Span, Window, [], all_refs, and_from, ap, appended-history, arith, begins_before, delivers, effect_batch, effect_cmp, effect_place, effect_row, effect_rule, eq-eqb, false}
use Rattle.dv_store_rules.proofs.Vocabulary.{history, is_light, is_span, lt-ltb, made_of, nat_list_cmp_total, nat_lt, newest_rows, on_total, open_end, or_left, or_right, refl, reverse, run_begin, source, span_between, sym, true, ℕ, ◌&&◌, ◌++◌, ◌+◌, ◌<◌, ◌==◌, ◌∙◌, ◌∷◌, ◌≡◌}
use Rattle.dv_store_rules.proofs.{Around.Around, Around.HaveParents, Around.IsFlawless, BatchRows.IsOfBatch, FeedRows.IsFeedMade, FeedRows.feed_facts, SoundRows.sound_rows}

-- a span between an earlier begin, if there is one, and a load date is a span of a row of this load date
spans : (load : ℕ) (was : Option ℕ) (now : Bool) (row : EffectRow) → ((begin : ℕ) → was ≡ Some begin → begin < load) → span_between load was now ≡ Some (record { begin = row.begin; end = row.end }) → row.load ≡ load → is_span row ≡ true
spans load None false row early e same = cc
spans load (Some begin) true row early e same = cc
spans load None true row early e same =
    let told : Span = record { begin = row.begin; end = row.end } in
    let opened : Span = record { begin = load; end = open_end } in
    let one : opened ≡ told = cc in
    let begins : row.begin ≡ load = ap (λ (span : Span). span.begin) (sym one) in
    let ends : row.end ≡ open_end = ap (λ (span : Span). span.end) (sym one) in
    or_left ((row.begin == row.load) && (row.end == open_end)) (nat_lt row.begin row.load && (row.end == row.load)) (and_from _ _ (eq-eqb row.begin row.load (begins ∙ sym same)) (eq-eqb row.end open_end ends))
spans load (Some begin) false row early e same =
    let told : Span = record { begin = row.begin; end = row.end } in
    let closed : Span = record { begin = begin; end = load } in
    let one : closed ≡ told = cc in
    let begins : begin ≡ row.begin = ap (λ (span : Span). span.begin) one in
    let ends : row.end ≡ load = ap (λ (span : Span). span.end) (sym one) in
    let less = early begin refl in
    or_right ((row.begin == row.load) && (row.end == open_end)) (nat_lt row.begin row.load && (row.end == row.load))
    (and_from _ _ (lt-ltb row.begin row.load (omega (arith, less, begins, same))) (eq-eqb row.end row.load (ends ∙ sym same)))

module _ (known : Known) (feed : ℕ) where
  abbrev row_of : List Extract → Extract → List Key → Option EffectRow
  row_of = effect_row known.hashes (source known.mapping feed)

  -- a row has the begin and the end of the list's run
  abbrev Own : List Extract → Extract → List Key → EffectRow → Type 0
  Own older newest refs row = span_between newest.load (run_begin older refs) (delivers newest.rows refs) ≡ Some (record { begin = row.begin; end = row.end })

  made : (older : List Extract) (newest : Extract) (refs : List Key) (row : EffectRow) → row_of older newest refs ≡ Some row → IsFeedMade known feed effect_cmp effect_place (λ row. row.source) (λ (refs : List Key). refs) Own older newest refs row
  made older newest refs row gives =
      let (span, found, is) = made_of _ (span_between newest.load (run_begin older refs) (delivers newest.rows refs)) row gives in
      record { parent = ap (λ (r : EffectRow). r.parent) (sym is); load = ap (λ (r : EffectRow). r.load) (sym is); source = ap (λ (r : EffectRow). r.source) (sym is); own = found ∙ ap (λ (r : EffectRow). Some (record { begin = r.begin; end = r.end })) is }

  sound_row : (windows : List Window) → Around known windows → HaveParents known windows → (before : List EffectRow) (row : EffectRow) → IsOfBatch (effect_batch known.hashes (source known.mapping feed)) (history feed (reverse windows)) before row
      → is_light known (Effects (before ++ row ∷ [])) ≡ true → effect_rule known feed before row ≡ None
  sound_row windows around parents before row is light =
      let facts = feed_facts known feed effect_cmp effect_place (λ row. row.source) (λ (refs : List Key). refs) Own
      (on_total (λ (row : EffectRow). row.parent) nat_list_cmp_total) (λ older newest. all_refs (newest_rows older) ++ all_refs newest.rows) row_of made (λ older newest refs has. has) windows around parents before row is in
      let spanned : is_span row ≡ true = spans is.newest.load (run_begin is.older facts.thing) (delivers is.newest.rows facts.thing) row (begins_before facts.thing is.newest.load is.older facts.order.0) facts.row_is.own facts.row_is.load in
      rw (facts.wide, facts.loaded, facts.ordered, facts.sourced, facts.parented, spanned, light) refl

  -- no row of the table breaks a rule
  pub sound_effect : (windows : List Window) → Around known windows → HaveParents known windows → IsFlawless known windows (Effect feed)
  sound_effect windows around parents light =
      let batch = effect_batch known.hashes (source known.mapping feed) in
      sound_rows batch (history feed (reverse windows)) (effect_rule known feed) _ _ _ _ (appended-history feed batch (reverse windows)) light (sound_row windows around parents)
