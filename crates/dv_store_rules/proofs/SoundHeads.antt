-- The heads of valid windows, and a window that is open behind them, break no rule of form.
use Rattle.dv_store_rules.proofs.Vocabulary.{Contains, IsStrictlySortedBy, Less, List, Mapping, None, Staged, Window, WindowHead, [], all_pass, and_from, ap, are_feeds, arith, ascends, head_flaw, head_of, head_rule, in_order, is_head, is_stage, is_staged, is_window, length, length-append}
use Rattle.dv_store_rules.proofs.Vocabulary.{length-map, list_all, lt-ltb, map, map-append, map-map, map_member, most_windows, nat_cmp, nat_lt, passes_at, ranked, refl, slice_get_within, staged_rows, subst, suc, sym, true, window_parts, ℕ, ◌++◌, ◌+◌, ◌<◌, ◌∙◌, ◌∷◌, ◌≡◌, ◌≤◌}
use Rattle.dv_store_rules.proofs.{Flawless.flawless, Splits.item_in, Splits.last_less, Splits.less_before}

-- ---- sealed windows

-- the feeds of a window are those of the mapping
feeds_there : (mapping : Mapping) (window : Window) → is_window mapping window ≡ true → are_feeds mapping (head_of window).feeds ≡ true
feeds_there mapping window whole =
    let parts = window_parts mapping window whole in
    let feed_of = λ (staged : Staged). staged.feed in
    and_from _ _ (and_from _ _ (lt-ltb 0 (length (map feed_of window.extracts)) (rw length-map parts.some)) parts.ascending)
    (all_pass (λ feed. nat_lt feed (length mapping.feeds)) (map feed_of window.extracts) (λ feed has.
    let (staged, member, same) = map_member feed_of window.extracts feed has in
    let (definition, got, are) = staged_rows mapping staged (passes_at (is_staged mapping) window.extracts staged parts.staged member) in
    subst (λ n. nat_lt n (length mapping.feeds) ≡ true) same (lt-ltb staged.feed (length mapping.feeds) (slice_get_within mapping.feeds staged.feed definition got))))

module _ (mapping : Mapping) (windows : List Window) (ordered : ascends (map (λ window. window.load) windows) ≡ true) (whole : list_all (is_window mapping) windows ≡ true) (few : length windows ≤ most_windows) where
  abbrev load_of : WindowHead → ℕ
  load_of head = head.load

  -- the load dates of the heads before one
  earlier_heads : (before : List WindowHead) (head : WindowHead) (after : List WindowHead) → map head_of windows ≡ before ++ head ∷ after → (earlier : ℕ) → Contains (map load_of before) earlier → earlier < head.load
  earlier_heads before head after e earlier has =
      let loads : map (λ (window : Window). window.load) windows ≡ map load_of before ++ head.load ∷ map load_of after =
      sym (map-map load_of head_of windows) ∙ ap (map load_of) e ∙ map-append load_of before (head ∷ after) in
      ranked earlier head.load Less (sym (less_before nat_cmp (map load_of before) head.load (map load_of after) (subst (IsStrictlySortedBy nat_cmp) loads (in_order (map (λ window. window.load) windows) ordered)) earlier has))

  sound_head : (before : List WindowHead) (head : WindowHead) (after : List WindowHead) → map head_of windows ≡ before ++ head ∷ after → is_head mapping before head ≡ true
  sound_head before head after e =
      let (window, there, same) = map_member head_of windows head (subst (λ heads. Contains heads head) (sym e) (item_in before head after)) in
      let count : length windows ≡ length before + length (head ∷ after) = sym (length-map windows head_of) ∙ ap length e ∙ length-append before (head ∷ after) in
      let some : length (head ∷ after) ≡ suc (length after) = refl in
      and_from _ _ (and_from _ _ (last_less (map load_of before) head.load (earlier_heads before head after e))
      (subst (λ (h : WindowHead). are_feeds mapping h.feeds ≡ true) same (feeds_there mapping window (passes_at (is_window mapping) windows window whole there))))
      (lt-ltb (length before) most_windows (omega (arith, few, count, some)))

  -- no sealed window of them breaks its rule
  pub sound_heads : head_flaw mapping (map head_of windows) ≡ None
  sound_heads = flawless (head_rule mapping) (map head_of windows) (λ before head after e. rw (sound_head before head after e))

-- ---- the open window

-- a window that is open behind them
pub sound_stage : (mapping : Mapping) (sealed : List Window) (window : Window) → ascends (map (λ window. window.load) (sealed ++ window ∷ [])) ≡ true → is_window mapping window ≡ true → is_stage mapping (map head_of sealed) window ≡ true
sound_stage mapping sealed window ordered whole = and_from _ _ (last_less (map (λ (head : WindowHead). head.load) (map head_of sealed)) window.load earlier) whole
  where
    load_of : Window → ℕ
    load_of other = other.load

    earlier : (n : ℕ) → Contains (map (λ (head : WindowHead). head.load) (map head_of sealed)) n → n < window.load
    earlier n has =
        let same : map (λ (head : WindowHead). head.load) (map head_of sealed) ≡ map (λ (other : Window). other.load) sealed = map-map (λ (head : WindowHead). head.load) head_of sealed in
        let up : IsStrictlySortedBy nat_cmp (map (λ (other : Window). other.load) sealed ++ window.load ∷ []) =
        subst (IsStrictlySortedBy nat_cmp) (map-append (λ (other : Window). other.load) sealed (window ∷ [])) (in_order (map (λ window. window.load) (sealed ++ window ∷ [])) ordered) in
        ranked n window.load Less (sym (less_before nat_cmp (map (λ (other : Window). other.load) sealed) window.load [] up n (subst (λ loads. Contains loads n) same has)))
