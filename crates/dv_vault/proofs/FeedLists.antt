-- The extracts of a feed in windows: their rows are plain where the feed has no sub, no two of their lists have one hash
-- key where nothing collides, and they stand the newest first.
use Rattle.dv_vault.proofs.Vocabulary.{AllBefore, AllByRecursion, AreNewestFirst, Bool, Contains, Contains-cons_here, Contains-cons_there, Extract, FeedDef, Hashes, IsApart, IsNewestFirst, IsPlain, IsStrictlySortedBy, IsTold, Less, List, Mapping, NRow, None, Some, Window, [], all_pass, ap}
use Rattle.dv_vault.proofs.Vocabulary.{ascends, collision_free, collision_in, history, history-newest_first, in_order, is_window, length, list_all, lists_apart, lists_of, lists_reversed, map, nat_cmp, nat_cmp_is, nil_from_length, passes_at, reverse, reverse-reverse, reverse_member, rows_valid}
use Rattle.dv_vault.proofs.Vocabulary.{slice_get, subst, sym, true, ℕ, ◌∙◌, ◌∷◌, ◌≡◌}

-- windows keep what each keeps, turned round
pub reversed_whole : {X : Type 0} (p : X → Bool) (xs : List X) → list_all p xs ≡ true → list_all p (reverse xs) ≡ true
reversed_whole p xs whole = all_pass p (reverse xs) (λ x has. passes_at p xs x whole ((reverse_member xs x).0 has))

module _ (mapping : Mapping) (hashes : Hashes) (feed : ℕ) (definition : FeedDef) (at : slice_get mapping.feeds feed ≡ Some definition) (windows : List Window) (whole : list_all (is_window mapping) windows ≡ true) where
  -- where the feed has no sub, neither have its rows
  pub feed_plain : definition.sub ≡ [] → (extract : Extract) → Contains (history feed windows) extract → IsPlain extract.rows
  feed_plain none extract has =
      let rows = rows_valid mapping hashes windows whole feed definition at extract has in
      let no_sub : (row : NRow) → Contains extract.rows row → row.sub ≡ [] = λ row row_in. nil_from_length row.sub ((rows.forms row row_in).subs ∙ ap length none) in
      record { ascending = rows.ascending; single = λ a b a_in b_in refs. rows.single a b a_in b_in refs (no_sub a a_in ∙ sym (no_sub b b_in)); no_sub = no_sub }

  -- and in any feed there is one row for each list and sub
  pub feed_told : (extract : Extract) → Contains (history feed windows) extract → IsTold extract.rows
  feed_told extract has =
      let rows = rows_valid mapping hashes windows whole feed definition at extract has in
      record { ascending = rows.ascending; single = rows.single }

  -- where nothing collides in the feed's hub or link, no two lists of the feed have one hash key
  pub feed_lists_apart : collision_in mapping hashes (reverse windows) definition.parent ≡ None → IsApart hashes (lists_of (history feed windows))
  feed_lists_apart free =
      let apart = lists_apart mapping hashes (reverse windows) (reversed_whole (is_window mapping) windows whole) feed definition at ((collision_free mapping hashes (reverse windows) definition.parent).0 free) in
      subst (λ (windows : List Window). IsApart hashes (lists_of (history feed windows))) (reverse-reverse windows)
      (λ a b a_in b_in. apart a b (lists_reversed feed (reverse windows) a a_in) (lists_reversed feed (reverse windows) b b_in))

-- ---- load order

all_earlier : (date : ℕ) (extracts : List Extract) → AllBefore (λ (extract : Extract). extract.load) date extracts → AllByRecursion (λ (extract : Extract). nat_cmp extract.load date ≡ Less) extracts
all_earlier date [] before = tt
all_earlier date (first ∷ rest) before = (
  sym (nat_cmp_is first.load date Less (before first (Contains-cons_here first rest))),
  all_earlier date rest (λ extract has. before extract (Contains-cons_there first rest extract has)),
)

newest_stand_first : (extracts : List Extract) → IsNewestFirst (λ (extract : Extract). extract.load) extracts → AreNewestFirst extracts
unfolding IsStrictlySortedBy
newest_stand_first [] order = tt
newest_stand_first (newest ∷ older) order = (all_earlier newest.load older order.0, newest_stand_first older order.1)

-- the extracts of a feed in windows whose load dates ascend
pub feed_newest_first : (feed : ℕ) (windows : List Window) → ascends (map (λ window. window.load) (reverse windows)) ≡ true → AreNewestFirst (history feed windows)
feed_newest_first feed windows up =
    subst (λ (windows : List Window). AreNewestFirst (history feed windows)) (reverse-reverse windows)
    (newest_stand_first (history feed (reverse (reverse windows))) (history-newest_first feed (reverse windows) (in_order (map (λ (window : Window). window.load) (reverse windows)) up)))
