-- What a window more changes of the contents, the marts and the snapshots, and what it leaves.
use Rattle.dv_laws.proofs.Vocabulary.{All, All-contains, Contains, Extract, Hashes, List, Mapping, None, SameAt, SameMarts, SameOfFeed, Window, [], ap, arith, common_steps, content, extract-load, extract_of, extracts_same, filter-none, filter_map_member, history, lt-leb, nat_le, nat_tests}
use Rattle.dv_laws.proofs.Vocabulary.{newest_rows, reverse, reverse_member, rules, snapshot_same, up_to, ℕ, ◌++◌, ◌<◌, ◌∷◌, ◌≡◌}

-- ---- before the first window

none_up_to : (feed date : ℕ) (windows : List Window) → ((window : Window) → Contains windows window → date < window.load) → up_to date (history feed windows) ≡ []
none_up_to feed date windows later =
    filter-none (λ (extract : Extract). nat_le extract.load date) (history feed windows) (λ extract has.
    let (window, there, is) = filter_map_member (extract_of feed) windows extract has in
    lt-leb extract.load date (rw (extract-load feed window extract is) (later window there)))

pub empty_before : (feed : ℕ) (sealed : List Window) (date : ℕ) → All (λ window. date < window.load) sealed → content feed sealed date ≡ []
empty_before feed sealed date later =
    ap newest_rows (none_up_to feed date (reverse sealed) (λ window has. All-contains (λ (w : Window). date < w.load) sealed window later ((reverse_member sealed window).0 has)))

-- ---- a window without a feed

pub absent_leaves : (mapping : Mapping) (hashes : Hashes) (feed : ℕ) (sealed : List Window) (next : Window) → extract_of feed next ≡ None → SameOfFeed mapping hashes feed sealed (sealed ++ next ∷ [])
absent_leaves mapping hashes feed sealed next none = grind (arith, common_steps, nat_tests)

-- ---- the same contents

-- marts are decided by the contents
pub contents_decide : (mapping : Mapping) (date : ℕ) (a b : List Window) → ((feed : ℕ) → content feed a date ≡ content feed b date) → SameMarts mapping date a b
contents_decide mapping date a b same = search (rules)

-- ---- a later window

module _ (mapping : Mapping) (hashes : Hashes) (sealed : List Window) (next : Window) (date : ℕ) (later : date < next.load) where
  same_extracts : (feed : ℕ) → up_to date (history feed (reverse (sealed ++ next ∷ []))) ≡ up_to date (history feed (reverse sealed))
  same_extracts = extracts_same mapping hashes sealed next date later

  marts_same : SameMarts mapping date (sealed ++ next ∷ []) sealed
  marts_same = contents_decide mapping date (sealed ++ next ∷ []) sealed (λ feed. ap newest_rows (same_extracts feed))

  pub later_leaves : SameAt mapping hashes date sealed (sealed ++ next ∷ [])
  later_leaves = search (rules, marts_same, same_extracts, snapshot_same mapping hashes sealed next date later)
