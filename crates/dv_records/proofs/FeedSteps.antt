-- The table of a feed over windows is that over its extracts.
use Rattle.dv_records.proofs.Vocabulary.{Extract, List, Window, [], append-nil, appended, feed_batch, history, refl, rules, sym, ℕ, ◌∙◌, ◌∷◌, ◌≡◌}

pub appended-history : {R : Type 0} (feed : ℕ) (batch : List Extract → Extract → List R) (windows : List Window) → appended (feed_batch feed batch) windows ≡ appended batch (history feed windows)
appended-history feed batch [] = refl
appended-history {R} feed batch (newest ∷ older) = search (rules, append-nil, appended-history feed batch older)

pub feed_rows : {R : Type 0} (feed : ℕ) (batch : List Extract → Extract → List R) (windows : List Window) (rows : List R) → appended (feed_batch feed batch) windows ≡ rows → rows ≡ appended batch (history feed windows)
feed_rows feed batch windows rows made = sym made ∙ appended-history feed batch windows
