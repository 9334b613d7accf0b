use Rattle.dv_index.proofs.Vocabulary.{Entry, IsPermutation-map}
use Rattle.dv_index.proofs.askings.places_by_prefix.Goals as goal

pub returns : goal.returns
returns c = rw (← c.in_ok-made.ensures {u = tt}) (IsPermutation-map (λ (entry : Entry). entry.number) _ _ c.sort_unstable_by.ensures.permutation)
