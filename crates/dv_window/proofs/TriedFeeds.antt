-- Feeds whose extracts were tried, the first one and those behind it.
use Rattle.dv_window.proofs.Vocabulary.{AreTried, ExtractIn, IsTried, List, Mapping, Option, Staged2, arith, length, refl, subst, suc, ℕ, ◌+◌, ◌<◌, ◌∷◌}

module _ (mapping : Mapping) (extracts : List ExtractIn) where
  module _ (feed : ℕ) (tried : Option Staged2) (rest : List (Option Staged2)) (all : AreTried mapping extracts feed (tried ∷ rest)) where
    pub tried_within : feed < length mapping.feeds
    tried_within = let many = all.as_many in omega (arith, many)

    pub tried_first : IsTried mapping extracts feed tried
    tried_first = subst (λ place. IsTried mapping extracts place tried) (omega arith) (all.each 0 tried refl)

    pub tried_behind : AreTried mapping extracts (feed + 1) rest
    tried_behind = let many = all.as_many in record {
      as_many = omega (arith, many);
      each = λ later one e. subst (λ place. IsTried mapping extracts place one) (omega arith) (all.each (suc later) one e);
    }
