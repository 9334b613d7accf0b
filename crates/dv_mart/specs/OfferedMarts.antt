-- The marts and tables that are offered.
use Rattle.std.specs.Prelude.{◌≡◌, ℕ, List, Some}
use Rattle.dv_catalog.specs.Entries.{Mapping}
use Rattle.dv_mart.specs.declared.whats.What.{What}
use Rattle.dv_mart.specs.Whats.{what_of}

-- a word names it
pub record IsOffered (mapping : Mapping) (what : What) : Type 0 where
  pub word : List ℕ
  pub offered : what_of mapping word ≡ Some what
