-- What a call sees of the outside.
use Rattle.std.specs.Prelude.{ℕ, List}
use Rattle.dv_outside.specs.declared.folders.NamedFile.{NamedFile}
use Rattle.dv_outside.specs.Seen.{Seen}

-- what the folder, the keeper, and the sinks for texts and for lines tell before a call and after it, and how often they had
-- failed then
pub record World (S : Type 0) : Type 0 where
  pub folder : Seen (List NamedFile)
  pub keeper : Seen S
  pub out : Seen (List ℕ)
  pub err : Seen (List ℕ)
