-- How much of a reply a connection got.
use Rattle.std.specs.Prelude.{◌≡◌, ℕ, ◌<◌, List, ◌++◌, length, Option}
use Rattle.dv_outside.specs.Bytes.{after}

-- a front of a text that isn't all of it
pub record IsCutOff (text piece : List ℕ) : Type 0 where
  pub rest : List ℕ
  pub is : text ≡ piece ++ rest
  pub some : 0 < length rest

-- such a front was put at the end
pub record GotPart (old new : Option (List ℕ)) (text : List ℕ) : Type 0 where
  pub piece : List ℕ
  pub cut : IsCutOff text piece
  pub is : new ≡ after old piece
