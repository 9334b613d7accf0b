-- Extracts with the hash keys of their rows.
use Rattle.std.specs.Prelude.{◌≡◌, map}
use Rattle.dv_text.specs.Keys.{Hashes}
use Rattle.dv_digest.specs.declared.hashed_extracts.HashedExtract.{HashedExtract}

-- the keys are the hash keys of the rows' reference lists, in the order of the rows
abbrev pub HasKeys : Hashes → HashedExtract → Type 0
HasKeys hashes extract = extract.keys ≡ map (λ row. hashes.hash row.refs) extract.staged.now.rows
