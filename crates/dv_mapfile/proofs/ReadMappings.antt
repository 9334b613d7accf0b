-- What the mappings keep to that are read.
use Rattle.dv_mapfile.proofs.Vocabulary.{Err, IfOk, IfOk-at_ok, List, MapError, Mapping, None, Ok, Option, Outline, Result, Some, checked_if, fault_of, is_valid, mapping_of, mapping_valid, outline_in, read_mapping, refl, true, unless_fault, ℕ, ◌≡◌}
use Rattle.dv_mapfile.proofs.ReadShapes.{read_shape}

-- every mapping that is read is valid
pub read_valid : (bytes : List ℕ) (mapping : Mapping) → read_mapping bytes ≡ Ok mapping → is_valid mapping ≡ true
read_valid bytes mapping is = IfOk-at_ok (λ m. is_valid m ≡ true) is (by (outline_in bytes) refl)
  where
    made : (outline : Outline) (fault : Option MapError) → outline_in bytes ≡ Ok outline → fault_of outline ≡ fault → IfOk (unless_fault fault (mapping_of outline)) (λ m. is_valid m ≡ true)
    made outline None read none = mapping_valid outline none (read_shape bytes outline read)
    made outline (Some fault) read found = tt

    by : (outcome : Result Outline MapError) → outline_in bytes ≡ outcome → IfOk (checked_if outcome) (λ m. is_valid m ≡ true)
    by (Ok outline) read = made outline (fault_of outline) read refl
    by (Err fault) read = tt
