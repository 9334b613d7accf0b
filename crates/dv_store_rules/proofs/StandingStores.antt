-- A store that stands for a state of the warehouse has no damage.
use Rattle.dv_store_rules.proofs.Vocabulary.{DigestFunction, Mapping, None, Stands, State, Store, form_damage, hashes_of, read_valid, ◌≡◌}
use Rattle.dv_store_rules.proofs.Undamaged.{undamaged_if_valid}

-- its mapping is valid, since it is read from the stored text
pub undamaged : (mapping : Mapping) (function : DigestFunction) (state : State) (store : Store) → Stands mapping (hashes_of function) state store
    → form_damage mapping (hashes_of function) function.width store ≡ None
undamaged mapping function state store stands = undamaged_if_valid mapping function (read_valid stands.mapped.text mapping stands.mapped.reads) state store stands
