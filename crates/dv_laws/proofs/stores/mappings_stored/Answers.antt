use Rattle.dv_laws.proofs.Standing.{broken_stands, init_leaves, stored_stands}
use Rattle.dv_laws.proofs.stores.mappings_stored.Goals as goal

pub returns : goal.returns
returns c =
    record {
      stored = stored_stands;
      broken = broken_stands;
      leaves = λ mapping hashes state file store store' answer stands. init_leaves mapping hashes state file store store' stands answer;
    }
