-- What a fault of a keeper is to what reads its store.
use Rattle.dv_records.specs.declared.keepers.KeeperError.{KeeperError}
use Rattle.dv_records.specs.declared.keepers.KeeperError.TheVariants as error
use Rattle.dv_restore.specs.declared.faults.StoreFault.{StoreFault}
use Rattle.dv_restore.specs.declared.faults.StoreFault.TheVariants as fault

abbrev pub fault_of : KeeperError → StoreFault
fault_of error.Failed = fault.KeeperFault
fault_of error.Memory = fault.Memory
