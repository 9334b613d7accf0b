-- What a keeper's error is answered as, where a stored table is read.
use Rattle.dv_records.specs.declared.keepers.KeeperError.{KeeperError}
use Rattle.dv_records.specs.declared.keepers.KeeperError.TheVariants as error
use Rattle.dv_window.specs.declared.stored.StoredFault.{StoredFault}
use Rattle.dv_window.specs.declared.stored.StoredFault.TheVariants as fault

abbrev pub fault_of : KeeperError → StoredFault
fault_of error.Failed = fault.KeeperFault
fault_of error.Memory = fault.Memory
