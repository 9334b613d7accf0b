-- What a keeper answers for what became of its file.
use Rattle.std.specs.Prelude.{Result, Ok, Err}
use Rattle.sqlite.specs.declared.error.Error.{Error}
use Rattle.sqlite.specs.declared.error.Error.TheVariants.{SqliteFailure}
use Rattle.sqlite.specs.declared.error.ErrorCode.TheVariants.{OutOfMemory}
use Rattle.dv_records.specs.declared.keepers.KeeperError.{KeeperError}
use Rattle.dv_records.specs.declared.keepers.KeeperError.TheVariants as answer
use Rattle.dv_sqlite.specs.declared.refusals.Refusal.{Refusal}
use Rattle.dv_sqlite.specs.declared.refusals.Refusal.TheVariants.{Fault, Memory}

-- Each error of the library is a fault, but for want of memory.
abbrev pub refusal : Error → Refusal
refusal (SqliteFailure OutOfMemory) = Memory
refusal _ = Fault

-- Want of memory is answered as that, and a fault as a failed call.
abbrev pub told : {T : Type 0} → Result T Refusal → Result T KeeperError
told (Ok value) = Ok value
told (Err Memory) = Err answer.Memory
told (Err Fault) = Err answer.Failed
