mod ByteLimits
mod FaultlessLaw
pub mod Limits
mod Literals
mod PathLimits
mod RecordLaw
mod StoredHubs
pub mod Vocabulary
