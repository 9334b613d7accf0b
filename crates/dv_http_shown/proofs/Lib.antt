pub mod Requests
pub mod SampleHeads
pub mod Vocabulary
