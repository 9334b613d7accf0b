pub mod Manifests
pub mod Meets
