-- Theorems of `digests`.
pub mod ByCalls
pub mod Digests
pub mod Example
