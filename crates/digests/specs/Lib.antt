-- What hashes and digests tell of two stands: the theorem's statement, and worked stands.
pub mod Digests
pub mod Example
