-- Laws and proofs of `interpreter`.
pub mod Edits
pub mod Example
pub mod Prices
pub mod Writing
