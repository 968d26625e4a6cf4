-- The definitions that the contracts of `arith` cite.
pub mod Bytes
pub mod Level
pub mod Saturate
pub mod Wrap
