-- Laws of `arith`.
pub mod Levels
pub mod Order
pub mod Product
pub mod Signed
pub mod Xor
