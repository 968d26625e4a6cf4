-- Laws of sums and products modulo 2 ^ 64.
pub mod Laws
