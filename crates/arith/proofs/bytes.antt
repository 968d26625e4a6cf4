-- Laws of numbers in lists of bytes.
pub mod Laws
