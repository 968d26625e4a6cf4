-- Laws of the digest.
pub mod Laws
