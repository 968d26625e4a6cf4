-- Laws of writing bytes.
pub mod Laws
