-- Laws of slots inside.
pub mod Laws
