-- Laws of the check.
pub mod Laws
