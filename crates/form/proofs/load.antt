-- Laws of loading.
pub mod Laws
