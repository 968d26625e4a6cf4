-- Laws of storing.
pub mod Laws
pub mod Slots
