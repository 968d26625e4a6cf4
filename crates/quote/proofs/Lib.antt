-- Laws of `quote`.
pub mod Decimal
