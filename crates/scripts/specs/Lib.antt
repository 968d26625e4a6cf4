-- The definitions of `scripts`.
pub mod Page
pub mod Quotes
pub mod Said
pub mod Sample
pub mod Says
