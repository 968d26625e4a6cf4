-- The definitions that the contracts of `exports` cite.
pub mod Edit
pub mod Keep
pub mod Panels
pub mod Prices
pub mod Reply
pub mod Rule
pub mod Slices
pub mod Walk
