-- The definitions that the contracts of `form` cite, and its theorems' statements.
pub mod Entries
pub mod Form
pub mod Calls
pub mod Inner
pub mod Keeping
pub mod Example
