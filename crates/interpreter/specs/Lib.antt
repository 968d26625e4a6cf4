-- The definitions that the contracts of `interpreter` cite.
pub mod Decode
pub mod Edits
pub mod Example
pub mod Held
pub mod Line
pub mod Room
pub mod Run
pub mod Script
pub mod Start
