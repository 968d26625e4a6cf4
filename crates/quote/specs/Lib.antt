-- The definitions that the contracts of `quote` cite.
pub mod Fault
pub mod Fields
pub mod Number
pub mod Parse
pub mod Verb
pub mod Words
