-- Laws of `form` that more than one module uses, and its theorems.
pub mod Answers
pub mod Back
pub mod Digested
pub mod Entries
pub mod Example
pub mod Filling
pub mod Keeping
pub mod Loaded
pub mod Loads
pub mod OwnEntries
pub mod Reading
pub mod Restoring
pub mod Same
pub mod Stored
pub mod Telling
pub mod Validity
