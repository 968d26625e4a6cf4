-- The definitions that the contracts of `sheet` cite.
pub mod Calls
pub mod Card
pub mod Check
pub mod Due
pub mod Example
pub mod Gather
pub mod Picked
pub mod Picks
pub mod Row
pub mod Rows
pub mod RowsListed
pub mod Section
pub mod Since
pub mod Turn
