-- The book, lists of calls, and the claim.
pub mod Book
pub mod Breadth
pub mod Calls
pub mod Claim
pub mod Quoted
pub mod Reading
pub mod Steps
pub mod Trestles
