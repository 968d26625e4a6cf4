-- The definitions that the contracts of `stand` cite.
pub mod Answer
pub mod Cells
pub mod Edit
pub mod Feed
pub mod Fill
pub mod Hash
pub mod Opening
pub mod Read
pub mod Refusal
pub mod Shape
pub mod Sides
pub mod Sound
pub mod Storage
pub mod Solids
pub mod Extents
pub mod Lent
