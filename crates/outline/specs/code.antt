-- For code and proofs alone.
pub mod Polygon
pub mod Held
pub mod Unfilled
pub mod Writing
pub mod Checks
pub mod Turns
pub mod Reading
pub mod Either
