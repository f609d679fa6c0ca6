-- The nearest point: section 3 of docs/SPECIFICATION.md, and the call of rule 7.3.
pub mod Piece
pub mod Feature
pub mod Nearest
pub mod Given
pub mod Search
pub mod Call
pub mod code
