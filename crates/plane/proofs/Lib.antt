-- Laws of the plane, for the proofs here and of the crates above.
pub mod Algebra
pub mod Cone
pub mod Arithmetic
pub mod Range
pub mod Tests
pub mod Height
pub mod Points
pub mod Foot
pub mod Halves
pub mod DirectionLaws
