-- For code and proofs alone.
pub mod Tests
pub mod Range
pub mod Turn
