-- For code and proofs alone.
pub mod Wrapping
pub mod Marks
pub mod Call
