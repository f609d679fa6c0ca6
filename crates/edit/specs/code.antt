-- For code and proofs alone.
pub mod Edit
pub mod Removal
pub mod Insertion
pub mod Writing
