-- For code and proofs alone.
pub mod Chain
pub mod Checks
pub mod Call
pub mod Reading
