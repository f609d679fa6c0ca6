-- For code and proofs alone.
pub mod Local
pub mod Scaling
pub mod Given
pub mod Call
