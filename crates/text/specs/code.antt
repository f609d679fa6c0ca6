-- For code and proofs alone.
pub mod Words
pub mod Number
pub mod Output
