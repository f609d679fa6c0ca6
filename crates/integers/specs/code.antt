-- For code and proofs alone.
pub mod Fraction
pub mod Root
pub mod Units
