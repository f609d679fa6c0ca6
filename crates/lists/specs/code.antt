-- For proofs alone.
pub mod Lists
