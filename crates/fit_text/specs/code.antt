-- For code and proofs alone.
pub mod Input
