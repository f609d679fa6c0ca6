-- For code and proofs alone.
pub mod MismatchSum
pub mod Call
