-- For code and proofs alone.
pub mod Pair
pub mod CornerGap
pub mod Own
pub mod Lowest
pub mod Counting
pub mod Worst
pub mod Sweep
pub mod Report
pub mod Call
pub mod Sizes
