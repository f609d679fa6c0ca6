-- What the calls for the benchmarks answer.
pub mod Answers
