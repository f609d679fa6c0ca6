-- The numbers of a refusal and of each answer, for callers in C.
pub mod Status
pub mod Results
