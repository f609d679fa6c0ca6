-- The numbers of an input, and the cases that they make up.
pub mod Number
pub mod Cases
