-- The examples that are proved.
pub mod Cases
