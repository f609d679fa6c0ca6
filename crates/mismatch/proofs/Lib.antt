-- The mismatch sum is the one number that `IsMismatchSum` admits, and what a reader would expect of it.
pub mod SumLaws
pub mod MismatchLaws
pub mod CallLaws
