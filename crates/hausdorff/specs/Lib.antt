-- Comparing two outlines: sections 4, 5 and 6 of docs/SPECIFICATION.md, and the call of rule 7.4.
pub mod Pair
pub mod Sides
pub mod CornerGap
pub mod Answer
pub mod Hausdorff
pub mod Exhaustive
pub mod AngularOrder
pub mod Support
pub mod Counted
pub mod Law
pub mod Given
pub mod Call
pub mod code
