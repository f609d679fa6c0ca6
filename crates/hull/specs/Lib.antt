-- The convex hull of some points: rules 1.11, 1.12 and 2.10 of docs/SPECIFICATION.md, and the call of rule 7.10.
pub mod Hull
pub mod Marks
pub mod Call
pub mod code
