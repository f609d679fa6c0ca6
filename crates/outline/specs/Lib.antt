-- Outlines, and what reading one refuses: sections 1 and 2 of docs/SPECIFICATION.md.
pub mod Corners
pub mod Convex
pub mod Orientation
pub mod Fault
pub mod Refusal
pub mod Conditions
pub mod Reading
pub mod EitherReading
pub mod code
