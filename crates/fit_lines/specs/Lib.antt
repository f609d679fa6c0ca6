-- The lines of a comparison.
pub mod Lines
