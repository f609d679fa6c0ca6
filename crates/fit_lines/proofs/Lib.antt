-- Laws of the lines of a comparison.
pub mod LengthLaws
