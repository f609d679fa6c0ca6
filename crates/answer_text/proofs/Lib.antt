-- Laws of the parts of an answer as text.
pub mod AppendedLaws
pub mod LengthLaws
